-- Where the place of a refusal lies in what was offered: in a unit record of a block, or, as in none, in the front record.
use Rattle.std.specs.Prelude.{ℕ, zero, suc, ◌+◌, Bool, ◌&&◌, List, Option, Some, None, leb, ltb, length}
use Rattle.numbers.specs.Bytes.{byte_at}
use Rattle.numbers.specs.Choice.{pick}
use Rattle.records.specs.Layouts.{group_length, group_at}
use Rattle.records.specs.Reading.{unit_end}
use Rattle.walk.specs.Table.{role_of, is_block}
use Rattle.finding.specs.declared.spot.UnitSpot.{UnitSpot}

-- a group record lies whole in front of the bytes
abbrev pub group_whole : List ℕ → Bool
group_whole s = leb group_length (length s) && is_block (role_of (byte_at s 0))

-- a unit record lies from its place to its end: the one in which a place lies, of so many that follow one another
unfoldable pub spot_from : List ℕ → ℕ → ℕ → ℕ → ℕ → ℕ → Option UnitSpot
spot_from s place index at before zero = None
spot_from s place index at before (suc left) =
    pick (ltb place (unit_end s at)) (Some (record { index = index; at = at; before = before })) (spot_from s place (index + 1) (unit_end s at) at left)

-- the first unit record begins behind the group record, which tells how many there are
unfoldable pub spot_of : List ℕ → ℕ → Option UnitSpot
spot_of s place = pick (group_whole s && leb group_length place) (spot_from s place 0 group_length group_length (group_at s 0).count) None

-- the place of the record in which a place lies, and that of the unit record before
abbrev pub record_at : Option UnitSpot → ℕ
record_at None = 0
record_at (Some u) = u.at

abbrev pub before_at : Option UnitSpot → ℕ
before_at None = 0
before_at (Some u) = u.before
