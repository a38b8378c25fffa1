-- "Ways in", a walk over a day lying whole in lent memory, and "Numbers given back", Order: the walker follows the same table and gives a whole block as one extent.
use Rattle.std.specs.Prelude.{ℕ, zero, suc, ◌+◌, ◌&&◌, List, [], ◌∷◌, eqb, ltb, length, Option, Some, None}
use Rattle.numbers.specs.Choice.{pick}
use Rattle.terms.specs.Reply.{Reply, is, refused, need, next}
use Rattle.records.specs.Layouts.{group_length, group_count, group_at}
use Rattle.terms.specs.Checks.{unit_count}
use Rattle.records.specs.Reading.{unit_head_of}
use Rattle.walk.specs.declared.table.State.{State}
use Rattle.walk.specs.declared.table.Head.{Head}
use Rattle.walk.specs.declared.step.Extent.{Extent}
use Rattle.walk.specs.Table.{is_block, state_after, is_closed, head_in}

-- where so many units from a place on end: each unit's 2 and 1
unfoldable pub heads_of : List ℕ → ℕ → ℕ → Reply ℕ
heads_of s at zero = is at
heads_of s at (suc left) = next (unit_head_of s at) λ end. heads_of s end left

-- where the block at a place ends: of the fields only 5, then each unit's 2 and 1
unfoldable pub block_end_of : List ℕ → ℕ → Reply ℕ
block_end_of s at =
    need (unit_count (group_at s at).count) 5 (at + group_count.place)
    (heads_of s (at + group_length) (group_at s at).count)

-- where a record ends whose head was read; a whole block is one extent
unfoldable pub whole_of : List ℕ → ℕ → Head → Reply ℕ
whole_of s at head = pick (is_block head.role) (block_end_of s at) (is head.end)

-- the record that is to begin at a place: its order by the table, and its extent
unfoldable pub record_of : List ℕ → State → ℕ → Reply (Option Extent)
record_of s state at =
    next (head_in s at state) λ head.
    next (whole_of s at head) λ end.
    is (Some (record { start = at; end = end; after = state_after head.role }))

-- a place past the end counts as the end
abbrev pub place_in : List ℕ → ℕ → ℕ
place_in s place = pick (ltb place (length s)) place (length s)

-- closed with nothing left it is done, and else there is a record to come
unfoldable pub step_of : List ℕ → State → ℕ → Reply (Option Extent)
step_of s state place =
    pick (is_closed state && eqb (place_in s place) (length s)) (is None) (record_of s state (place_in s place))

-- the walk from a place on, of so many records at most: their extents, and the reply that comes after them
pub record Walked : Type 0 where
  pub extents : List Extent
  pub reply : Reply (Option Extent)

-- the next record starts where the one before ends; a refusal or done ends the walk
abbrev pub follow : Reply (Option Extent) → (Extent → Walked) → Walked
follow (is (Some e)) rest = record { extents = e ∷ (rest e).extents; reply = (rest e).reply }
follow (is None) rest = record { extents = []; reply = is None }
follow (refused number place) rest = record { extents = []; reply = refused number place }

unfoldable pub walk_from : List ℕ → State → ℕ → ℕ → Walked
walk_from s state place zero = record { extents = []; reply = step_of s state place }
walk_from s state place (suc more) = follow (step_of s state place) λ e. walk_from s e.after e.end more
