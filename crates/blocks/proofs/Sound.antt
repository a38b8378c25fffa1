-- The units of a block that pass are, as a group, one that is accepted: each is in its range.
use Prim.Native.Nat.{ℕ, ◌≤◌, ◌<◌}
use mathlib.Core.Path.{◌≡◌, refl}
use mathlib.Core.List.{List}
use native.Mathlib.Omega.{arith}
use native.Mathlib.Decide.{dec_lt}
use lib.IntN.{ℤ, pos}
use lib.ListN.{length, get_or}
use Rattle.numbers.specs.Column.{column, at}
use Rattle.numbers.proofs.Integers.{zarith}
use Rattle.numbers.proofs.Columns.{column-length, column-at, column-past}
use Rattle.terms.specs.Reply.{is}
use Rattle.terms.specs.Checks.{most_units}
use Rattle.group.specs.Accepted.{Level, Sound, Accepted}
use Rattle.group.specs.Group.{margins_at}
use Rattle.records.specs.declared.day.DayRecord.{DayRecord}
use Rattle.records.specs.Layouts.{group_length, margins_of}
use Rattle.records.specs.Reading.{units_of, unit_in}
use Rattle.records.specs.Decoding.{unit_n0}
use Rattle.records.proofs.Accepted.{unit-in}
use Rattle.blocks.specs.Blocks.{group_in}

-- the columns of a block are of one length
level_in : (s : List ℕ) (count : ℕ) → Level (group_in s count)
level_in s count =
    let n : length (group_in s count).n0 ≡ count = column-length _ count in
    record {
      positions = rw (n, column-length _ count);
      downs = rw (n, column-length _ count);
      ups = rw (n, column-length _ count);
      classes = rw (n, column-length _ count);
    }

module _ (s : List ℕ) (day : DayRecord) (count : ℕ) {end : ℕ} (long : group_length ≤ length s) (few : count ≤ most_units) (e : units_of s group_length 0 day count ≡ is end) where
  -- as a group, each unit is sound, and past the last there is nothing to refuse
  pub units-accepted : Accepted (group_in s count)
  units-accepted =
      let n : length (group_in s count).n0 ≡ count = column-length _ count in
      record { few = rw n few; level = level_in s count; sound = λ i. go i (dec_lt i count) }
    where
      class : ℕ → ℕ
      class j = (unit_in s j).class

      n0 : ℕ → ℤ
      n0 j = unit_n0 (unit_in s j)

      pc : ℕ → ℤ
      pc j = (unit_in s j).pc.0

      down : ℕ → ℤ
      down j = (margins_of (unit_in s j)).step_down

      up : ℕ → ℤ
      up j = (margins_of (unit_in s j)).step_up

      go : (i : ℕ) → Dec (i < count)
          → Sound (get_or (column count class) i 0) (at (column count n0) i) (at (column count pc) i) (margins_at (column count down) (column count up) i)
      go i (yes l) =
          let u = unit-in s day count long e i l in
          rw (column-at class count i 0 l, column-at n0 count i (pos 0) l, column-at pc count i (pos 0) l, column-at down count i (pos 0) l, column-at up count i (pos 0) l)
          (record { known = u.class; n0-small = u.n0; pc-small = u.pc; down-small = u.step_down; up_small = u.step-up; ordered = u.ordered })
      go i (no l) =
          let h : count ≤ i = omega arith in
          rw (column-past class count i 0 h, column-past n0 count i (pos 0) h, column-past pc count i (pos 0) h, column-past down count i (pos 0) h, column-past up count i (pos 0) h)
          (record { known = refl; n0-small = omega zarith; pc-small = omega zarith; down-small = omega zarith; up_small = omega zarith; ordered = refl })
