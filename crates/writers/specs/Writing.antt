-- "Numbers given back", for the writers: a refusal writes nothing, and an accepted call writes its record and no byte of the room beyond it.
use Rattle.std.specs.Prelude.{ℕ, zero, suc, ◌+◌, ◌≡◌, List, ◌++◌, leb, ltb, length, drop, Result}
use Rattle.terms.specs.Reply.{Reply, is, refused, need, next}
use Rattle.terms.specs.Refusals.{reply, first_fault}
use Rattle.terms.specs.Checks.{unit_count}
use Rattle.records.specs.declared.day.DayRecord.{DayRecord}
use Rattle.records.specs.declared.group.GroupRecord.{GroupRecord}
use Rattle.records.specs.declared.end.EndRecord.{EndRecord}
use Rattle.records.specs.Layouts.{day_bytes, day_length_of, group_length, group_with, group_bytes, unit_bytes, length_of, end_length, end_bytes}
use Rattle.records.specs.Reading.{permitted}
use Rattle.writers.specs.Runs.{run}
use Rattle.writers.specs.Columns.{Columns, row_of, count, even, row_checks}
use Rattle.terms.specs.declared.refusal.Refusal.{Refusal}

-- the room after a reply: the bytes and then the rest of it, or the room as it was
unfoldable pub laid : Reply ℕ → List ℕ → List ℕ → List ℕ
laid (is length) bytes room = bytes ++ drop length room
laid (refused number place) bytes room = room

-- a writer's answer and its room are the right ones
pub record Wrote (right : Reply ℕ) (bytes entry : List ℕ) (r : Result ℕ Refusal) (exit : List ℕ) : Type 0 where
  pub replied : reply r ≡ right
  pub room : exit ≡ laid right bytes entry

-- 12 where the room is below the record, whose length is told else
unfoldable pub room_for : ℕ → ℕ → Reply ℕ
room_for bytes room = need (leb bytes room) 12 0 (is bytes)

-- day: 3, 12, by the length that its record has
unfoldable pub write_day_of : DayRecord → ℕ → Reply ℕ
write_day_of d room = need (permitted d.quarters) 3 0 (room_for (day_length_of d) room)

abbrev pub DayWritten : DayRecord → List ℕ → Result ℕ Refusal → List ℕ → Type 0
DayWritten d entry r exit = Wrote (write_day_of d (length entry)) (day_bytes d) entry r exit

-- end: 12
unfoldable pub write_end_of : ℕ → Reply ℕ
write_end_of room = room_for end_length room

abbrev pub EndWritten : EndRecord → List ℕ → Result ℕ Refusal → List ℕ → Type 0
EndWritten e entry r exit = Wrote (write_end_of (length entry)) (end_bytes e) entry r exit

-- a group of so many units: 4, 5
unfoldable pub group_checks : GroupRecord → ℕ → Reply ℕ
group_checks g units = need (ltb g.quarter 100) 4 0 (need (unit_count units) 5 0 (is units))

-- where the records of so many units end: each begins where the one before ends, the first behind the group record
unfoldable pub units_end : Columns → ℕ → ℕ
units_end c zero = group_length
units_end c (suc i) = units_end c i + length_of (row_of c i)

abbrev pub block_length : Columns → ℕ
block_length c = units_end c (count c)

-- each unit's faults, in their order and at its index; the block's length where all pass
unfoldable pub units_checked : Columns → Reply ℕ
units_checked c = next (first_fault (row_checks c) 0 (count c)) λ _. is (block_length c)

-- block: 15, 4, 5, its units, then 12
unfoldable pub write_block_of : GroupRecord → Columns → ℕ → Reply ℕ
write_block_of g c room =
    need (even c) 15 0
    (next (group_checks g (count c)) λ _.
    next (units_checked c) λ bytes.
    room_for bytes room)

-- the group record, whose count is that of the columns' units, and then the units' records
abbrev pub group_over : GroupRecord → Columns → GroupRecord
group_over g c = group_with g.brp g.zone g.quarter (count c) g.made

unfoldable pub units_bytes : Columns → ℕ → List ℕ
units_bytes c units = run (λ (i : ℕ). unit_bytes (row_of c i)) units

unfoldable pub block_bytes : GroupRecord → Columns → List ℕ
block_bytes g c = group_bytes g ++ units_bytes c (count c)

abbrev pub BlockWritten : GroupRecord → Columns → List ℕ → Result ℕ Refusal → List ℕ → Type 0
BlockWritten g c entry r exit = Wrote (write_block_of g c (length entry)) (block_bytes (group_over g c) c) entry r exit
