-- What inner functions ask of each other: no promise rests on it.
use Rattle.std.specs.Prelude.{ℕ, ◌+◌, ◌≤◌, ◌<◌, ◌≡◌, true, List, leb, ℤ, length, Result}
use Rattle.terms.specs.Refusals.{reply}
use Rattle.terms.specs.declared.refusal.Refusal.{Refusal}
use Rattle.numbers.specs.Bytes.{laid_at}
use Rattle.terms.specs.Reply.{Reply, is, refused, need, next}
use Rattle.group.specs.Inner.{zeros}
use Rattle.records.specs.declared.day.DayRecord.{DayRecord}
use Rattle.records.specs.declared.group.GroupRecord.{GroupRecord}
use Rattle.records.specs.Layouts.{unit_result_length}
use Rattle.records.specs.Reading.{unit_end, unit_place}
use Rattle.records.specs.Inner.{is_whole}
use Rattle.writers.specs.Results.{result_length}
use Rattle.blocks.specs.declared.check.Block.{Block}
use Rattle.blocks.specs.Checking.{block_units_of}
use Rattle.decode.specs.Block.{block_count}
use Rattle.decode.specs.Inner.{Passed, Decoded}
use Rattle.blocks.specs.Blocks.{block_result}

-- a block's units, then 12, and its result in the room
unfoldable pub units_taken : List ℕ → GroupRecord → DayRecord → ℕ → Reply Block
units_taken s group day room =
    next (block_units_of s group day) λ block.
    need (leb block.written room) 12 0
    (is block)

unfoldable pub block_after : Reply Block → List ℕ → List ℕ → List ℕ
block_after (is block) bytes room = laid_at room 0 bytes
block_after (refused number place) bytes room = room

pub record Taking (s : List ℕ) (group : GroupRecord) (day : DayRecord) (entry : List ℕ) (r : Result Block Refusal) (exit : List ℕ) : Type 0 where
  pub replied : reply r ≡ units_taken s group day (length entry)
  pub room : exit ≡ block_after (units_taken s group day (length entry)) (block_result s) entry

-- a block that passed, in the columns that it was read into, with a column for n1, one of zeros for what each unit loses, and room for its result
pub record Ready (s : List ℕ) (p : ℤ) (class taken : List ℕ) (n0 n1 : List ℤ) (losses : List ℕ) (down up : List ℤ) (room : List ℕ) : Type 0 where
  pub passed : Passed s
  pub decoded : Decoded s p class taken n0 down up
  pub firsts : length n1 ≡ block_count s
  pub nothing : losses ≡ zeros (block_count s)
  pub enough : result_length (block_count s) ≤ length room

-- the unit of an index has its record in the block and room for its result
pub record UnitLaying (i count : ℕ) (s : List ℕ) (here : ℕ) (room : List ℕ) (to : ℕ) : Type 0 where
  pub below : i < count
  pub bytes : unit_end s here ≤ length s
  pub enough : to + unit_result_length ≤ length room

-- so does every unit of so many
pub record Laying (s : List ℕ) (count : ℕ) (room : List ℕ) : Type 0 where
  pub there : (i : ℕ) → i < count → is_whole s (unit_place s i) ≡ true
  pub enough : result_length count ≤ length room
