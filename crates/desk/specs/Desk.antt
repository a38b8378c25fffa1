-- "Ways in": the desk's screen program hands over day bytes, one block and room, and gets back the written length, or minus the refusal number and no place.
use Rattle.std.specs.Prelude.{ℕ, ◌≡◌, List, ℤ, pos, neg_ℤ, length}
use Rattle.terms.specs.Reply.{Reply, is, refused, next}
use Rattle.records.specs.declared.day.DayRecord.{DayRecord}
use Rattle.records.specs.Reading.{day_of}
use Rattle.walk.specs.Table.{block_head_in}
use Rattle.day.specs.Outcome.{Step}
use Rattle.day.specs.Days.{opened}
use Rattle.blocks.specs.Blocks.{block_result}
use Rattle.day.specs.Offers.{offer_of, room_after}

-- the block counts as the first of its day; one that opens with a kind other than 02h is 2
unfoldable pub first_of : DayRecord → List ℕ → ℕ → Reply Step
first_of d block room =
    next (block_head_in block 0 (opened d).state) λ _.
    offer_of (opened d) block room

-- the day bytes are judged first
unfoldable pub call_of : List ℕ → List ℕ → ℕ → Reply Step
call_of day block room = next (day_of day) λ d. first_of d block room

unfoldable pub given : Reply Step → ℤ
given (is step) = pos step.written
given (refused number place) = neg_ℤ (pos number)

-- the reply and the room are the right ones
pub record Gives (right : Reply Step) (block entry : List ℕ) (reply : ℤ) (exit : List ℕ) : Type 0 where
  pub replied : reply ≡ given right
  pub room : exit ≡ room_after right (block_result block) entry

abbrev pub Checks : List ℕ → List ℕ → List ℕ → ℤ → List ℕ → Type 0
Checks day block entry reply exit = Gives (call_of day block (length entry)) block entry reply exit
