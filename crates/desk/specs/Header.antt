-- include/flehwella.h: what the C call gives back.
use Rattle.std.specs.Prelude.{ℕ, ◌≤◌, ◌≡◌, ℤ, pos, neg_ℤ}
use mathlib.Core.List.{List, [], ◌∷◌, Memᴰ}
use Rattle.numbers.specs.Bytes.{byte_at}
use Rattle.terms.specs.Reply.{is}
use Rattle.records.specs.declared.day.DayRecord.{DayRecord}
use Rattle.records.specs.Reading.{day_of}
use Rattle.records.specs.Longest.{longest_result}
use Rattle.writers.specs.Results.{result_length}
use Rattle.walk.specs.declared.table.Role.TheVariants.{Block}
use Rattle.walk.specs.Table.{role_of}
use Rattle.day.specs.Outcome.{Step}
use Rattle.day.specs.Outcome.{Taken}
use Rattle.day.specs.Days.{opened}
use Rattle.day.specs.Offers.{Offers}

-- the refusals that the call gives: those that docs/refusals.txt marks `call`, to which tests/refusals holds this list
abbrev pub call_numbers : List ℕ
call_numbers = 1 ∷ 2 ∷ 3 ∷ 4 ∷ 5 ∷ 6 ∷ 7 ∷ 8 ∷ 9 ∷ 10 ∷ 11 ∷ 12 ∷ 17 ∷ 18 ∷ 19 ∷ []

-- the length of a result, from that of one unit to the longest, or minus one of these numbers; never 0
pub data Replied : ℤ → Type 0 where
  length : (n : ℕ) → result_length 1 ≤ n → n ≤ longest_result → Replied (pos n)
  refusal : (n : ℕ) → Memᴰ n call_numbers → Replied (neg_ℤ (pos n))

-- the block was offered to the day just opened, and taken with so many bytes written
pub record CallTaken (day block entry : List ℕ) (n : ℕ) (exit : List ℕ) : Type 0 where
  pub opens : DayRecord
  pub read : day_of day ≡ is opens
  pub step : Step
  pub is_block : role_of (byte_at block 0) ≡ Block
  pub taken : Offers (opened opens) block entry (Taken step) exit
  pub told : n ≡ step.written
