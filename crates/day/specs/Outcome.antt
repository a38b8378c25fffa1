-- "Numbers given back", for an offer: what was used and written and the day after it, or the refusal and the day as it comes back.
use Rattle.std.specs.Prelude.{ℕ, Result, Ok, Err}
use Rattle.terms.specs.declared.refusal.Refusal.{Refusal}
use Rattle.day.specs.declared.value.Day.{Day}
use Rattle.day.specs.declared.offer.Lengths.{Lengths}

-- what an accepted offer leaves: how many bytes were used, how many written, and the new day
pub record Step : Type 0 where
  pub used : ℕ
  pub written : ℕ
  pub day : Day

pub data Offered : Type 0 where
  Taken : Step → Offered
  Refused : Refusal → Day → Offered

-- an answer, with the day as the call left it
abbrev pub step_with : Lengths → Day → Step
step_with n day = record { used = n.used; written = n.written; day = day }

abbrev pub outcome : Result Lengths Refusal → Day → Offered
outcome (Ok n) day = Taken (step_with n day)
outcome (Err r) day = Refused r day
