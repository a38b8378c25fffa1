-- "Which no run of calls gives": the days that runs of calls give.
use Rattle.std.specs.Prelude.{ℕ, List}
use Rattle.numbers.specs.Bytes.{Bytes}
use Rattle.day.specs.declared.value.Day.{Day}
use Rattle.day.specs.Outcome.{Offered}
use Rattle.day.specs.Days.{fresh}
use Rattle.day.specs.Offers.{day_back, Offers, OffersBlock}

-- the fresh day, and whatever day comes back when bytes are offered to a day that was reached, taken or refused, in any room
pub data Reached : Day → Type 0 where
  begun : Reached fresh
  offered : (day : Day) (s entry exit : List ℕ) (r : Offered) → Reached day → Bytes s → Offers day s entry r exit → Reached (day_back r)
  alone : (day : Day) (s entry exit : List ℕ) (r : Offered) → Reached day → Bytes s → OffersBlock day s entry r exit → Reached (day_back r)
