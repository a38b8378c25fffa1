-- "Another party's block": a whole day, offered part by part from a fresh day on.
use Rattle.std.specs.Prelude.{ℕ, ◌+◌, ◌≡◌, List, [], ◌∷◌, ◌++◌, length, take}
use Rattle.numbers.specs.Bytes.{byte_at}
use Rattle.walk.specs.declared.table.State.TheVariants.{Closed}
use Rattle.walk.specs.declared.step.Extent.{Extent}
use Rattle.walk.specs.Table.{role_of, state_after}
use Rattle.walk.specs.Extents.{from}
use Rattle.day.specs.declared.value.Day.{Day}
use Rattle.day.specs.Outcome.{Step}
use Rattle.day.specs.Outcome.{Taken}
use Rattle.day.specs.Days.{fresh}
use Rattle.day.specs.Offers.{Offers}

-- a record or block of a day, with its result bytes
pub record Part : Type 0 where
  pub bytes : List ℕ
  pub result : List ℕ

abbrev pub part : List ℕ → List ℕ → Part
part bytes result = record { bytes = bytes; result = result }

-- parts offered one after another, each in a room of its own and taken with all its bytes: the day that each leaves is the day of the next
pub data Run : Day → List Part → Day → Type 0 where
  none : {day : Day} → Run day [] day
  more : {day end : Day} {s entry exit : List ℕ} {step : Step} {rest : List Part} → Offers day s entry (Taken step) exit → step.used ≡ length s
      → Run step.day rest end → Run day (part s (take step.written exit) ∷ rest) end

-- an accepted day is one day record, blocks, one end record
pub record AcceptedDay (day : List ℕ) (blocks : List Part) (end : List ℕ) : Type 0 where
  pub left : Day
  pub run : Run fresh (part day [] ∷ blocks ++ (part end [] ∷ [])) left
  pub closed : left.state ≡ Closed

-- the bytes of a day that lies whole, and the extent of each of its parts
abbrev pub joined : List Part → List ℕ
joined [] = []
joined (p ∷ ps) = p.bytes ++ joined ps

abbrev pub extents_from : ℕ → List Part → List Extent
extents_from at [] = []
extents_from at (p ∷ ps) = from at (at + length p.bytes) (state_after (role_of (byte_at p.bytes 0))) ∷ extents_from (at + length p.bytes) ps
