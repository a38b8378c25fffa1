-- "Another party's block": refusals 13 and 14 may depend on other blocks.
use Rattle.std.specs.Prelude.{ℕ, ◌≡◌}
use mathlib.Core.List.{List, [], ◌∷◌, Memᴰ}
use Rattle.terms.specs.Reply.{Reply, is, refused}
use Rattle.walk.specs.declared.table.Role.{Role}
use Rattle.walk.specs.declared.table.Role.TheVariants.{Opens, Block, Closes}
use Rattle.day.specs.declared.offer.Lengths.{Lengths}
use Rattle.day.specs.Outcome.{Step}

-- the refusals of each record that may depend on other blocks, and no others
abbrev pub others_of : Role → List ℕ
others_of Opens = []
others_of Block = 13 ∷ []
others_of Closes = 14 ∷ []

-- a refusal by one of them
pub data ByOthers {A : Type 0} (role : Role) (reply : Reply A) : Type 0 where
  by : (number place : ℕ) → Memᴰ number (others_of role) → reply ≡ refused number place → ByOthers role reply

-- of two replies to the same bytes one is such a refusal, or they agree
pub data Agrees {A : Type 0} (role : Role) (x y : Reply A) (same : Type 0) : Type 0 where
  this : ByOthers role x → Agrees role x y same
  that : ByOthers role y → Agrees role x y same
  agreed : same → Agrees role x y same

-- what a reply tells beside the day: the refusal, or the bytes used and written
abbrev pub lengths_of : Reply Step → Reply Lengths
lengths_of (is step) = is (record { used = step.used; written = step.written })
lengths_of (refused number place) = refused number place
