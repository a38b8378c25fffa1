-- "Numbers given back": what a call answers is values, or a refusal's number and place; the first refused field ends the reading.
use Rattle.std.specs.Prelude.{ℕ, Bool, true, false}

pub data Reply (A : Type 0) : Type 0 where
  is : A → Reply A
  refused : ℕ → ℕ → Reply A

-- the refusal with this number and place, unless the test holds
unfoldable pub need : {A : Type 0} → Bool → ℕ → ℕ → Reply A → Reply A
need true number place rest = rest
need false number place rest = refused number place

-- what comes after a reading that is not refused
unfoldable pub next : {A B : Type 0} → Reply A → (A → Reply B) → Reply B
next (is a) rest = rest a
next (refused number place) rest = refused number place
