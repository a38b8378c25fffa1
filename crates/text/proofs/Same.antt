-- Two texts are the same where the library's comparison of two slices says so.
use Prim.Native.Nat.{ℕ}
use mathlib.Core.Path.{◌≡◌, refl}
use mathlib.Core.List.{List, [], ◌∷◌}
use native.Mathlib.Omega.{arith}
use Rattle.std.proofs.lemmas.Bool.Decides.{nat_tests}
use lib.Dec.{eqb}
use lib.Pointwise.{pointwise}
use Rattle.text.specs.Line.{same}

eqb_turned : (a b : ℕ) → eqb a b ≡ eqb b a
eqb_turned a b = grind (arith, nat_tests)

pub same_all : (s t : List ℕ) → pointwise eqb s t ≡ same s t
unfolding same
same_all [] [] = refl
same_all [] (b ∷ t) = refl
same_all (a ∷ s) [] = refl
same_all (a ∷ s) (b ∷ t) = rw (same_all s t)

pub same_turned : (s t : List ℕ) → pointwise eqb s t ≡ same t s
unfolding same
same_turned [] [] = refl
same_turned [] (b ∷ t) = refl
same_turned (a ∷ s) [] = refl
same_turned (a ∷ s) (b ∷ t) = rw (same_turned s t, eqb_turned a b)
