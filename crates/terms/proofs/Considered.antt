-- N is 0 where not nominated, so the considered nomination is -PC where it is implicit, and else N.
use Prim.Native.Nat.{ℕ}
use mathlib.Core.Path.{◌≡◌, refl}
use mathlib.Core.Bool.{Bool, true, false, not, ◌&&◌, ◌||◌}
use lib.Dec.{eqb}
use lib.IntN.{ℤ, pos, neg_ℤ}
use lib.Signed.{le_z}
use Rattle.numbers.specs.Choice.{pick, eq_z}
use Rattle.numbers.proofs.Choices.{and_both}
use Rattle.numbers.proofs.Integers.{zarith}
use Rattle.terms.specs.Quantities.{takes_sold, implicit, considered_of}

pub considered-by : (class nominated coincide : ℕ) (n pc : ℤ) → eqb nominated 1 || eq_z n (pos 0) ≡ true
    → pick (implicit class nominated coincide) (neg_ℤ pc) n ≡ considered_of class nominated coincide n pc
considered-by class nominated coincide n pc e = go (eqb nominated 1) (takes_sold class coincide) e
  where
    go : (t sold : Bool) → t || eq_z n (pos 0) ≡ true → pick (not t && sold) (neg_ℤ pc) n ≡ pick t n (pick sold (neg_ℤ pc) (pos 0))
    go true sold e = refl
    go false sold e =
        let b = and_both (le_z n (pos 0)) (le_z (pos 0) n) e in
        let low = b.0 in
        let high = b.1 in
        let z : n ≡ pos 0 = omega zarith in
        rw z
