-- What a field's check that passed, or failed, says of its test.
use Rattle.std.specs.Prelude.{Result, Ok, Err}
use Prim.Native.Nat.{ℕ}
use mathlib.Core.Path.{◌≡◌, refl, sym, ◌∙◌}
use mathlib.Core.Bool.{Bool, true, false}
use native.Mathlib.Omega.{arith}
use lib.IntN.{ℤ, pos, neg_ℤ}
use lib.Signed.{le_z}
use mir.Syntax.{w32}
use mir.Val.{to_z, of_z}
use Rattle.numbers.specs.Range.{Within}
use Rattle.numbers.proofs.Integers.{zarith, one_side}
use Rattle.numbers.proofs.Choices.{and_both}
use Rattle.terms.specs.Refusals.{check}
use Rattle.terms.specs.Checks.{in_range}
use Rattle.terms.specs.declared.refusal.Fault.{Fault}

apart : {P : Type 0} {f : Fault} → ◌≡◌ {A = Result Unit Fault} (Ok tt) (Err f) → P
apart e =
    let z : ◌≡◌ {A = ℕ} 0 1 = cc in
    absurd (omega arith)

pub passes : (t : Bool) (f : Fault) (rest : Result Unit Fault) → check t f rest ≡ Ok tt → (t ≡ true) × (rest ≡ Ok tt)
unfolding check
passes true f rest e = (refl, e)
passes false f rest e = apart (sym e)

pub fails : (t : Bool) (f g : Fault) → check t f (Ok tt) ≡ Err g → t ≡ false
unfolding check
fails true f g e = apart e
fails false f g e = refl

-- a field's answer that is a fault is that of all checks from it on
pub ended : (t : Bool) (f : Fault) (rest : Result Unit Fault) {r : Result Unit Fault} {g : Fault} → r ≡ check t f (Ok tt) → r ≡ Err g → r ≡ check t f rest
unfolding check
ended true f rest e h = apart (sym e ∙ h)
ended false f rest e h = e

-- of a quantity that was checked as the machine reads it back from its bits
module _ {z : ℤ} {r : Result Unit Fault} (back : to_z w32 (of_z w32 z) ≡ z) (f : Fault) (e : r ≡ check (in_range (to_z w32 (of_z w32 z))) f (Ok tt)) where
  plain : r ≡ check (in_range z) f (Ok tt)
  plain = rw back at e

  pub in-range : r ≡ Ok tt → in_range z ≡ true
  in-range h = (passes (in_range z) f (Ok tt) (sym plain ∙ h)).0

  pub out_of_range : {g : Fault} → r ≡ Err g → in_range z ≡ false
  out_of_range {g} h = fails (in_range z) f g (sym plain ∙ h)

  pub ends : (rest : Result Unit Fault) {g : Fault} → r ≡ Err g → r ≡ check (in_range z) f rest
  ends rest h = ended (in_range z) f rest plain h

-- a quantity in its range
pub range-within : (z : ℤ) → in_range z ≡ true → Within 1000000 z
range-within z e =
    let p = and_both (le_z (neg_ℤ (pos 1000000)) z) (le_z z (pos 1000000)) e in
    omega (zarith, one_side z)
