-- No limit is told by a cap: a number that lies within its limits was not changed, and one that lies beyond still does.
use Rattle.std.proofs.Common.{ℕ, zero, suc, ◌+◌, ◌/◌, ◌≤◌, ◌<◌, min}
use mathlib.Core.Path.{◌≡◌, refl, sym, ◌∙◌}
use mathlib.Core.Bool.{Bool, true, false}
use native.Mathlib.Decide.{dec_lt}
use native.Mathlib.Numerals.{add-one}
use native.Mathlib.Omega.{arith}
use borrow.Author.Tests.{le-ltb, ltb-true}
use lib.Dec.{ltb}
use lib.IntN.{ℤ, pos, negsuc, neg_ℤ, nat_abs}
use lib.Signed.{le_z}
use Rattle.numbers.proofs.Integers.{zarith}
use Rattle.terms.specs.Checks.{in_range}
use Rattle.terms.specs.Reply.{Reply, need}
use Rattle.partner.specs.declared.form.Form.{Form}
use Rattle.partner.specs.declared.limits.Places.{Places}
use Rattle.partner.specs.Line.{within, line_in}
use Rattle.partner.specs.Inner.{quarter_cap, least_kwh, least_z, capped_form}
use Rattle.partner.proofs.RoundTrip.{Limited}

-- ---- a quarter
quarter-kept : (n : ℕ) → ltb (min quarter_cap n) 100 ≡ ltb n 100
quarter-kept n = go (dec_lt n quarter_cap)
  where
    go : Dec (n < quarter_cap) → ltb (min quarter_cap n) 100 ≡ ltb n 100
    go (yes l) =
        let e : min quarter_cap n ≡ n = omega arith in
        rw e
    go (no l) = le-ltb (min quarter_cap n) 100 (omega arith) ∙ sym (le-ltb n 100 (omega arith))

-- ---- an amount
kwh-is : (n : ℕ) → n / 1000 < 1001 → least_kwh n ≡ n
kwh-is n h = omega arith

kwh-large : (n : ℕ) → 1001 ≤ n / 1000 → 1000000 < least_kwh n
kwh-large n h = omega arith

amount-is : (z : ℤ) → nat_abs z / 1000 < 1001 → least_z z ≡ z
amount-is (pos n) h = rw (kwh-is n h)
amount-is (negsuc n) h = rw (add-one, kwh-is (suc n) h)

size_below : (k : ℕ) → nat_abs (neg_ℤ (pos k)) ≡ k
size_below zero = refl
size_below (suc k) = refl

amount-large : (z : ℤ) → 1001 ≤ nat_abs z / 1000 → 1000000 < nat_abs (least_z z)
amount-large (pos n) h = kwh-large n h
amount-large (negsuc n) h =
    rw (size_below (least_kwh (n + 1))) (kwh-large (n + 1) (omega arith))

beyond : (z : ℤ) → 1000000 < nat_abs z → in_range z ≡ false
beyond (pos n) h =
    let m : le_z (pos n) (pos 1000000) ≡ false = omega zarith in
    rw m
beyond (negsuc n) h =
    let l : le_z (neg_ℤ (pos 1000000)) (negsuc n) ≡ false = omega zarith in
    rw l

range-kept : (z : ℤ) → in_range (least_z z) ≡ in_range z
range-kept z = go (dec_lt (nat_abs z / 1000) 1001)
  where
    go : Dec (nat_abs z / 1000 < 1001) → in_range (least_z z) ≡ in_range z
    go (yes l) = rw (amount-is z l)
    go (no l) = beyond (least_z z) (amount-large z (omega arith)) ∙ sym (beyond z (omega arith))

pub range-is : (z : ℤ) → in_range z ≡ true → least_z z ≡ z
range-is z e = go (dec_lt (nat_abs z / 1000) 1001)
  where
    go : Dec (nat_abs z / 1000 < 1001) → least_z z ≡ z
    go (yes l) = amount-is z l
    go (no l) =
        let f = beyond z (omega arith) in
        cc

-- ---- a line
-- their order is asked only of margins within their range
order-kept : {A : Type 0} (d u : ℤ) (a b : ℕ) (rest : Reply A)
    → need (in_range d) 8 a (need (in_range u) 8 b (need (le_z (least_z d) (least_z u)) 9 b rest)) ≡ need (in_range d) 8 a (need (in_range u) 8 b (need (le_z d u) 9 b rest))
unfolding need
order-kept d u a b rest = go (in_range d) refl (in_range u) refl
  where
    go : (t : Bool) → in_range d ≡ t → (v : Bool) → in_range u ≡ v
        → need t 8 a (need v 8 b (need (le_z (least_z d) (least_z u)) 9 b rest)) ≡ need t 8 a (need v 8 b (need (le_z d u) 9 b rest))
    go true e true f = rw (range-is d e, range-is u f)
    go true e false f = refl
    go false e v f = refl

pub within-kept : {A : Type 0} (f : Form) (at : Places) (rest : Reply A) → within (line_in (capped_form f)) at rest ≡ within (line_in f) at rest
unfolding within
within-kept f at rest =
    rw
    (quarter-kept f.quarter.value, range-kept f.n.value, range-kept f.step_down.value, range-kept f.step_up.value, order-kept f.step_down.value f.step_up.value at.step_down at.step_up rest)

pub line_kept : (f : Form) → Limited (line_in f) → line_in (capped_form f) ≡ line_in f
line_kept f p =
    let e : min quarter_cap f.quarter.value ≡ f.quarter.value = omega (arith, ltb-true f.quarter.value 100 p.quarter) in
    rw (e, range-is f.n.value p.n, range-is f.step_down.value p.down, range-is f.step_up.value p.up)
