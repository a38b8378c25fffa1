-- An amount by its whole MWh and its decimals: what was kept at the cap stands for what was read.
use Rattle.std.proofs.Common.{ℕ, ◌+◌, ◌*◌, ◌≤◌, min, Some, None}
use mathlib.Core.Path.{◌≡◌, refl, sym, ap}
use mathlib.Core.Bool.{◌&&◌}
use mathlib.Core.List.{List}
use native.Mathlib.Omega.{arith}
use borrow.Author.Tests.{eqb-true}
use lib.Dec.{eqb}
use lib.ListN.{length, drop}
use Rattle.numbers.specs.Bytes.{byte_at}
use Rattle.numbers.specs.Decimal.{number_from}
use Rattle.numbers.proofs.Choices.{and_both}
use Rattle.terms.specs.Reply.{Reply, is, refused, need, next}
use Rattle.terms.proofs.Replies.{never, need-is, next-is}
use Rattle.partner.specs.declared.fields.Held.{Held}
use Rattle.partner.specs.Form.{held, digits_from, is_numeral, numeral_of, has_decimals, amount_of}
use Rattle.partner.specs.Inner.{mwh_cap, least_kwh, capped, capped_amount, mapped, decimals_in}
use Rattle.partner.proofs.Ends.{some_byte}
use Rattle.partner.proofs.Decimals.{told-wrong, told-right, decimals-there}

-- ---- what a changed reply tells of the one before
pub mapped-is : {A B : Type 0} (f : A → B) (x : Reply A) {b : B} → mapped f x ≡ is b → (a : A) × ((x ≡ is a) × (f a ≡ b))
unfolding mapped
mapped-is f (is a) e = (a, (refl, (cc)))
mapped-is f (refused n p) e = never e

pub mapped-refused : {A B : Type 0} (f : A → B) (x : Reply A) {n p : ℕ} → mapped f x ≡ refused n p → x ≡ refused n p
unfolding mapped
mapped-refused f (is a) e = never (sym e)
mapped-refused f (refused m q) {n} {p} e =
    let k : m ≡ n = cc in
    let l : q ≡ p = cc in
    rw (k, l)

-- ---- a numeral that was read
pub record Whole (s : List ℕ) (at stop cap : ℕ) (m : Held ℕ) : Type 0 where
  pub one : Held ℕ
  pub read : numeral_of s at stop ≡ is one
  pub value : m.value ≡ min cap one.value
  pub next : m.next ≡ one.next

pub whole : (s : List ℕ) (at stop cap : ℕ) {m : Held ℕ} → mapped (capped cap) (numeral_of s at stop) ≡ is m → Whole s at stop cap m
whole s at stop cap e =
    let w = mapped-is (capped cap) (numeral_of s at stop) e in
    record { one = w.0; read = w.1.0; value = sym (ap (λ (x : Held ℕ). x.value) w.1.1); next = sym (ap (λ (x : Held ℕ). x.next) w.1.1) }

-- the byte that ends it is there
pub numeral-there : (s : List ℕ) (at stop : ℕ) (h : Held ℕ) → 1 ≤ stop → numeral_of s at stop ≡ is h → h.next ≤ length s
unfolding numeral_of
numeral-there s at stop h some e =
    let d = digits_from (drop at s) in
    let p = need-is (is_numeral d && eqb (byte_at s (at + length d)) stop) 20 at (is (held (number_from 0 d) (at + length d + 1))) e in
    let b = eqb-true (byte_at s (at + length d)) stop (and_both (is_numeral d) (eqb (byte_at s (at + length d)) stop) p.0).1 in
    let n : at + length d + 1 ≡ h.next = cc p.1 in
    omega (arith, some_byte s (at + length d) (omega arith))

-- ---- an amount
module _ (s : List ℕ) (at : ℕ) where
  pub amount-refused : {n p : ℕ} → numeral_of s at 44 ≡ refused n p → mapped capped_amount (amount_of s at) ≡ refused n p
  unfolding amount_of next mapped
  amount-refused e = rw e

  module _ (m : Held ℕ) (w : Whole s at 44 mwh_cap m) where
    pub amount-wrong : decimals_in s m.next ≡ None → mapped capped_amount (amount_of s at) ≡ refused 20 at
    unfolding amount_of next need mapped
    amount-wrong h = rw (w.read, told-wrong s w.one.next (rw w.next at h))

    pub amount-right : {k : ℕ} → decimals_in s m.next ≡ Some k → mapped capped_amount (amount_of s at) ≡ is (held (m.value * 1000 + k) (m.next + 4))
    unfolding amount_of next need mapped
    amount-right {k} h =
        let t = told-right s w.one.next (rw w.next at h) in
        let kept : least_kwh (w.one.value * 1000 + k) ≡ m.value * 1000 + k = omega (arith, w.value, t.1.1) in
        rw (w.read, t.0, t.1.0, kept, w.next)

  pub amount-there : (h : Held ℕ) → amount_of s at ≡ is h → h.next ≤ length s
  unfolding amount_of
  amount-there h e =
      let a = next-is (numeral_of s at 44) _ e in
      let p = need-is (has_decimals s a.0.next) 20 at _ a.1.1 in
      let n : a.0.next + 4 ≡ h.next = cc p.1 in
      omega (arith, decimals-there s a.0.next p.0)
