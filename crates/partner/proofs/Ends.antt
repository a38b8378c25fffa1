-- Where a numeral ends: a 0 in front stands alone, and after any other digit all that follow belong to it.
use Rattle.std.proofs.Common.{ℕ, suc, ◌+◌, ◌-◌, ◌≤◌, ◌<◌, min}
use mathlib.Core.Path.{◌≡◌, refl, sym, ap, ◌∙◌}
use mathlib.Core.Bool.{Bool, true, false, ◌||◌}
use mathlib.Core.List.{List, ◌∷◌}
use native.Mathlib.Omega.{arith}
use native.Mathlib.Decide.{dec_lt}
use borrow.Author.Tests.{lt-ltb, ne_eqb}
use lib.Dec.{eqb}
use lib.ListN.{length, drop, get_or-eq_default}
use Rattle.numbers.specs.Bytes.{byte_at}
use Rattle.numbers.specs.Choice.{pick}
use Rattle.numbers.specs.Decimal.{is_digit, number_from}
use Rattle.numbers.proofs.ReadBack.{digit-bounds}
use Rattle.terms.specs.Reply.{is, refused, need}
use Rattle.partner.specs.declared.fields.Held.{Held}
use Rattle.partner.specs.Form.{held, digits_from, is_numeral, numeral_of}
use Rattle.partner.specs.Inner.{capped, mapped, Digits, Ended}
use Rattle.partner.proofs.Capped.{digits-on, digits-out}

-- past the end there is 0
pub some_byte : (s : List ℕ) (i : ℕ) → 1 ≤ byte_at s i → i < length s
some_byte s i h = go (dec_lt i (length s))
  where
    go : Dec (i < length s) → i < length s
    go (yes l) = l
    go (no l) =
        let m : length s ≤ i = omega arith in
        absurd (omega (arith, get_or-eq_default s 0 m))

pub digit-there : (s : List ℕ) (i : ℕ) → is_digit (byte_at s i) ≡ true → i < length s
digit-there s i e = some_byte s i (omega (arith, (digit-bounds (byte_at s i) e).0))

or-true : (t : Bool) → t || true ≡ true
or-true true = refl
or-true false = refl

zero-in-front : (b : ℕ) (d : List ℕ) → is_numeral (48 ∷ b ∷ d) ≡ false
zero-in-front b d = rw (lt-ltb 0 (suc (suc (length d))) (omega arith), ne_eqb (suc (suc (length d))) 1 (λ z. omega arith))

other-in-front : (b : ℕ) (d : List ℕ) → eqb b 48 ≡ false → is_numeral (b ∷ d) ≡ true
other-in-front b d e = rw (lt-ltb 0 (suc (length d)) (omega arith), e, or-true (eqb (suc (length d)) 1))

-- a digit ends no field
digit-other : (b stop : ℕ) → is_digit b ≡ true → is_digit stop ≡ false → eqb b stop ≡ false
digit-other b stop e n =
    ne_eqb b stop λ q.
    let z : ◌≡◌ {A = Bool} true false = sym e ∙ ap is_digit q ∙ n in
    let k : ◌≡◌ {A = ℕ} 0 1 = ap (λ (t : Bool). pick t 0 1) z in
    absurd (omega arith)

module _ (s : List ℕ) (at cap : ℕ) where
  -- no digit, no numeral
  pub none : (stop : ℕ) → is_digit (byte_at s at) ≡ false → mapped (capped cap) (numeral_of s at stop) ≡ refused 20 at
  unfolding numeral_of mapped need
  none stop e = rw (digits-out s at e)

  -- asked still for the byte that ends it
  settled : (t : Bool) (value next : ℕ) (r : Held ℕ) → min cap value ≡ r.value → next ≡ r.next → mapped (capped cap) (need t 20 at (is (held value (next + 1)))) ≡ need t 20 at (is (held r.value (r.next + 1)))
  unfolding mapped need
  settled true value next r e f = rw (e, f)
  settled false value next r e f = refl

  pub zero-ends : 9 ≤ cap → is_digit (byte_at s at) ≡ true → byte_at s at ≡ 48 → Ended s at cap (held 0 (at + 1))
  unfolding numeral_of mapped need number_from
  zero-ends h e z = record { told = λ stop n. go stop n (is_digit (byte_at s (at + 1))) refl }
    where
      d : digits_from (drop at s) ≡ byte_at s at ∷ digits_from (drop (at + 1) s)
      d = digits-on s at (digit-there s at e) e

      go : (stop : ℕ) → is_digit stop ≡ false → (t : Bool) → is_digit (byte_at s (at + 1)) ≡ t
          → mapped (capped cap) (numeral_of s at stop) ≡ need (eqb (byte_at s (at + 1)) stop) 20 at (is (held 0 (at + 1 + 1)))
      go stop n true f =
          let g = digits-on s (at + 1) (digit-there s (at + 1) f) f in
          rw (d, g, z, zero-in-front (byte_at s (at + 1)) (digits_from (drop (at + 1 + 1) s)), digit-other (byte_at s (at + 1)) stop f n)
      go stop n false f =
          let g = digits-out s (at + 1) f in
          rw (d, g, z) (settled (eqb (byte_at s (at + 1)) stop) 0 (at + 1) (held 0 (at + 1)) (omega arith) refl)

  pub more-ends : (first : ℕ) (r : Held ℕ) → is_digit (byte_at s at) ≡ true → first ≡ byte_at s at - 48 → 1 ≤ first → Digits s (at + 1) first cap r → Ended s at cap r
  unfolding numeral_of number_from
  more-ends first r e v p m = record { told = λ stop n. go stop n }
    where
      more : List ℕ
      more = digits_from (drop (at + 1) s)

      d : digits_from (drop at s) ≡ byte_at s at ∷ more
      d = digits-on s at (digit-there s at e) e

      q : at + length (byte_at s at ∷ more) ≡ r.next
      q = omega (arith, m.next)

      other : eqb (byte_at s at) 48 ≡ false
      other = ne_eqb (byte_at s at) 48 (λ z. omega arith)

      opened : 0 + (byte_at s at - 48) ≡ first
      opened = omega arith

      whole : min cap (number_from (0 + (byte_at s at - 48)) more) ≡ r.value
      whole = rw opened (sym m.value)

      go : (stop : ℕ) → is_digit stop ≡ false → mapped (capped cap) (numeral_of s at stop) ≡ need (eqb (byte_at s r.next) stop) 20 at (is (held r.value (r.next + 1)))
      go stop n = rw (d, other-in-front (byte_at s at) more other, q) (settled (eqb (byte_at s r.next) stop) (number_from (0 + (byte_at s at - 48)) more) r.next r whole refl)
