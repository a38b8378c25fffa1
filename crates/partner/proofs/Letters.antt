-- A letter and the byte that ends its field, and with it the sign of the amount before: zero stays zero at the cap, so the letter is judged alike.
use Prim.Native.Nat.{ℕ, zero, suc, ◌+◌, ◌≤◌, ◌<◌}
use mathlib.Core.Path.{◌≡◌, refl, sym, ap, ◌∙◌}
use mathlib.Core.Bool.{Bool, true, false, ◌&&◌}
use mathlib.Core.List.{List}
use native.Mathlib.Decide.{dec_lt}
use native.Mathlib.Numerals.{add-one}
use native.Mathlib.Omega.{arith}
use borrow.Author.Tests.{lt-ltb}
use lib.Dec.{eqb, ltb}
use lib.IntN.{pos, neg_ℤ}
use lib.ListN.{length}
use Rattle.numbers.specs.Bytes.{byte_at}
use Rattle.numbers.specs.Choice.{pick}
use Rattle.std.proofs.Common.{Option, Some, None}
use Rattle.terms.specs.declared.quantity.Direction.{Direction}
use Rattle.terms.specs.declared.quantity.Direction.TheVariants as D
use Rattle.terms.specs.Reply.{is, refused, need, next}
use Rattle.partner.specs.declared.fields.Held.{Held}
use Rattle.partner.specs.Form.{held, amount_of, is_letter, quantity_of}
use Rattle.partner.specs.Inner.{least_kwh, least_z, capped_amount, capped_kwh, mapped, letter_at, quantity_by}
use Rattle.partner.proofs.Amounts.{mapped-is, amount-there}

-- ---- amounts at the cap
kwh-most : (n : ℕ) → least_kwh n ≤ 1001999
kwh-most n = omega arith

kwh-zero : (n : ℕ) → ltb 0 (least_kwh n) ≡ ltb 0 n
kwh-zero n = go (dec_lt 0 n)
  where
    go : Dec (0 < n) → ltb 0 (least_kwh n) ≡ ltb 0 n
    go (yes p) = lt-ltb 0 (least_kwh n) (omega arith) ∙ sym (lt-ltb 0 n p)
    go (no p) =
        let z : n ≡ 0 = omega arith in
        rw z

letter-same : (s : List ℕ) (at n stop : ℕ) → letter_at s at (least_kwh n) stop ≡ letter_at s at n stop
letter-same s at n stop = rw (kwh-zero n)

kwh-below : (n : ℕ) → least_z (neg_ℤ (pos n)) ≡ neg_ℤ (pos (least_kwh n))
kwh-below zero = refl
kwh-below (suc n) = rw (add-one n)

-- ---- an amount and its letter
module _ (s : List ℕ) (at stop : ℕ) where
  pub quantity-refused : {n p : ℕ} → amount_of s at ≡ refused n p → mapped capped_kwh (quantity_of s at stop) ≡ refused n p
  unfolding quantity_of next mapped
  quantity-refused e = rw e

  by-letter : (h : Held ℕ) → amount_of s at ≡ is h → mapped capped_kwh (quantity_of s at stop) ≡ quantity_by (letter_at s h.next h.value stop) (capped_amount h)
  unfolding quantity_of next need mapped
  by-letter h e = rw e (go (is_letter (byte_at s h.next) h.value) (eqb (byte_at s (h.next + 1)) stop) (eqb (byte_at s h.next) 80))
    where
      go : (t e u : Bool) → mapped capped_kwh (need (t && e) 20 h.next (is (held (pick u (neg_ℤ (pos h.value)) (pos h.value)) (h.next + 2)))) ≡ quantity_by (pick e (pick t (Some (pick u D.Withdrawals D.Injections)) None) None) (capped_amount h)
      go true true true = rw (kwh-below h.value)
      go true true false = refl
      go true false u = refl
      go false true u = refl
      go false false u = refl

  pub quantity-by : (m : Held ℕ) → mapped capped_amount (amount_of s at) ≡ is m → mapped capped_kwh (quantity_of s at stop) ≡ quantity_by (letter_at s m.next m.value stop) m
  quantity-by m e =
      let r = mapped-is capped_amount (amount_of s at) e in
      let h = r.0 in
      by-letter h r.1.0 ∙ ap (λ (l : Option Direction). quantity_by l (capped_amount h)) (sym (letter-same s h.next h.value stop)) ∙ ap (λ (x : Held ℕ). quantity_by (letter_at s x.next x.value stop) x) r.1.1

  -- what the sign and the place are made of
  pub amount-small : (m : Held ℕ) → mapped capped_amount (amount_of s at) ≡ is m → m.value ≤ 1001999
  amount-small m e =
      let r = mapped-is capped_amount (amount_of s at) e in
      omega (arith, kwh-most r.0.value, ap (λ (x : Held ℕ). x.value) r.1.1)

  pub amount-within : (m : Held ℕ) → mapped capped_amount (amount_of s at) ≡ is m → m.next ≤ length s
  amount-within m e =
      let r = mapped-is capped_amount (amount_of s at) e in
      omega (arith, amount-there s at r.0 r.1.0, ap (λ (x : Held ℕ). x.next) r.1.1)
