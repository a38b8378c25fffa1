-- A number or an amount that is written reads back, and one that is read is written as its own bytes: there is one numeral for each number, and one letter for each sign.
use Prim.Native.Nat.{ℕ, zero, suc, ◌+◌, ◌*◌, ◌-◌, ◌/◌, ◌%◌, ◌≤◌, ◌<◌, ◌^◌}
use mathlib.Core.Path.{◌≡◌, refl}
use mathlib.Core.Bool.{Bool, true, false, ◌&&◌, ◌||◌, false≢true}
use mathlib.Core.List.{List, [], ◌∷◌, ◌++◌, append_assoc}
use native.Mathlib.Nat.{add-zero}
use native.Mathlib.Omega.{arith}
use borrow.Author.Tests.{eqb-true, eq-eqb, lt-ltb}
use lib.Dec.{eqb, ltb}
use lib.IntN.{ℤ, pos, negsuc, nat_abs}
use lib.ListN.{length, drop, length-append}
use Rattle.numbers.specs.Bytes.{byte_at}
use Rattle.numbers.specs.Decimal.{digit, decimal, is_digit, all_digits, number_from}
use Rattle.numbers.proofs.Choices.{and_both}
use Rattle.numbers.proofs.ReadBack.{digit-is, digit-bounds, decimal-all, decimal-number}
use Rattle.terms.specs.Reply.{is, need, next}
use Rattle.terms.proofs.Replies.{need-is, next-is}
use Rattle.partner.specs.declared.fields.Held.{Held}
use Rattle.partner.specs.Form.{held, digits_from, is_numeral, numeral_of, three_at, has_decimals, is_letter, signed_by, amount_of, quantity_of}
use Rattle.partner.specs.Line.{numeral, three, letter, quantity_bytes}
use Rattle.partner.proofs.Numerals.{digits-end, digits-all, digits-split, decimal-numeral, numeral-decimal}
use Rattle.partner.proofs.Spelled.{Spelled, spelled, both, front, back, place, byte, one}

-- ---- a numeral and the byte that ends it
module _ (s : List ℕ) (at stop : ℕ) where
  pub numeral_reads : (n end : ℕ) → is_digit stop ≡ false → n ≤ 4294967295 → Spelled s at (numeral n stop) end → numeral_of s at stop ≡ is (held n end)
  unfolding numeral_of need
  numeral_reads n end e h p =
      let d : digits_from (drop at s) ≡ decimal n = rw (p.so, append_assoc (decimal n) (stop ∷ []) (drop end s)) (digits-end (decimal n) stop (drop end s) (decimal-all n) e) in
      let b : byte_at s (at + length (decimal n)) ≡ stop = byte s (decimal n) stop [] p in
      let l : at + length (decimal n) + 1 ≡ end = omega (arith, p.ends, length-append (decimal n) (stop ∷ [])) in
      rw (d, decimal-numeral n (omega arith), b, eq-eqb stop stop refl, decimal-number n h, l)

  pub numeral-writes : (h : Held ℕ) → 1 ≤ stop → numeral_of s at stop ≡ is h → h.value < 10 ^ 20 → Spelled s at (numeral h.value stop) h.next
  unfolding numeral_of
  numeral-writes h t e l =
      let d = digits_from (drop at s) in
      let n = need-is _ _ _ _ e in
      let a = and_both (is_numeral d) _ n.0 in
      let v : held (number_from 0 d) (at + length d + 1) ≡ h = cc in
      let b = eqb-true _ stop a.1 in
      let k : number_from 0 d < 10 ^ 20 = rw (← v) at l in
      let p = both s (spelled s at d (drop (length d) (drop at s)) (digits-split (drop at s))) (one s (at + length d) (at + length d + 1) refl (omega arith)) in
      rw (← v, numeral-decimal d a.0 (digits-all (drop at s)) k, ← b) p

-- ---- three decimals
three-digits : (n : ℕ) → n < 1000 → all_digits (three n) ≡ true
unfolding all_digits
three-digits n h = rw (digit-is (n / 100) (omega arith), digit-is (n / 10 % 10) (omega arith), digit-is (n % 10) (omega arith))

three-number : (n : ℕ) → n < 1000 → number_from 0 (three n) ≡ n
unfolding number_from
three-number n h = omega arith

three-bounds : (a b c : ℕ) → all_digits (a ∷ b ∷ c ∷ []) ≡ true → ((48 ≤ a) × (a ≤ 57)) × (((48 ≤ b) × (b ≤ 57)) × ((48 ≤ c) × (c ≤ 57)))
unfolding all_digits
three-bounds a b c e =
    let p = and_both (is_digit a) (is_digit b && (is_digit c && true)) e in
    let q = and_both (is_digit b) (is_digit c && true) p.1 in
    (digit-bounds a p.0, (digit-bounds b q.0, digit-bounds c (and_both (is_digit c) true q.1).0))

module _ (a b c : ℕ) (e : all_digits (a ∷ b ∷ c ∷ []) ≡ true) where
  three-below : number_from 0 (a ∷ b ∷ c ∷ []) < 1000
  unfolding number_from
  three-below =
      let d = three-bounds a b c e in
      omega arith

  three-again : three (number_from 0 (a ∷ b ∷ c ∷ [])) ≡ a ∷ b ∷ c ∷ []
  unfolding number_from
  three-again =
      let d = three-bounds a b c e in
      let n = number_from 0 (a ∷ b ∷ c ∷ []) in
      let x : digit (n / 100) ≡ a = omega arith in
      let tenth : n / 10 ≡ (a - 48) * 10 + (b - 48) = omega arith in
      let y : digit (n / 10 % 10) ≡ b = rw tenth (omega arith) in
      let z : digit (n % 10) ≡ c = omega arith in
      rw (x, y, z)

decimals-spelled : (s : List ℕ) (mid : ℕ) → has_decimals s mid ≡ true → Spelled s mid (three_at s mid ++ (59 ∷ [])) (mid + 4)
decimals-spelled s mid e =
    let p = and_both (all_digits (three_at s mid)) (eqb (byte_at s (mid + 3)) 59) e in
    let d = three-bounds _ _ _ p.0 in
    let b : byte_at s (mid + 3) ≡ 59 = eqb-true _ 59 p.1 in
    let hundreds = one s mid (mid + 1) refl (omega arith) in
    let tens = one s (mid + 1) (mid + 2) (omega arith) (omega arith) in
    let ones = one s (mid + 2) (mid + 3) (omega arith) (omega arith) in
    let stop = one s (mid + 3) (mid + 4) (omega arith) (omega arith) in
    rw b at (both s (both s (both s hundreds tens) ones) stop)

-- ---- the letter
letter-is : (z : ℤ) → is_letter (letter z) (nat_abs z) ≡ true
letter-is (pos n) = refl
letter-is (negsuc n) = lt-ltb 0 (suc n) (omega arith)

letter-signed : (z : ℤ) → signed_by (letter z) (nat_abs z) ≡ z
letter-signed (pos n) = refl
letter-signed (negsuc n) = refl

letter-some : (z : ℤ) → 1 ≤ letter z
letter-some (pos n) = omega arith
letter-some (negsuc n) = omega arith

letter-again : (b size : ℕ) → is_letter b size ≡ true → (letter (signed_by b size) ≡ b) × (nat_abs (signed_by b size) ≡ size)
letter-again b size e = go (eqb b 73) refl e
  where
    withdrawal : (size : ℕ) → ltb 0 size ≡ true → (letter (signed_by 80 size) ≡ 80) × (nat_abs (signed_by 80 size) ≡ size)
    withdrawal zero l = absurd (false≢true l)
    withdrawal (suc k) l = (refl, refl)

    go : (t : Bool) → eqb b 73 ≡ t → t || (eqb b 80 && ltb 0 size) ≡ true → (letter (signed_by b size) ≡ b) × (nat_abs (signed_by b size) ≡ size)
    go true f e = rw (eqb-true b 73 f) (refl, refl)
    go false f e =
        let p = and_both (eqb b 80) (ltb 0 size) e in
        rw (eqb-true b 80 p.0) (withdrawal size p.1)

-- ---- an amount and its letter
module _ (s : List ℕ) (at stop : ℕ) where
  pub amount-reads : (z : ℤ) (end : ℕ) → nat_abs z ≤ 1000000 → Spelled s at (quantity_bytes z stop) end → quantity_of s at stop ≡ is (held z end)
  unfolding quantity_of amount_of quantity_bytes next need
  amount-reads z end h p =
      let m = nat_abs z in
      let w = numeral (m / 1000) 44 in
      let t = three (m % 1000) in
      let x : List ℕ = 59 ∷ letter z ∷ stop ∷ [] in
      let mid = at + length w in
      let q : Spelled s at (w ++ (t ++ x)) end = rw (append_assoc w t x) at p in
      let e = numeral_reads s at 44 (m / 1000) mid refl (omega arith) (front s w (t ++ x) q) in
      let r = back s w (t ++ x) q in
      let b : (k : ℕ) → byte_at s (mid + k) ≡ byte_at (t ++ x ++ drop end s) k = λ k. place s mid k r.so in
      let here : byte_at s mid ≡ byte_at t 0 = rw (add-zero mid) at (b 0) in
      let decimals : three_at s mid ≡ t = rw (here, b 1, b 2) in
      let last : mid + 4 + 1 ≡ mid + 5 = omega arith in
      let over : mid + 4 + 2 ≡ end = omega (arith, r.ends) in
      let value : m / 1000 * 1000 + m % 1000 ≡ m = omega arith in
      rw (e, decimals, three-digits (m % 1000) (omega arith), b 3, three-number (m % 1000) (omega arith), value, b 4, last, b 5, letter-is z, eq-eqb stop stop refl, letter-signed z, over)

  amount-spelled : (size : Held ℕ) → amount_of s at ≡ is size → size.value < 10 ^ 20 → Spelled s at (numeral (size.value / 1000) 44 ++ three (size.value % 1000) ++ (59 ∷ [])) size.next
  unfolding amount_of
  amount-spelled size e l =
      let n = next-is (numeral_of s at 44) _ e in
      go n.0 n.1.0 n.1.1
    where
      go : (mwh : Held ℕ) → numeral_of s at 44 ≡ is mwh
          → need (has_decimals s mwh.next) 20 at (is (held (mwh.value * 1000 + number_from 0 (three_at s mwh.next)) (mwh.next + 4))) ≡ is size
          → Spelled s at (numeral (size.value / 1000) 44 ++ three (size.value % 1000) ++ (59 ∷ [])) size.next
      go mwh f g =
          let n = need-is _ _ _ _ g in
          let x = number_from 0 (three_at s mwh.next) in
          let v : held (mwh.value * 1000 + x) (mwh.next + 4) ≡ size = cc in
          let d = (and_both (all_digits (three_at s mwh.next)) _ n.0).0 in
          let below : x < 1000 = three-below _ _ _ d in
          let small : mwh.value * 1000 + x < 10 ^ 20 = rw (← v) at l in
          let whole : (mwh.value * 1000 + x) / 1000 ≡ mwh.value = omega arith in
          let part : (mwh.value * 1000 + x) % 1000 ≡ x = omega arith in
          rw (← v, whole, part, three-again _ _ _ d, append_assoc (numeral mwh.value 44) (three_at s mwh.next) (59 ∷ []))
          (both s (numeral-writes s at 44 mwh (omega arith) f (omega arith)) (decimals-spelled s mwh.next n.0))

  pub amount-writes : (q : Held ℤ) → 1 ≤ stop → quantity_of s at stop ≡ is q → nat_abs q.value < 10 ^ 20 → Spelled s at (quantity_bytes q.value stop) q.next
  unfolding quantity_of quantity_bytes
  amount-writes q t e l =
      let n = next-is (amount_of s at) _ e in
      go n.0 n.1.0 n.1.1
    where
      go : (size : Held ℕ) → amount_of s at ≡ is size
          → need (is_letter (byte_at s size.next) size.value && eqb (byte_at s (size.next + 1)) stop) 20 size.next
          (is (held (signed_by (byte_at s size.next) size.value) (size.next + 2))) ≡ is q
          → Spelled s at (quantity_bytes q.value stop) q.next
      go size f g =
          let n = need-is _ _ _ _ g in
          let b = byte_at s size.next in
          let v : held (signed_by b size.value) (size.next + 2) ≡ q = cc in
          let p = and_both (is_letter b size.value) _ n.0 in
          let a = letter-again b size.value p.0 in
          let ended : byte_at s (size.next + 1) ≡ stop = eqb-true _ stop p.1 in
          let small : size.value < 10 ^ 20 = rw (← v, a.1) at l in
          let byte = one s size.next (size.next + 1) refl (omega (arith, letter-some (signed_by b size.value))) in
          let last = one s (size.next + 1) (size.next + 2) (omega arith) (omega arith) in
          rw (← v, a.0, a.1, ← ended, ← append_assoc (numeral (size.value / 1000) 44 ++ three (size.value % 1000)) (59 ∷ []) (b ∷ byte_at s (size.next + 1) ∷ []))
          (both s (amount-spelled size f small) (both s byte last))
