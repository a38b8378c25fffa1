-- The digits that are written for a number are read as that number, by mkday's own reading.
use Prim.Native.Nat.{ℕ, ◌≤◌, ◌<◌}
use mathlib.Core.Path.{◌≡◌, refl}
use mathlib.Core.Bool.{true, false}
use mathlib.Core.List.{List, [], ◌∷◌}
use native.Mathlib.Omega.{arith}
use borrow.Author.Tests.{le-leb, lt-ltb, leb-true, ne_eqb}
use lib.Dec.{leb}
use lib.ListN.{length}
use Rattle.numbers.specs.Decimal.{decimal, is_digit, all_digits, number_from}
use Rattle.numbers.proofs.Choices.{and_both}
use Rattle.numbers.proofs.Digits.{some-digit, no_more}
use Rattle.numbers.proofs.ReadBack.{decimal-all, decimal-number}
use Rattle.std.specs.Prelude.{Some}
use Rattle.text.specs.Numbers.{size_from, size_of, field_of, minus, number_in}
use Rattle.text.specs.Dates.{day_in, minute_in}
use Rattle.shown.specs.Shown.{whole}

pub size_is : (s : List ℕ) (n : ℕ) → 0 < length s → all_digits s ≡ true → number_from 0 s ≡ n → n ≤ 4294967295 → size_of s ≡ Some n
unfolding size_of size_from
size_is s n l a e h = rw (lt-ltb 0 (length s) l, a, e, le-leb n 4294967295 h)

no_minus : (s : List ℕ) → all_digits s ≡ true → minus s ≡ false
unfolding all_digits
no_minus [] e = refl
no_minus (b ∷ s) e =
    let p = and_both (is_digit b) (all_digits s) e in
    let q = and_both (leb 48 b) (leb b 57) p.0 in
    ne_eqb b 45 (λ z. omega (arith, leb-true 48 b q.0))

module _ (n : ℕ) (h : n ≤ 4294967295) where
  pub number_read : number_in (decimal n) ≡ whole n
  unfolding number_in
  number_read = rw (no_minus (decimal n) (decimal-all n), size_is (decimal n) n (some-digit n) (decimal-all n) (decimal-number n h) h)

  pub minute-read : minute_in (decimal n) ≡ whole n
  unfolding minute_in
  minute-read = rw (ne_eqb (length (decimal n)) 17 (λ z. omega (arith, no_more 9 n (omega arith)))) number_read

pub day-read : (n : ℕ) → n ≤ 65535 → day_in (decimal n) ≡ whole n
unfolding day_in
day-read n h = rw (ne_eqb (length (decimal n)) 10 (λ z. omega (arith, no_more 4 n (omega arith)))) (number_read n (omega arith))

-- ---- bytes above the space make one field
pub solid-more : (b : ℕ) (s : List ℕ) → 33 ≤ b → field_of s ≡ s → field_of (b ∷ s) ≡ b ∷ s
unfolding field_of
solid-more b s h e = rw (ne_eqb b 32 (λ z. omega arith), ne_eqb b 9 (λ z. omega arith), e)

solid-digits : (s : List ℕ) → all_digits s ≡ true → field_of s ≡ s
unfolding field_of all_digits
solid-digits [] e = refl
solid-digits (b ∷ s) e =
    let p = and_both (is_digit b) (all_digits s) e in
    let q = and_both (leb 48 b) (leb b 57) p.0 in
    solid-more b s (omega (arith, leb-true 48 b q.0)) (solid-digits s p.1)

pub solid-decimal : (n : ℕ) → field_of (decimal n) ≡ decimal n
solid-decimal n = solid-digits (decimal n) (decimal-all n)
