-- Numerals: the digits in front of a text are told from what follows them, and there is one numeral for each number, so that what is written is read and what is read is written.
use Prim.Native.Nat.{ℕ, ◌+◌, ◌*◌, ◌-◌, ◌<◌, ◌^◌}
use mathlib.Core.Path.{◌≡◌, refl, ap, ◌∙◌}
use mathlib.Core.Bool.{Bool, true, false, not, ◌||◌, false≢true}
use mathlib.Core.List.{List, [], ◌∷◌, ◌++◌}
use native.Mathlib.Decide.{dec_lt}
use native.Mathlib.Omega.{arith}
use borrow.Author.Tests.{not-true, eqb-false, lt-ltb, ne_eqb}
use lib.Dec.{ltb, eqb}
use lib.ListN.{length, drop}
use Rattle.numbers.specs.Bytes.{byte_at}
use Rattle.numbers.specs.Choice.{pick}
use Rattle.numbers.specs.Decimal.{digit, decimal, is_digit, all_digits, number_from}
use Rattle.numbers.proofs.Choices.{and_both}
use Rattle.numbers.proofs.Digits.{one-figure, some-digit}
use Rattle.numbers.proofs.ReadBack.{digit-bounds, decimal-opens, decimal-more}
use Rattle.partner.specs.Form.{digits_from, is_numeral}

-- ---- the digits in front
pub digits-end : (xs : List ℕ) (stop : ℕ) (rest : List ℕ) → all_digits xs ≡ true → is_digit stop ≡ false → digits_from (xs ++ stop ∷ rest) ≡ xs
unfolding digits_from all_digits
digits-end [] stop rest a e = rw e
digits-end (b ∷ xs) stop rest a e =
    let p = and_both (is_digit b) (all_digits xs) a in
    rw p.0 (ap (λ (x : List ℕ). b ∷ x) (digits-end xs stop rest p.1 e))

pub digits-all : (s : List ℕ) → all_digits (digits_from s) ≡ true
unfolding digits_from all_digits
digits-all [] = refl
digits-all (b ∷ s) = go (is_digit b) refl (digits-all s)
  where
    go : (t : Bool) → is_digit b ≡ t → all_digits (digits_from s) ≡ true → all_digits (pick t (b ∷ digits_from s) []) ≡ true
    go true e ih = rw e ih
    go false e ih = refl

pub digits-split : (s : List ℕ) → s ≡ digits_from s ++ drop (length (digits_from s)) s
unfolding digits_from
digits-split [] = refl
digits-split (b ∷ s) = go (is_digit b) (digits-split s)
  where
    go : (t : Bool) → s ≡ digits_from s ++ drop (length (digits_from s)) s
        → b ∷ s ≡ pick t (b ∷ digits_from s) [] ++ drop (length (pick t (b ∷ digits_from s) [])) (b ∷ s)
    go true ih = ap (λ (x : List ℕ). b ∷ x) ih
    go false ih = refl

-- ---- one numeral for each number
or-second : (a b : Bool) → b ≡ true → a || b ≡ true
or-second true b e = refl
or-second false b e = e

pub decimal-numeral : (n : ℕ) → n < 10 ^ 20 → is_numeral (decimal n) ≡ true
decimal-numeral n h = go (dec_lt n 10)
  where
    go : Dec (n < 10) → is_numeral (decimal n) ≡ true
    go (yes l) = rw (one-figure n l)
    go (no l) =
        let o = decimal-opens n (omega arith) h in
        let e : eqb (byte_at (decimal n) 0) 48 ≡ false = ne_eqb (byte_at (decimal n) 0) 48 (λ e. omega arith) in
        rw (lt-ltb 0 (length (decimal n)) (some-digit n)) (or-second (eqb (length (decimal n)) 1) _ (rw e))

pub numeral-decimal : (d : List ℕ) → is_numeral d ≡ true → all_digits d ≡ true → number_from 0 d < 10 ^ 20 → decimal (number_from 0 d) ≡ d
unfolding all_digits number_from
numeral-decimal [] n a h = absurd (false≢true n)
numeral-decimal (b ∷ []) n a h =
    let p = digit-bounds b (and_both (is_digit b) true a).0 in
    let e : digit (0 * 10 + (b - 48)) ≡ b = omega arith in
    one-figure (0 * 10 + (b - 48)) (omega arith) ∙ rw e
numeral-decimal (b ∷ c ∷ s) n a h =
    let p = and_both (is_digit b) (all_digits (c ∷ s)) a in
    let d = digit-bounds b p.0 in
    let more : eqb (length (b ∷ c ∷ s)) 1 ≡ false = ne_eqb (length (b ∷ c ∷ s)) 1 (λ e. omega arith) in
    let opens : not (eqb b 48) ≡ true = rw more at (and_both (ltb 0 (length (b ∷ c ∷ s))) _ n).1 in
    let nonzero : b ≡ 48 → ⊥ = eqb-false b 48 (not-true _ opens) in
    let e : digit (0 * 10 + (b - 48)) ≡ b = omega arith in
    decimal-more (0 * 10 + (b - 48)) (c ∷ s) (omega arith) p.1 h ∙ rw (one-figure (0 * 10 + (b - 48)) (omega arith), e)
