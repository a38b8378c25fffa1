-- The digits that are written for a number are read as that number, and digits that are read are those that are written for theirs.
use Rattle.std.proofs.Common.{◌≡◌, ℕ, zero, suc, ◌+◌, ◌-◌, ◌*◌, ◌/◌, ◌%◌, ◌^◌, ◌<◌, ◌≤◌, Bool, true, false, ◌&&◌, leb, List, [], ◌∷◌, ◌++◌, sym, refl, ◌∙◌, append_assoc, append-nil, arith, le-leb, leb-false, leb-true}
use native.Mathlib.Decide.{dec_lt}
use borrow.Author.Tests.{lt-leb}
use lib.ListN.{get_or-append}
use Rattle.numbers.specs.Bytes.{byte_at}
use Rattle.numbers.specs.Choice.{pick}
use Rattle.numbers.specs.Decimal.{digit, digits, decimal, is_digit, all_digits, number_from, digit_in}
use Rattle.numbers.proofs.Choices.{and_both}
use Rattle.numbers.proofs.Digits.{last-digit, more-digits, tenth-below, some, more-figures}

pub digit-is : (x : ℕ) → x < 10 → is_digit (digit x) ≡ true
digit-is x h = rw (le-leb 48 (48 + x) (omega arith), le-leb (48 + x) 57 (omega arith))

pub digit-bounds : (b : ℕ) → is_digit b ≡ true → (48 ≤ b) × (b ≤ 57)
digit-bounds b e =
    let p = and_both (leb 48 b) (leb b 57) e in
    (leb-true 48 b p.0, leb-true b 57 p.1)

-- ---- one comparison tells a digit
pub digit-in : (b : ℕ) → digit_in b ≤ 9 → (is_digit b ≡ true) × (digit_in b ≡ b - 48)
digit-in b = go (leb 48 b) refl
  where
    go : (t : Bool) → leb 48 b ≡ t → pick t (b - 48) (b + 4294967248) ≤ 9 → (t && leb b 57 ≡ true) × (pick t (b - 48) (b + 4294967248) ≡ b - 48)
    go true e h = (le-leb b 57 (omega (arith, leb-true 48 b e)), refl)
    go false e h = absurd (omega arith)

pub no-digit-in : (b : ℕ) → 9 < digit_in b → is_digit b ≡ false
no-digit-in b = go (leb 48 b) refl
  where
    go : (t : Bool) → leb 48 b ≡ t → 9 < pick t (b - 48) (b + 4294967248) → t && leb b 57 ≡ false
    go true e h = lt-leb b 57 (omega arith)
    go false e h = refl

-- ---- one digit more
all_more : (s : List ℕ) (b : ℕ) → all_digits s ≡ true → is_digit b ≡ true → all_digits (s ++ (b ∷ [])) ≡ true
unfolding all_digits
all_more [] b e f = rw f
all_more (a ∷ s) b e f =
    let p = and_both (is_digit a) (all_digits s) e in
    rw p.0 (all_more s b p.1 f)

number_more : (n : ℕ) (s : List ℕ) (b : ℕ) → number_from n (s ++ (b ∷ [])) ≡ number_from n s * 10 + (b - 48)
unfolding number_from
number_more n [] b = refl
number_more n (a ∷ s) b = number_more (n * 10 + (a - 48)) s b

-- ---- all digits
digits-all : (most n : ℕ) → all_digits (digits most n) ≡ true
unfolding digits all_digits
digits-all zero n = refl
digits-all (suc most) n = go (dec_lt n 10) (digits-all most (n / 10))
  where
    go : Dec (n < 10) → all_digits (digits most (n / 10)) ≡ true → all_digits (digits (suc most) n) ≡ true
    go (yes l) ih = rw (last-digit most n l) (rw (digit-is n l))
    go (no l) ih = rw (more-digits most n (omega arith)) (all_more (digits most (n / 10)) (digit (n % 10)) ih (digit-is (n % 10) (omega arith)))

digits_number : (most n : ℕ) → n < 10 ^ suc most → number_from 0 (digits (suc most) n) ≡ n
unfolding number_from
digits_number zero n h = rw (last-digit 0 n (omega arith)) (omega arith)
digits_number (suc most) n h = go (dec_lt n 10) (digits_number most (n / 10) (tenth-below (suc most) n h))
  where
    go : Dec (n < 10) → number_from 0 (digits (suc most) (n / 10)) ≡ n / 10 → number_from 0 (digits (suc (suc most)) n) ≡ n
    go (yes l) ih = rw (last-digit (suc most) n l) (omega arith)
    go (no l) ih = rw (more-digits (suc most) n (omega arith), number_more 0 (digits (suc most) (n / 10)) (digit (n % 10)), ih) (omega arith)

-- no zero in front of a number that is not 0
digits-opens : (most n : ℕ) → 1 ≤ n → n < 10 ^ suc most → 49 ≤ byte_at (digits (suc most) n) 0
digits-opens zero n l h = rw (last-digit 0 n (omega arith)) (omega arith)
digits-opens (suc most) n l h = go (dec_lt n 10) (λ k. digits-opens most (n / 10) k (tenth-below (suc most) n h))
  where
    go : Dec (n < 10) → (1 ≤ n / 10 → 49 ≤ byte_at (digits (suc most) (n / 10)) 0) → 49 ≤ byte_at (digits (suc (suc most)) n) 0
    go (yes k) ih = rw (last-digit (suc most) n k) (omega arith)
    go (no k) ih =
        rw (more-digits (suc most) n (omega arith), get_or-append (digits (suc most) (n / 10)) (digit (n % 10) ∷ []) 0 0 (some most (n / 10)))
        (ih (omega arith))

-- a number only grows
pub grows : (n : ℕ) (s : List ℕ) → n ≤ number_from n s
unfolding number_from
grows n [] = omega arith
grows n (b ∷ s) = omega (arith, grows (n * 10 + (b - 48)) s)

-- ---- a number in decimal
module _ (n : ℕ) where
  pub decimal-all : all_digits (decimal n) ≡ true
  unfolding decimal
  decimal-all = digits-all 20 n

  pub decimal-number : n ≤ 4294967295 → number_from 0 (decimal n) ≡ n
  unfolding decimal
  decimal-number h = digits_number 19 n (omega arith)

  -- no zero in front of one that is not 0
  pub decimal-opens : 1 ≤ n → n < 10 ^ 20 → 49 ≤ byte_at (decimal n) 0
  unfolding decimal
  decimal-opens l h = digits-opens 19 n l h

-- digits read behind a number that is read already are those that are written behind its own
pub decimal-more : (n : ℕ) (s : List ℕ) → 1 ≤ n → all_digits s ≡ true → number_from n s < 10 ^ 20 → decimal (number_from n s) ≡ decimal n ++ s
unfolding all_digits number_from
decimal-more n [] l a h = sym (append-nil (decimal n))
decimal-more n (b ∷ s) l a h =
    let p = and_both (is_digit b) (all_digits s) a in
    let d = digit-bounds b p.0 in
    let m = n * 10 + (b - 48) in
    let tenth : m / 10 ≡ n = omega arith in
    let last : digit (m % 10) ≡ b = omega arith in
    let one : decimal m ≡ decimal n ++ (b ∷ []) = more-figures m (omega arith) (omega (arith, grows m s)) ∙ rw (tenth, last) in
    decimal-more m s (omega arith) p.1 h ∙ rw (one, append_assoc (decimal n) (b ∷ []) s)
