-- How many digits a number has: k where it lies below 10 ^ k and not below 10 ^ (k - 1).
use Rattle.std.proofs.Common.{◌≡◌, ℕ, zero, suc, ◌+◌, ◌/◌, ◌%◌, ◌^◌, ◌<◌, ◌≤◌, List, [], ◌∷◌, ◌++◌, length, sym, ap, ◌∙◌, pow-suc, arith, length-append, le-ltb, lt-ltb}
use native.Mathlib.Decide.{dec_lt}
use Rattle.numbers.specs.Decimal.{digit, digits, decimal}

pub last-digit : (most n : ℕ) → n < 10 → digits (suc most) n ≡ digit n ∷ []
unfolding digits
last-digit most n h = rw (lt-ltb n 10 h)

pub more-digits : (most n : ℕ) → 10 ≤ n → digits (suc most) n ≡ digits most (n / 10) ++ (digit (n % 10) ∷ [])
unfolding digits
more-digits most n h = rw (le-ltb n 10 h)

pub more-length : (most n : ℕ) → 10 ≤ n → length (digits (suc most) n) ≡ length (digits most (n / 10)) + 1
more-length most n h = rw (more-digits most n h) (length-append (digits most (n / 10)) (digit (n % 10) ∷ []))

-- below ten times a power, and not below it
pub tenth-below : (k n : ℕ) → n < 10 ^ suc k → n / 10 < 10 ^ k
tenth-below k n h =
    let e = pow-suc 10 k in
    omega arith

tenth-above : (k n : ℕ) → 10 ^ suc k ≤ n → 10 ^ k ≤ n / 10
tenth-above k n h =
    let e = pow-suc 10 k in
    omega arith

ten-at-least : (k : ℕ) → 1 ≤ 10 ^ k
ten-at-least zero = omega arith
ten-at-least (suc k) = omega (arith, ten-at-least k, pow-suc 10 k)

-- there is at least one
pub some : (most n : ℕ) → 1 ≤ length (digits (suc most) n)
some most n = go (dec_lt n 10)
  where
    go : Dec (n < 10) → 1 ≤ length (digits (suc most) n)
    go (yes l) = rw (last-digit most n l) (omega arith)
    go (no l) = omega (arith, more-length most n (omega arith))

-- at most k below 10 ^ k
pub few : (k most n : ℕ) → n < 10 ^ suc k → length (digits most n) ≤ suc k
unfolding digits
few k zero n h = omega arith
few zero (suc most) n h = rw (last-digit most n (omega arith)) (omega arith)
few (suc k) (suc most) n h = go (dec_lt n 10) (few k most (n / 10) (tenth-below (suc k) n h))
  where
    go : Dec (n < 10) → length (digits most (n / 10)) ≤ suc k → length (digits (suc most) n) ≤ suc (suc k)
    go (yes l) ih = rw (last-digit most n l) (omega arith)
    go (no l) ih = omega (arith, more-length most n (omega arith))

exactly : (k more n : ℕ) → 10 ^ suc k ≤ n → n < 10 ^ suc (suc k) → length (digits (suc (suc (k + more))) n) ≡ suc (suc k)
exactly zero more n l h =
    let e : length (digits (suc (0 + more)) (n / 10)) ≡ 1 = rw (last-digit (0 + more) (n / 10) (omega arith)) in
    omega (arith, more-length (suc (0 + more)) n (omega arith))
exactly (suc k) more n l h =
    let t = ten-at-least (suc k) in
    let e = pow-suc 10 (suc k) in
    let d : length (digits (suc (suc (k + more))) (n / 10)) ≡ suc (suc k) = exactly k more (n / 10) (tenth-above (suc k) n l) (tenth-below (suc (suc k)) n h) in
    let f : suc (suc (suc k + more)) ≡ suc (suc (suc (k + more))) = omega arith in
    rw f (omega (arith, more-length (suc (suc (k + more))) n (omega arith)))

-- more digits than a number has change nothing
enough : (most n : ℕ) → n < 10 ^ suc most → digits (suc most) n ≡ digits (suc (suc most)) n
enough zero n h =
    let l : n < 10 = omega arith in
    last-digit 0 n l ∙ sym (last-digit 1 n l)
enough (suc most) n h = go (dec_lt n 10) (enough most (n / 10) (tenth-below (suc most) n h))
  where
    go : Dec (n < 10) → digits (suc most) (n / 10) ≡ digits (suc (suc most)) (n / 10) → digits (suc (suc most)) n ≡ digits (suc (suc (suc most))) n
    go (yes l) ih = last-digit (suc most) n l ∙ sym (last-digit (suc (suc most)) n l)
    go (no l) ih =
        let t : 10 ≤ n = omega arith in
        more-digits (suc most) n t ∙ ap (λ (x : List ℕ). x ++ (digit (n % 10) ∷ [])) ih ∙ sym (more-digits (suc (suc most)) n t)

-- a number of one digit, and one of more: the digits of its tenth, and the last one
pub one-figure : (n : ℕ) → n < 10 → decimal n ≡ digit n ∷ []
unfolding decimal
one-figure n h = last-digit 19 n h

pub more-figures : (n : ℕ) → 10 ≤ n → n < 10 ^ 20 → decimal n ≡ decimal (n / 10) ++ (digit (n % 10) ∷ [])
unfolding decimal
more-figures n l h = more-digits 19 n l ∙ ap (λ (x : List ℕ). x ++ (digit (n % 10) ∷ [])) (enough 18 (n / 10) (tenth-below 19 n h))

pub one-digit : (n : ℕ) → n < 10 → length (decimal n) ≡ 1
one-digit n h = ap length (one-figure n h)

pub so-many : (k more n : ℕ) → k + more ≡ 18 → 10 ^ suc k ≤ n → n < 10 ^ suc (suc k) → length (decimal n) ≡ suc (suc k)
unfolding decimal
so-many k more n e l h = rw e at (exactly k more n l h)

pub some-digit : (n : ℕ) → 1 ≤ length (decimal n)
unfolding decimal
some-digit n = some 19 n

pub no_more : (k n : ℕ) → n < 10 ^ suc k → length (decimal n) ≤ suc k
unfolding decimal
no_more k n h = few k 20 n h

digits-few : (most n : ℕ) → length (digits most n) ≤ most
unfolding digits
digits-few zero n = omega arith
digits-few (suc most) n = go (dec_lt n 10) (digits-few most (n / 10))
  where
    go : Dec (n < 10) → length (digits most (n / 10)) ≤ most → length (digits (suc most) n) ≤ suc most
    go (yes h) rest = rw (last-digit most n h) (omega arith)
    go (no h) rest = omega (arith, more-length most n (omega arith))

-- whatever the number is
pub decimal-few : (n : ℕ) → length (decimal n) ≤ 20
unfolding decimal
decimal-few n = digits-few 20 n
