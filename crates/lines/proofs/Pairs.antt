-- The digits of a number below 10 ^ 4, laid two at a time behind a byte: zeros in front are laid over, by the last two digits or by the byte.
use Prim.Native.Nat.{ℕ, ◌+◌, ◌-◌, ◌*◌, ◌/◌, ◌%◌, ◌^◌, ◌≤◌, ◌<◌}
use mathlib.Core.Path.{◌≡◌, refl, sym, ap, ◌∙◌}
use mathlib.Core.List.{List, [], ◌∷◌, ◌++◌, append_assoc}
use native.Mathlib.Decide.{dec_lt}
use native.Mathlib.Omega.{arith}
use borrow.Author.Tests.{lt-ltb, le-ltb}
use lib.Dec.{ltb}
use lib.ListN.{length, take, drop, get_or, length-append}
use lib.Seq.{take_at, drop-drop, drop-append-add, length-take-le}
use Rattle.numbers.specs.Bytes.{laid_at}
use Rattle.numbers.specs.Sum.{bit}
use Rattle.numbers.specs.Decimal.{digit, decimal}
use Rattle.numbers.specs.Column.{column}
use Rattle.numbers.proofs.Columns.{column-at}
use Rattle.numbers.proofs.Laid.{length-laid, laid_more, laid_next, laid-before, laid-under}
use Rattle.lines.specs.declared.table.TheConstants.{PAIRS}
use Rattle.lines.specs.Inner.{Lays, pair_of, digit_pairs}
use Rattle.numbers.proofs.Digits.{one-figure, more-figures, one-digit, so-many, no_more}

-- ---- the table, number by number
pub pairs_are : PAIRS ≡ digit_pairs
unfolding digit_pairs column
pairs_are = refl

pub pair-at : (k : ℕ) → k < 100 → get_or digit_pairs k 0 ≡ pair_of k
unfolding digit_pairs
pair-at k h = column-at pair_of 100 k 0 h

-- ---- bytes over bytes
-- over bytes that are not more
laid-over : (l : List ℕ) (i : ℕ) (xs ys : List ℕ) → length xs ≤ length ys → i + length ys ≤ length l → laid_at (laid_at l i xs) i ys ≡ laid_at l i ys
unfolding laid_at
laid-over l i xs ys few h =
    let p = take i l in
    let q = p ++ xs in
    let r = drop (i + length xs) l in
    let k = length ys - length xs in
    let n : length p ≡ i = length-take-le i l (omega arith) in
    let m : i + length ys ≡ length q + k = omega (arith, length-append p xs) in
    let j : i + length xs + k ≡ i + length ys = omega arith in
    let front : take i (q ++ r) ≡ p = ap (take i) (append_assoc p xs r) ∙ take_at p (xs ++ r) i n in
    let rest : drop k r ≡ drop (i + length ys) l = rw (drop-drop, j) in
    let back : drop (i + length ys) (q ++ r) ≡ drop (i + length ys) l = ap (λ (x : ℕ). drop x (q ++ r)) m ∙ drop-append-add q r k ∙ rest in
    ap (λ (x : List ℕ). x ++ ys ++ drop (i + length ys) (q ++ r)) front ∙ ap (λ (x : List ℕ). p ++ ys ++ x) back

-- a byte over the first
laid-first : (l : List ℕ) (i x y : ℕ) (xs : List ℕ) → i + 1 + length xs ≤ length l → laid_at (laid_at l i (x ∷ xs)) i (y ∷ []) ≡ laid_at l i (y ∷ xs)
laid-first l i x y xs h =
    ap (λ (k : List ℕ). laid_at k i (y ∷ [])) (sym (laid-before l i (x ∷ []) xs (i + 1) refl (omega arith)))
    ∙ laid-over (laid_at l (i + 1) xs) i (x ∷ []) (y ∷ []) (omega arith) (omega (arith, length-laid l (i + 1) xs (omega arith)))
    ∙ laid-before l i (y ∷ []) xs (i + 1) refl (omega arith)

-- two bytes over the second
laid-second : (l : List ℕ) (i x y : ℕ) (ys : List ℕ) → 1 ≤ length ys → i + 1 + length ys ≤ length l → laid_at (laid_at l i (x ∷ y ∷ [])) (i + 1) ys ≡ laid_at l i (x ∷ ys)
laid-second l i x y ys some h =
    ap (λ (k : List ℕ). laid_at k (i + 1) ys) (sym (laid_more l i (x ∷ []) (y ∷ []) (i + 1) refl (omega arith)))
    ∙ laid-over (laid_at l i (x ∷ [])) (i + 1) (y ∷ []) ys (omega arith) (omega (arith, length-laid l i (x ∷ []) (omega arith)))
    ∙ laid_more l i (x ∷ []) ys (i + 1) refl (omega arith)

-- ---- digits
next-figure : (n m d : ℕ) → n ≡ m * 10 + d → d < 10 → 1 ≤ m → n < 10 ^ 20 → decimal n ≡ decimal m ++ (digit d ∷ [])
next-figure n m d e l p h =
    let q : n / 10 ≡ m = omega arith in
    let r : n % 10 ≡ d = omega arith in
    more-figures n (omega arith) h ∙ ap (λ (x : ℕ). decimal x ++ (digit (n % 10) ∷ [])) q ∙ ap (λ (x : ℕ). decimal m ++ (digit x ∷ [])) r

two-figures : (n a b : ℕ) → n ≡ a * 10 + b → 1 ≤ a → a < 10 → b < 10 → decimal n ≡ digit a ∷ digit b ∷ []
two-figures n a b e p l m = next-figure n a b e m p (omega arith) ∙ ap (λ (x : List ℕ). x ++ (digit b ∷ [])) (one-figure a l)

three-figures : (n m a b c : ℕ) → n ≡ m * 10 + c → m ≡ a * 10 + b → 1 ≤ a → a < 10 → b < 10 → c < 10 → decimal n ≡ digit a ∷ digit b ∷ digit c ∷ []
three-figures n m a b c e f p la lb lc = next-figure n m c e lc (omega arith) (omega arith) ∙ ap (λ (x : List ℕ). x ++ (digit c ∷ [])) (two-figures m a b f p la lb)

four-figures : (n high low : ℕ) → n ≡ high * 100 + low → 10 ≤ high → high < 100 → low < 100
    → decimal n ≡ digit (high / 10) ∷ digit (high % 10) ∷ digit (low / 10) ∷ digit (low % 10) ∷ []
four-figures n high low e p l m =
    let q : n ≡ n / 10 * 10 + low % 10 = omega arith in
    let t : n / 10 ≡ high * 10 + low / 10 = omega arith in
    let front = three-figures (n / 10) high (high / 10) (high % 10) (low / 10) t (omega arith) (omega arith) (omega arith) (omega arith) (omega arith) in
    next-figure n (n / 10) (low % 10) q (omega arith) (omega arith) (omega arith) ∙ ap (λ (x : List ℕ). x ++ (digit (low % 10) ∷ [])) front

-- how many there are
pub few-count : (n : ℕ) → n < 10000 → 1 + bit (ltb 9 n) + bit (ltb 99 n) + bit (ltb 999 n) ≡ length (decimal n)
few-count n h = go (dec_lt n 10) (dec_lt n 100) (dec_lt n 1000)
  where
    go : Dec (n < 10) → Dec (n < 100) → Dec (n < 1000) → 1 + bit (ltb 9 n) + bit (ltb 99 n) + bit (ltb 999 n) ≡ length (decimal n)
    go (yes a) b c = rw (le-ltb 9 n (omega arith), le-ltb 99 n (omega arith), le-ltb 999 n (omega arith)) (sym (one-digit n a))
    go (no a) (yes b) c = rw (lt-ltb 9 n (omega arith), le-ltb 99 n (omega arith), le-ltb 999 n (omega arith)) (sym (so-many 0 18 n refl (omega arith) (omega arith)))
    go (no a) (no b) (yes c) = rw (lt-ltb 9 n (omega arith), lt-ltb 99 n (omega arith), le-ltb 999 n (omega arith)) (sym (so-many 1 17 n refl (omega arith) (omega arith)))
    go (no a) (no b) (no c) = rw (lt-ltb 9 n (omega arith), lt-ltb 99 n (omega arith), lt-ltb 999 n (omega arith)) (sym (so-many 2 16 n refl (omega arith) (omega arith)))

pub few_digits : (n : ℕ) → n < 10000 → length (decimal n) ≤ 4
few_digits n h = no_more 3 n h

-- ---- the digits behind a byte
-- the first two digits one byte further where there are four of them, the last two so that they end where the number does, and the byte
module _ (entry : List ℕ) (at front n high low : ℕ) (small : n < 10000) (h : high ≡ n / 100) (l : low ≡ n - high * 100)
    (fits : at + 1 + length (decimal n) ≤ length entry) {one two three : List ℕ} (p q : ℕ)
    (e : one ≡ laid_at entry p (digit (high / 10) ∷ digit (high % 10) ∷ [])) (f : two ≡ laid_at one q (digit (low / 10) ∷ digit (low % 10) ∷ []))
    (g : three ≡ laid_at two at (front ∷ [])) (a : p ≡ at + bit (ltb 999 n)) (b : q + 1 ≡ at + length (decimal n)) where
  -- what is laid from the byte's own place on, once its digits are told
  behind : (x : ℕ) (ds : List ℕ) → decimal n ≡ ds → two ≡ laid_at entry at (x ∷ ds) → three ≡ laid_at entry at (front ∷ decimal n)
  behind x ds d r =
      g
      ∙ ap (λ (k : List ℕ). laid_at k at (front ∷ [])) r
      ∙ laid-first entry at x front ds (omega (arith, ap length d))
      ∙ ap (λ (k : List ℕ). laid_at entry at (front ∷ k)) (sym d)

  there : n < 1000 → one ≡ laid_at entry at (digit (high / 10) ∷ digit (high % 10) ∷ [])
  there s =
      let t : p ≡ at = omega (arith, a, ap bit (le-ltb 999 n (omega arith))) in
      e ∙ ap (λ (k : ℕ). laid_at entry k (digit (high / 10) ∷ digit (high % 10) ∷ [])) t

  four : 1000 ≤ n → three ≡ laid_at entry at (front ∷ decimal n)
  four s =
      let d = four-figures n high low (omega arith) (omega arith) (omega arith) (omega arith) in
      let c = ap length d in
      let t : p ≡ at + 1 = omega (arith, a, ap bit (lt-ltb 999 n (omega arith))) in
      let r = laid_next entry p (digit (high / 10) ∷ digit (high % 10) ∷ []) q (digit (low / 10) ∷ digit (low % 10) ∷ []) e f (omega arith) (omega arith) in
      laid-under entry p (digit (high / 10) ∷ digit (high % 10) ∷ digit (low / 10) ∷ digit (low % 10) ∷ []) at (front ∷ []) r g t (omega arith)
      ∙ ap (λ (k : List ℕ). laid_at entry at (front ∷ k)) (sym d)

  three-of : 100 ≤ n → n < 1000 → three ≡ laid_at entry at (front ∷ decimal n)
  three-of s t =
      let d = three-figures n (high * 10 + low / 10) (high % 10) (low / 10) (low % 10) (omega arith) (omega arith) (omega arith) (omega arith) (omega arith) (omega arith) in
      let c = ap length d in
      behind (digit (high / 10)) (digit (high % 10) ∷ digit (low / 10) ∷ digit (low % 10) ∷ []) d
      (laid_next entry at (digit (high / 10) ∷ digit (high % 10) ∷ []) q (digit (low / 10) ∷ digit (low % 10) ∷ []) (there t) f (omega arith) (omega arith))

  two-of : 10 ≤ n → n < 100 → three ≡ laid_at entry at (front ∷ decimal n)
  two-of s t =
      let ds = digit (low / 10) ∷ digit (low % 10) ∷ [] in
      let d = two-figures n (low / 10) (low % 10) (omega arith) (omega arith) (omega arith) (omega arith) in
      let c = ap length d in
      let k : q ≡ at + 1 = omega arith in
      let r : two ≡ laid_at one (at + 1) ds = f ∙ ap (λ (x : ℕ). laid_at one x ds) k in
      behind (digit (high / 10)) ds d
      (r ∙ ap (λ (x : List ℕ). laid_at x (at + 1) ds) (there (omega arith)) ∙ laid-second entry at (digit (high / 10)) (digit (high % 10)) ds (omega arith) (omega arith))

  one_of : n < 10 → three ≡ laid_at entry at (front ∷ decimal n)
  one_of s =
      let ds = digit (low / 10) ∷ digit (low % 10) ∷ [] in
      let m : n ≡ low % 10 = omega arith in
      let d : decimal n ≡ digit (low % 10) ∷ [] = one-figure n s ∙ ap (λ (x : ℕ). digit x ∷ []) m in
      let c = ap length d in
      let k : q ≡ at = omega arith in
      let r : two ≡ laid_at one at ds = f ∙ ap (λ (x : ℕ). laid_at one x ds) k in
      behind (digit (low / 10)) (digit (low % 10) ∷ []) d
      (r ∙ ap (λ (x : List ℕ). laid_at x at ds) (there (omega arith)) ∙ laid-over entry at (digit (high / 10) ∷ digit (high % 10) ∷ []) ds (omega arith) (omega arith))

  pub few-laid : Lays entry at (front ∷ decimal n) (1 + length (decimal n)) (at + 1 + length (decimal n)) three
  few-laid = record { room = go (dec_lt n 10) (dec_lt n 100) (dec_lt n 1000); after = omega arith; few = omega arith }
    where
      go : Dec (n < 10) → Dec (n < 100) → Dec (n < 1000) → three ≡ laid_at entry at (front ∷ decimal n)
      go (yes x) y z = one_of x
      go (no x) (yes y) z = two-of (omega arith) y
      go (no x) (no y) (yes z) = three-of (omega arith) z
      go (no x) (no y) (no z) = four (omega arith)
