-- Laws of sums over the first n indices, by induction on n, and of sums of signed columns.
use Rattle.std.proofs.Common.{◌≡◌, ℕ, zero, suc, ◌+◌, ◌*◌, ◌<◌, ◌≤◌, Bool, true, false, ltb, cond, List, [], ◌∷◌, ◌++◌, length, get_or, take, ℤ, pos, ◌+ℤ◌, sym, refl, ap, ◌∙◌, subst, le_of_eq, le_refl, not-suc-le-zero, add-one, arith, le-ltb, lt-ltb}
use native.Mathlib.Decide.{dec_lt}
use lib.IntN.{+ℤ_assoc, +ℤ_idl, +ℤ_idr}
use lib.Seq.{take-length}
use Rattle.std.specs.Prelude.{count_by, fold}
use Rattle.std.proofs.lemmas.List.Sums.{sum_by-cons}
use Rattle.numbers.specs.Range.{Within}
use Rattle.numbers.specs.Column.{column, at, AllWithin}
use Rattle.numbers.specs.Sum.{sum, sum_z, sum_to, bit, count}
use Rattle.numbers.proofs.Integers.{zarith, pp, nn, Diff, plus}
use Rattle.numbers.proofs.Columns.{column-self}

pub sum_to-cong : (n : ℕ) (f g : ℕ → ℕ) → ((i : ℕ) → i < n → f i ≡ g i) → sum_to n f ≡ sum_to n g
unfolding sum_to
sum_to-cong zero f g h = refl
sum_to-cong (suc n) f g h =
    let a : sum_to n f ≡ sum_to n g = sum_to-cong n f g (λ i l. h i (omega arith)) in
    omega (arith, a, h n (omega arith))

pub sum_to-le : (n : ℕ) (f g : ℕ → ℕ) → ((i : ℕ) → i < n → f i ≤ g i) → sum_to n f ≤ sum_to n g
unfolding sum_to
sum_to-le zero f g h = omega arith
sum_to-le (suc n) f g h =
    let a : sum_to n f ≤ sum_to n g = sum_to-le n f g (λ i l. h i (omega arith)) in
    omega (arith, a, h n (omega arith))

-- strictly less, where one index is
pub sum_to-lt : (n : ℕ) (f g : ℕ → ℕ) → ((i : ℕ) → i < n → f i ≤ g i) → (k : ℕ) → k < n → f k < g k → sum_to n f < sum_to n g
unfolding sum_to
sum_to-lt zero f g h k l s = absurd (not-suc-le-zero l)
sum_to-lt (suc n) f g h k l s = go (dec_lt k n) (λ m. sum_to-lt n f g (λ i l. h i (omega arith)) k m s)
  where
    go : Dec (k < n) → (k < n → sum_to n f < sum_to n g) → sum_to n f + f n < sum_to n g + g n
    go (yes m) ih = omega (arith, ih m, h n (omega arith))
    go (no m) ih =
        let e : k ≡ n = omega arith in
        let t : f n < g n = subst (λ (x : ℕ). f x < g x) e s in
        omega (arith, t, sum_to-le n f g (λ i l. h i (omega arith)))

pub sum_to-add : (n : ℕ) (f g : ℕ → ℕ) → sum_to n (λ (i : ℕ). f i + g i) ≡ sum_to n f + sum_to n g
unfolding sum_to
sum_to-add zero f g = refl
sum_to-add (suc n) f g = omega (arith, sum_to-add n f g)

pub sum_to-mul : (c n : ℕ) (f : ℕ → ℕ) → sum_to n (λ (i : ℕ). c * f i) ≡ c * sum_to n f
unfolding sum_to
sum_to-mul c zero f = omega arith
sum_to-mul c (suc n) f = omega (arith, sum_to-mul c n f)

pub bit_le : (p q : Bool) → (p ≡ true → q ≡ true) → bit p ≤ bit q
bit_le true q h = subst (λ (b : Bool). 1 ≤ bit b) (sym (h refl)) (le_refl 1)
bit_le false q h = omega arith

pub bit-one : (p : Bool) → bit p ≤ 1
bit-one true = omega arith
bit-one false = omega arith

pub count-le : (n : ℕ) (p q : ℕ → Bool) → ((i : ℕ) → i < n → p i ≡ true → q i ≡ true) → count n p ≤ count n q
unfolding count
count-le n p q h = sum_to-le n (λ (i : ℕ). bit (p i)) (λ (i : ℕ). bit (q i)) (λ i l. bit_le (p i) (q i) (h i l))

pub count-cong : (n : ℕ) (p q : ℕ → Bool) → ((i : ℕ) → i < n → p i ≡ q i) → count n p ≡ count n q
unfolding count
count-cong n p q h = sum_to-cong n (λ (i : ℕ). bit (p i)) (λ (i : ℕ). bit (q i)) (λ i l. ap bit (h i l))

pub count-all : (n : ℕ) (p : ℕ → Bool) → count n p ≤ n
unfolding count sum_to
count-all zero p = omega arith
count-all (suc n) p = omega (arith, count-all n p, bit-one (p n))

pub ltb_iff : (a k b m : ℕ) → (a < k → b < m) → (b < m → a < k) → ltb a k ≡ ltb b m
ltb_iff a k b m f g = go (dec_lt a k)
  where
    go : Dec (a < k) → ltb a k ≡ ltb b m
    go (yes l) = lt-ltb a k l ∙ sym (lt-ltb b m (f l))
    go (no l) = le-ltb a k (omega arith) ∙ sym (le-ltb b m (flip (dec_lt b m)))
      where
        flip : Dec (b < m) → m ≤ b
        flip (yes t) = absurd (l (g t))
        flip (no t) = omega arith

-- the same sum, the first index taken off
sum_to-front : (n : ℕ) (f : ℕ → ℕ) → sum_to (suc n) f ≡ f 0 + sum_to n (λ (i : ℕ). f (suc i))
unfolding sum_to
sum_to-front zero f = omega arith
sum_to-front (suc n) f = omega (arith, sum_to-front n f)

pub sum_to-list : (s : List ℕ) → sum_to (length s) (λ (i : ℕ). get_or s i 0) ≡ sum s
unfolding sum sum_to
sum_to-list [] = refl
sum_to-list (x ∷ s) = omega (arith, sum_to-front (length s) (λ (i : ℕ). get_or (x ∷ s) i 0), sum_to-list s)

-- a count over indices is the count of the list's entries
bit-cond : (b : Bool) → bit b ≡ cond b 1 0
bit-cond true = refl
bit-cond false = refl

pub count-list : (p : ℕ → Bool) (l : List ℕ) → count_by p l ≡ count (length l) (λ i. p (get_or l i 0))
unfolding count sum_to
count-list p [] = refl
count-list p (x ∷ l) =
    omega (arith, sum_by-cons (λ y. cond (p y) 1 0) x l, count-list p l, sum_to-front (length l) (λ i. bit (p (get_or (x ∷ l) i 0))), bit-cond (p x))

sum-snoc : (s : List ℕ) (x : ℕ) → sum (s ++ (x ∷ [])) ≡ sum s + x
unfolding sum
sum-snoc [] x = omega arith
sum-snoc (y ∷ s) x = omega (arith, sum-snoc s x)

pub sum-column : (n : ℕ) (f : ℕ → ℕ) → sum (column n f) ≡ sum_to n f
unfolding column sum_to sum
sum-column zero f = refl
sum-column (suc n) f = omega (arith, sum-snoc (column n f) (f n), sum-column n f)

pub sum_to-one : (n : ℕ) (f : ℕ → ℕ) → sum_to (n + 1) f ≡ sum_to n f + f n
unfolding sum_to
sum_to-one n f = ap (λ (m : ℕ). sum_to m f) (add-one n)

pub count-one : (n : ℕ) (p : ℕ → Bool) → count (n + 1) p ≡ count n p + bit (p n)
unfolding count
count-one n p = sum_to-one n (λ (i : ℕ). bit (p i))

-- the sum up to the end is the list's
pub sum_to-end : (s : List ℕ) (i : ℕ) → i ≡ length s → sum_to i (λ (k : ℕ). get_or s k 0) ≡ sum s
sum_to-end s i e = ap (λ (m : ℕ). sum_to m (λ (k : ℕ). get_or s k 0)) e ∙ sum_to-list s

pub sum_to-mono : (i n : ℕ) (f : ℕ → ℕ) → i ≤ n → sum_to i f ≤ sum_to n f
unfolding sum_to
sum_to-mono i zero f l =
    let e : i ≡ 0 = omega arith in
    le_of_eq (ap (λ (m : ℕ). sum_to m f) e)
sum_to-mono i (suc n) f l = go (dec_lt i (suc n)) (sum_to-mono i n f)
  where
    go : Dec (i < suc n) → (i ≤ n → sum_to i f ≤ sum_to n f) → sum_to i f ≤ sum_to n f + f n
    go (yes m) ih = omega (arith, ih (omega arith))
    go (no m) ih =
        let e : i ≡ suc n = omega arith in
        le_of_eq (ap (λ (m : ℕ). sum_to m f) e)

pub sum_to-none : (n : ℕ) (f : ℕ → ℕ) → ((i : ℕ) → f i ≡ 0) → sum_to n f ≡ 0
unfolding sum_to
sum_to-none zero f h = refl
sum_to-none (suc n) f h = omega (arith, sum_to-none n f h, h n)

pub sum_bound : (s : List ℕ) (b : ℕ) → ((i : ℕ) → get_or s i 0 ≤ b) → sum s ≤ length s * b
unfolding sum
sum_bound [] b h = omega arith
sum_bound (x ∷ s) b h = omega (arith, h 0, sum_bound s b (λ i. h (suc i)))

pub sum-entry : (s : List ℕ) (i : ℕ) → get_or s i 0 ≤ sum s
unfolding sum
sum-entry [] i = omega arith
sum-entry (x ∷ s) zero = omega arith
sum-entry (x ∷ s) (suc i) = omega (arith, sum-entry s i)

-- ---- signed columns
pub sum-within : (b : ℕ) (l : List ℤ) → AllWithin b l → (i : ℕ) → Within (i * b) (sum_z (take i l))
unfolding sum_z
sum-within b l h zero = omega zarith
sum-within b [] h (suc i) = omega zarith
sum-within b (z ∷ l) h (suc i) = omega (zarith, sum-within b l (λ k. h (suc k)) i, h 0, plus z (sum_z (take i l)))

-- a column of at most 64 entries
pub sum64-within : (l : List ℤ) → length l ≤ 64 → AllWithin 1000000 l → Within 64000000 (sum_z l)
sum64-within l h w =
    let k : Within (length l * 1000000) (sum_z l) = rw take-length at (sum-within 1000000 l w (length l)) in
    omega zarith

sum_z-snoc : (l : List ℤ) (z : ℤ) → sum_z (l ++ (z ∷ [])) ≡ sum_z l +ℤ z
unfolding sum_z
sum_z-snoc [] z = +ℤ_idr z ∙ sym (+ℤ_idl z)
sum_z-snoc (x ∷ l) z = ap (λ (y : ℤ). x +ℤ y) (sum_z-snoc l z) ∙ sym (+ℤ_assoc x (sum_z l) z)

pub sum_z-column : (f : ℕ → ℤ) (n : ℕ) → sum_z (column (suc n) f) ≡ sum_z (column n f) +ℤ f n
unfolding column
sum_z-column f n = sum_z-snoc (column n f) (f n)

-- a signed sum is what lies above zero less what lies below
sum_z-parts : (f : ℕ → ℤ) (n : ℕ) → Diff (sum_z (column n f)) (sum_to n (λ i. pp (f i))) (sum_to n (λ i. nn (f i)))
unfolding sum_to sum_z column
sum_z-parts f zero = omega zarith
sum_z-parts f (suc n) = rw (sum_z-column f n) (omega (zarith, sum_z-parts f n, plus (sum_z (column n f)) (f n)))

pub sum-sides : (l : List ℤ) → Diff (sum_z l) (sum_to (length l) (λ i. pp (at l i))) (sum_to (length l) (λ i. nn (at l i)))
sum-sides l =
    subst (λ (x : List ℤ). Diff (sum_z x) (sum_to (length l) (λ i. pp (at l i))) (sum_to (length l) (λ i. nn (at l i))))
    (sym (column-self (pos 0) l))
    (sum_z-parts (at l) (length l))

-- the same sum as a fold from the left, as a loop adds it up
fold-first : (l : List ℤ) (a : ℤ) → fold ◌+ℤ◌ a l ≡ a +ℤ sum_z l
unfolding sum_z
fold-first [] a = sym (+ℤ_idr a)
fold-first (z ∷ l) a = fold-first l (a +ℤ z) ∙ +ℤ_assoc a z (sum_z l)

pub sum_folded : (l : List ℤ) (i : ℕ) (total : ℤ) → i ≡ length l → total ≡ fold ◌+ℤ◌ (pos 0) (take i l) → total ≡ sum_z l
sum_folded l i total e h = h ∙ rw (e, take-length) (fold-first l (pos 0) ∙ +ℤ_idl (sum_z l))
