-- Marks tell the rule: no whole part is above `top`, and of units with a remainder those come first by their marks that come first by the rule.
use Prim.Native.Nat.{ℕ, ◌+◌, ◌*◌, ◌/◌, ◌≤◌, ◌<◌}
use mathlib.Core.Path.{◌≡◌, refl, sym, ◌∙◌, ap, ap₂, subst₂}
use mathlib.Core.Bool.{true}
use mathlib.Core.List.{List}
use native.Mathlib.Omega.{arith}
use native.Mathlib.Nat.{mul-le-mul_left, lt_of_mul-lt-mul_right}
use native.Mathlib.Decide.{dec_lt}
use lib.Dec.{ltb}
use lib.IntN.{ℤ}
use lib.ListN.{length, get_or}
use borrow.Author.Tests.{lt-ltb, le-ltb}
use Rattle.numbers.specs.Column.{column, at}
use Rattle.numbers.specs.Sum.{sum, bit, count}
use Rattle.numbers.proofs.Columns.{column-length, column-at, column-past, column-self, column-ext}
use Rattle.numbers.proofs.Sums.{count-cong, count-all, sum_to-one, sum_to-mono, sum_to-lt, sum_to-mul, sum_bound}
use Rattle.terms.specs.Quantities.{size_in}
use Rattle.terms.specs.declared.quantity.Direction.{Direction}
use Rattle.quota.specs.Quota.{whole, rest, ahead, before, rank, still, cut_at, cuts_of}
use Rattle.quota.specs.Inner.{Asked, Own, Sharing, top, tied, mark_by, mark, marks_of, Marked, earlier_by, Parts, dealt_at}
use Rattle.quota.specs.declared.ratio.Ratio.{Ratio}
use Rattle.quota.proofs.Fairness.{length-cuts, cuts-all}
use Rattle.quota.proofs.Order.{ahead-over, ahead-under, ahead-same}
use Rattle.quota.proofs.Ratios.{share-le}
use Rattle.quota.proofs.Shares.{rest_lt, rest-size, still-rests, dealt-rest}

-- what a caller of the cut shows, by the ratio of C and T
pub total-small : {s : List ℕ} {t c : ℕ} → Asked s t c → t ≤ 64000000
total-small {s} a = omega (arith, a.total, a.sized.few, sum_bound s 1000000 a.sized.small)

pub sharing : {s : List ℕ} {t c : ℕ} (r : Ratio) → Asked s t c → r.t ≡ t → Sharing s r
sharing r a e = record { sized = a.sized; total = e ∙ a.total }

-- where all is cut the sizes are the cuts
pub all-cut : {s : List ℕ} {t c : ℕ} → Asked s t c → c ≡ t → s ≡ cuts_of s c
all-cut {s} a e =
    rw (e, a.total)
    (sym
    (column-self 0 (cuts_of s (sum s))
    ∙ ap (λ (n : ℕ). column n (λ (i : ℕ). get_or (cuts_of s (sum s)) i 0)) (length-cuts s (sum s))
    ∙ column-ext _ (λ (i : ℕ). get_or s i 0) (length s) (λ i _. cuts-all s i)
    ∙ sym (column-self 0 s)))

mark-rest : (w x : ℕ) → 0 < x → mark_by w x ≡ top + x
unfolding mark_by
mark-rest w x l = rw (lt-ltb 0 x l)

mark-whole : (w x : ℕ) → x ≡ 0 → mark_by w x ≡ w
unfolding mark_by
mark-whole w x e = rw (le-ltb 0 x (omega arith))

-- remainders above `top` come in the same order
ahead-top : (x y m n i j : ℕ) → ahead (top + x) (top + y) m n i j ≡ ahead x y m n i j
ahead-top x y m n i j = go (dec_lt x y) (dec_lt y x)
  where
    go : Dec (x < y) → Dec (y < x) → ahead (top + x) (top + y) m n i j ≡ ahead x y m n i j
    go (yes l) _ = ahead-over (top + x) (top + y) m n i j (omega arith) ∙ sym (ahead-over x y m n i j l)
    go (no l) (yes g) = ahead-under (top + x) (top + y) m n i j (omega arith) ∙ sym (ahead-under x y m n i j g)
    go (no l) (no g) = ahead-same (top + x) (top + y) m n i j (omega arith) ∙ sym (ahead-same x y m n i j (omega arith))

module _ {s : List ℕ} {r : Ratio} (h : Sharing s r) where
  abbrev c : ℕ
  c = r.c

  pub cut-within : c ≤ sum s
  cut-within = omega (arith, h.total, r.rate.less)

  pub total-pos : 0 < sum s
  total-pos = omega (arith, h.total, r.rate.less)

  marks-length : length (marks_of s c) ≡ length s
  unfolding marks_of
  marks-length = column-length (mark s c) (length s)

  mark-at : (i : ℕ) → i < length s → get_or (marks_of s c) i 0 ≡ mark s c i
  unfolding marks_of
  mark-at i l = column-at (mark s c) (length s) i 0 l

  whole-small : (i : ℕ) → whole s c i ≤ 1000000
  unfolding whole
  whole-small i = omega (arith, ap (λ (t : ℕ). c * get_or s i 0 / t) h.total, share-le r (get_or s i 0), h.sized.small i)

  -- fewer kWh are left than there are units
  still-fewer : still s c < length s
  unfolding count
  still-fewer = go (dec_lt 0 (length s))
    where
      n : ℕ
      n = length s

      t : ℕ
      t = sum s

      go : Dec (0 < length s) → still s c < length s
      go (yes l) =
          lt_of_mul-lt-mul_right t
          (omega (
            arith,
            still-rests s c total-pos cut-within,
            sum_to-lt n (rest s c) (λ (_ : ℕ). t * bit true) (λ i _. omega (arith, rest_lt s c total-pos i)) 0 l (omega (arith, rest_lt s c total-pos 0)),
            sum_to-mul t n (λ (_ : ℕ). bit true),
            mul-le-mul_left t (count-all n (λ (_ : ℕ). true)),
          ))
      go (no l) = absurd (omega (arith, total-pos, sum_bound s 1000000 h.sized.small))

  -- no mark is as large as those of units told apart
  marks-small : (k : ℕ) → get_or (marks_of s c) k 0 < tied
  unfolding marks_of
  marks-small k = go (dec_lt k (length s)) (dec_lt 0 (rest s c k))
    where
      go : Dec (k < length s) → Dec (0 < rest s c k) → get_or (marks_of s c) k 0 < tied
      go (no l) _ = omega (arith, column-past (mark s c) (length s) k 0 (omega arith))
      go (yes l) (yes p) = omega (arith, mark-at k l, mark-rest (whole s c k) (rest s c k) p, rest_lt s c total-pos k, h.total, r.rate.few)
      go (yes l) (no p) = omega (arith, mark-at k l, mark-whole (whole s c k) (rest s c k) (omega arith), whole-small k)

  pub marked : {m : List ℕ} {left : ℕ} → m ≡ marks_of s c → left ≡ still s c → 0 < left → Marked m left
  marked m-is left_is some =
      rw (m-is, left_is)
      (record {
        few = omega (arith, marks-length, h.sized.few);
        some = omega arith;
        fewer = omega (arith, marks-length, still-fewer);
        small = marks-small;
      })

  pub places : {d : Direction} {n1 : List ℤ} {m : List ℕ} → Own d n1 s → m ≡ marks_of s c → length m ≡ length n1
  places own m-is = ap length m-is ∙ marks-length ∙ sym own.places

  module _ {d : Direction} {n1 : List ℤ} (own : Own d n1 s) where
    size_is : (i : ℕ) → 0 < rest s c i → size_in d (at n1 i) ≡ get_or s i 0
    size_is i p = own.own i (rest-size s c i p)

    -- so many units come before a unit with a remainder by the marks as by the rule
    place_is : (i : ℕ) → i < length s → 0 < rest s c i → rank (earlier_by (marks_of s c) d n1) (length (marks_of s c)) i ≡ rank (before s c) (length s) i
    unfolding rank earlier_by before
    place_is i l p =
        ap (λ (n : ℕ). count n (λ (j : ℕ). earlier_by (marks_of s c) d n1 j i)) marks-length
        ∙ count-cong (length s) (λ (j : ℕ). earlier_by (marks_of s c) d n1 j i) (λ (j : ℕ). before s c j i)
        (λ j m. ap₂ (λ (x y : ℕ). ahead x y (size i) (size j) i j) (mark-at i l ∙ mark-rest (whole s c i) (rest s c i) p) (mark-at j m) ∙ go j (dec_lt 0 (rest s c j)))
      where
        size : ℕ → ℕ
        size j = size_in d (at n1 j)

        go : (j : ℕ) → Dec (0 < rest s c j) → ahead (top + rest s c i) (mark s c j) (size i) (size j) i j ≡ ahead (rest s c i) (rest s c j) (get_or s i 0) (get_or s j 0) i j
        go j (yes q) =
            rw (mark-rest (whole s c j) (rest s c j) q, size_is i p, size_is j q) (ahead-top (rest s c i) (rest s c j) (get_or s i 0) (get_or s j 0) i j)
        go j (no q) =
            ahead-under (top + rest s c i) (mark s c j) (size i) (size j) i j (omega (arith, mark-whole (whole s c j) (rest s c j) (omega arith), whole-small j))
            ∙ sym (ahead-under (rest s c i) (rest s c j) (get_or s i 0) (get_or s j 0) i j (omega arith))

    -- of a unit with a remainder n1 tells the whole part again
    again : (i : ℕ) → 0 < rest s c i → c * size_in d (at n1 i) / r.t ≡ whole s c i
    unfolding whole
    again i p = ap₂ (λ (y z : ℕ). c * y / z) (size_is i p) h.total

    -- what is dealt where x parts the marks is the rule's cut
    dealt-cut : {m : List ℕ} {x : ℕ} → Parts (marks_of s c) (still s c) d n1 m x → (i : ℕ) → i < length s
        → dealt_at d r.t c x (at n1 i) (get_or m i 0) ≡ cut_at s c i
    unfolding dealt_at cut_at
    dealt-cut {m} {x} parts i l = go (dec_lt 0 (rest s c i))
      where
        place : ℕ
        place = rank (before s c) (length s) i

        l' : i < length (marks_of s c)
        l' = omega (arith, marks-length)

        go : Dec (0 < rest s c i) → dealt_at d r.t c x (at n1 i) (get_or m i 0) ≡ whole s c i + bit (ltb place (still s c))
        go (yes p) =
            let over : top < get_or (marks_of s c) i 0 = omega (arith, mark-at i l, mark-rest (whole s c i) (rest s c i) p) in
            rw (lt-ltb top (get_or m i 0) (parts.marks i l' over), again i p, parts.parts i l' over, place_is i l p) refl
        go (no p) =
            let e : get_or (marks_of s c) i 0 ≡ whole s c i = mark-at i l ∙ mark-whole (whole s c i) (rest s c i) (omega arith) in
            let f : get_or m i 0 ≡ whole s c i = parts.wholes i l' (omega (arith, whole-small i)) ∙ e in
            rw (le-ltb top (get_or m i 0) (omega (arith, whole-small i))) (omega (arith, ap bit (le-ltb place (still s c) (late (dec_lt place (still s c))))))
          where
            late : Dec (place < still s c) → still s c ≤ place
            late (yes q) = absurd (p (dealt-rest s c total-pos cut-within i q))
            late (no q) = omega arith

    -- and so are all that are dealt
    pub all-dealt : {l m : List ℕ} {left : ℕ} (x : ℕ) → l ≡ marks_of s c → left ≡ still s c → Parts l left d n1 m x
        → column (length m) (λ (i : ℕ). dealt_at d r.t c x (at n1 i) (get_or m i 0)) ≡ cuts_of s c
    unfolding cuts_of
    all-dealt {l} {m} x l-is left_is parts =
        let q : Parts (marks_of s c) (still s c) d n1 m x = subst₂ (λ (k : List ℕ) (n : ℕ). Parts k n d n1 m x) l-is left_is parts in
        ap (λ (n : ℕ). column n (λ (i : ℕ). dealt_at d r.t c x (at n1 i) (get_or m i 0))) (q.places ∙ marks-length)
        ∙ column-ext _ (cut_at s c) (length s) (dealt-cut q)

  -- with nothing still to cut no unit has a remainder, and the marks are the cuts
  pub none_left : still s c ≡ 0 → marks_of s c ≡ cuts_of s c
  unfolding marks_of cuts_of cut_at
  none_left z =
      column-ext (mark s c) (cut_at s c) (length s)
      (λ i l. omega (
        arith,
        mark-whole (whole s c i) (rest s c i) (no-rest i l),
        ap bit (le-ltb (rank (before s c) (length s) i) (still s c) (omega arith)),
      ))
    where
      no-rest : (i : ℕ) → i < length s → rest s c i ≡ 0
      no-rest i l =
          omega (
            arith,
            sum_to-one i (rest s c),
            sum_to-mono (i + 1) (length s) (rest s c) (omega arith),
            still-rests s c total-pos cut-within,
            ap (λ (x : ℕ). x * sum s) z,
          )
