-- Which marks are dealt a kWh: a unit has no fewer units before it than marks are above its own, and fewer than are above any number below its own; of units told apart by size and place just so many.
use Prim.Native.Nat.{ℕ, ◌+◌, ◌-◌, ◌*◌, ◌≤◌, ◌<◌}
use mathlib.Core.Path.{◌≡◌, refl, sym, ◌∙◌, ap, subst₂}
use mathlib.Core.Bool.{Bool, ◌&&◌, ◌||◌}
use mathlib.Core.List.{List}
use native.Mathlib.Omega.{arith}
use native.Mathlib.Nat.{le_refl}
use native.Mathlib.Decide.{dec_lt}
use lib.Dec.{ltb, eqb}
use lib.IntN.{ℤ}
use lib.ListN.{length, get_or}
use borrow.Author.Tests.{ltb-true, lt-ltb, le-ltb, eq-eqb, ne_eqb}
use Rattle.numbers.specs.Column.{at, AllWithin}
use Rattle.numbers.specs.Sum.{bit, count}
use Rattle.numbers.proofs.Columns.{column-length, column-at, column-past}
use Rattle.numbers.proofs.Sums.{sum_to-lt, bit_le, count-le, count-cong, ltb_iff}
use Rattle.terms.specs.Quantities.{size_in}
use Rattle.terms.specs.declared.quantity.Direction.{Direction}
use Rattle.terms.proofs.Sizes.{size-within}
use Rattle.quota.specs.Quota.{larger_first, ahead, rank}
use Rattle.quota.specs.Inner.{top, tied, won, Marked, earlier_by, above, Spans, Parted, Tie, remark_by, remarks_of, Parts}
use Rattle.quota.proofs.Order.{ahead-over, ahead-under, ahead-same, ahead-self, no_less}
use Rattle.quota.proofs.Spans.{above-mono, at_first, parted, below-high}

-- a mark by size and place is below another just where the other's unit comes first
mark-larger : (m n i j : ℕ) → i < 64 → j < 64 → ltb (tied + m * 64 + (64 - i)) (tied + n * 64 + (64 - j)) ≡ larger_first m n i j
unfolding larger_first
mark-larger m n i j il jl = go (dec_lt m n) (dec_lt n m)
  where
    a : ℕ
    a = tied + m * 64 + (64 - i)

    b : ℕ
    b = tied + n * 64 + (64 - j)

    go : Dec (m < n) → Dec (n < m) → ltb a b ≡ ltb m n || (eqb m n && ltb j i)
    go (yes l) k = rw (lt-ltb m n l) (lt-ltb a b (omega arith))
    go (no l) (yes k) = rw (le-ltb m n (omega arith), ne_eqb m n (λ e. omega arith)) (le-ltb a b (omega arith))
    go (no l) (no k) = rw (le-ltb m n (omega arith), eq-eqb m n (omega arith)) (ltb_iff a b j i (λ p. omega arith) (λ p. omega arith))

module _ (shared m n i : ℕ) where
  re-under : m < shared → remark_by shared m n i ≡ m
  unfolding remark_by
  re-under l = rw (lt-ltb m shared l)

  re-over : shared < m → remark_by shared m n i ≡ won
  unfolding remark_by
  re-over l = rw (le-ltb m shared (omega arith), lt-ltb shared m l)

  re-tied : m ≡ shared → remark_by shared m n i ≡ tied + n * 64 + (64 - i)
  unfolding remark_by
  re-tied e = rw (le-ltb m shared (omega arith), le-ltb shared m (omega arith))

module _ (l : List ℕ) (d : Direction) (n1 : List ℤ) where
  abbrev size : ℕ → ℕ
  size i = size_in d (at n1 i)

  -- how many units come before unit i
  abbrev place : ℕ → ℕ
  place i = rank (earlier_by l d n1) (length l) i

  place-over : (i : ℕ) → above l (get_or l i 0) ≤ place i
  unfolding above rank earlier_by
  place-over i =
      count-le (length l) (λ (j : ℕ). ltb (get_or l i 0) (get_or l j 0)) (λ (j : ℕ). earlier_by l d n1 j i)
      (λ j _ e. ahead-over (get_or l i 0) (get_or l j 0) (size i) (size j) i j (ltb-true (get_or l i 0) (get_or l j 0) e))

  place-under : (i x : ℕ) → i < length l → x < get_or l i 0 → place i < above l x
  unfolding above rank count earlier_by
  place-under i x il h =
      sum_to-lt (length l) (λ (j : ℕ). bit (earlier_by l d n1 j i)) (λ (j : ℕ). bit (ltb x (get_or l j 0)))
      (λ j _. bit_le (earlier_by l d n1 j i) (ltb x (get_or l j 0))
      (λ e. lt-ltb x (get_or l j 0) (omega (arith, no_less (get_or l i 0) (get_or l j 0) (size i) (size j) i j e))))
      i il
      (subst₂ (λ (p q : Bool). bit p < bit q) (sym (ahead-self (get_or l i 0) (size i) i)) (sym (lt-ltb x (get_or l i 0) h)) (le_refl 1))

  -- just so many marks as kWh are left are above a number: the marks stay
  pub just-parts : {left x : ℕ} → above l x ≡ left → Parts l left d n1 l x
  just-parts {left} {x} e = record { places = refl; wholes = λ k _ _. refl; marks = λ k _ a. a; parts = λ k kl _. go k kl (dec_lt x (get_or l k 0)) }
    where
      go : (k : ℕ) → k < length l → Dec (x < get_or l k 0) → ltb x (get_or l k 0) ≡ ltb (place k) left
      go k kl (yes h) = rw (lt-ltb x (get_or l k 0) h, lt-ltb (place k) left (omega (arith, place-under k x kl h)))
      go k kl (no h) =
          let m : get_or l k 0 ≤ x = omega arith in
          rw (le-ltb x (get_or l k 0) m, le-ltb (place k) left (omega (arith, place-over k, above-mono l (get_or l k 0) x m)))

  module _ {left shared : ℕ} (few : Marked l left) (t : Tie l left shared) (range : AllWithin 1000000 n1) where
    abbrev pub re : List ℕ
    re = remarks_of shared d n1 l

    pub re-length : length re ≡ length l
    unfolding remarks_of
    re-length = column-length (λ (i : ℕ). remark_by shared (get_or l i 0) (size i) i) (length l)

    re-at : (i : ℕ) → i < length l → get_or re i 0 ≡ remark_by shared (get_or l i 0) (size i) i
    unfolding remarks_of
    re-at i m = column-at (λ (i : ℕ). remark_by shared (get_or l i 0) (size i) i) (length l) i 0 m

    small : (i : ℕ) → size i ≤ 1000000
    small i = size-within d (at n1 i) (range i)

    -- no mark is above `won`
    re-won : (i : ℕ) → get_or re i 0 ≤ won
    unfolding remarks_of
    re-won i = go (dec_lt i (length l)) (dec_lt (get_or l i 0) shared) (dec_lt shared (get_or l i 0))
      where
        go : Dec (i < length l) → Dec (get_or l i 0 < shared) → Dec (shared < get_or l i 0) → get_or re i 0 ≤ won
        go (no m) _ _ = omega (arith, column-past (λ (i : ℕ). remark_by shared (get_or l i 0) (size i) i) (length l) i 0 (omega arith))
        go (yes m) (yes u) _ = omega (arith, re-at i m, re-under shared (get_or l i 0) (size i) i u, few.small i)
        go (yes m) (no u) (yes v) = omega (arith, re-at i m, re-over shared (get_or l i 0) (size i) i v)
        go (yes m) (no u) (no v) = omega (arith, re-at i m, re-tied shared (get_or l i 0) (size i) i (omega arith), small i)

    -- the span in which the units of the shared mark lie
    pub tied-first : Spans re left tied won
    tied-first = at_first few.some (omega arith) re-won

    -- of such a unit the marks above its own are those of the units before it
    module _ (i : ℕ) (il : i < length l) (e : get_or l i 0 ≡ shared) where
      abbrev apart : ℕ
      apart = tied + size i * 64 + (64 - i)

      is-apart : get_or re i 0 ≡ apart
      is-apart = re-at i il ∙ re-tied shared (get_or l i 0) (size i) i e

      one_by_one : (j : ℕ) → j < length l → ltb (get_or re i 0) (get_or re j 0) ≡ earlier_by l d n1 j i
      unfolding earlier_by
      one_by_one j m = ap (λ (x : ℕ). ltb x (get_or re j 0)) is-apart ∙ go (dec_lt (get_or l j 0) shared) (dec_lt shared (get_or l j 0))
        where
          go : Dec (get_or l j 0 < shared) → Dec (shared < get_or l j 0) → ltb apart (get_or re j 0) ≡ ahead (get_or l i 0) (get_or l j 0) (size i) (size j) i j
          go (yes u) _ =
              le-ltb apart (get_or re j 0) (omega (arith, re-at j m, re-under shared (get_or l j 0) (size j) j u, few.small j))
              ∙ sym (ahead-under (get_or l i 0) (get_or l j 0) (size i) (size j) i j (omega arith))
          go (no u) (yes v) =
              lt-ltb apart (get_or re j 0) (omega (arith, re-at j m, re-over shared (get_or l j 0) (size j) j v, small i))
              ∙ sym (ahead-over (get_or l i 0) (get_or l j 0) (size i) (size j) i j (omega arith))
          go (no u) (no v) =
              ap (λ (y : ℕ). ltb apart y) (re-at j m ∙ re-tied shared (get_or l j 0) (size j) j (omega arith))
              ∙ mark-larger (size i) (size j) i j (omega (arith, few.few)) (omega (arith, few.few))
              ∙ sym (ahead-same (get_or l i 0) (get_or l j 0) (size i) (size j) i j (omega arith))

      place-tied : above re (get_or re i 0) ≡ place i
      unfolding above rank
      place-tied =
          ap (λ (n : ℕ). count n (λ (j : ℕ). ltb (get_or re i 0) (get_or re j 0))) re-length
          ∙ count-cong (length l) (λ (j : ℕ). ltb (get_or re i 0) (get_or re j 0)) (λ (j : ℕ). earlier_by l d n1 j i) one_by_one

    -- however the units of the shared mark are parted, all marks are
    pub tie_parts : {x high : ℕ} → Parted re left tied x high → Parts l left d n1 re x
    tie_parts {x} {high} p = record { places = re-length; wholes = wholes; marks = marks; parts = λ k kl a. go k kl a (dec_lt (get_or l k 0) shared) (dec_lt shared (get_or l k 0)) }
      where
        wholes : (k : ℕ) → k < length l → get_or l k 0 ≤ top → get_or re k 0 ≡ get_or l k 0
        wholes k kl a = re-at k kl ∙ re-under shared (get_or l k 0) (size k) k (omega (arith, t.marks))

        marks : (k : ℕ) → k < length l → top < get_or l k 0 → top < get_or re k 0
        marks k kl a = told (dec_lt (get_or l k 0) shared) (dec_lt shared (get_or l k 0))
          where
            told : Dec (get_or l k 0 < shared) → Dec (shared < get_or l k 0) → top < get_or re k 0
            told (yes u) _ = omega (arith, re-at k kl, re-under shared (get_or l k 0) (size k) k u)
            told (no u) (yes v) = omega (arith, re-at k kl, re-over shared (get_or l k 0) (size k) k v)
            told (no u) (no v) = omega (arith, re-at k kl, re-tied shared (get_or l k 0) (size k) k (omega arith))

        go : (k : ℕ) → k < length l → top < get_or l k 0 → Dec (get_or l k 0 < shared) → Dec (shared < get_or l k 0) → ltb x (get_or re k 0) ≡ ltb (place k) left
        go k kl a (yes u) _ =
            le-ltb x (get_or re k 0) (omega (arith, re-at k kl, re-under shared (get_or l k 0) (size k) k u, few.small k, p.lower))
            ∙ sym (le-ltb (place k) left (omega (arith, place-over k, t.under k kl a u)))
        go k kl a (no u) (yes v) =
            parted p k (omega (arith, re-length)) (omega (arith, re-at k kl, re-over shared (get_or l k 0) (size k) k v))
            ∙ lt-ltb (above re (get_or re k 0)) left (below k kl v)
            ∙ sym (lt-ltb (place k) left (omega (arith, place-under k shared kl v, t.over)))
          where
            below : (k : ℕ) → k < length l → shared < get_or l k 0 → above re (get_or re k 0) < left
            below k kl v = omega (arith, ap (above re) (re-at k kl ∙ re-over shared (get_or l k 0) (size k) k v), tied-first.highs (omega arith))
        go k kl a (no u) (no v) =
            let e : get_or l k 0 ≡ shared = omega arith in
            parted p k (omega (arith, re-length)) (omega (arith, is-apart k kl e))
            ∙ ap (λ (r : ℕ). ltb r left) (place-tied k kl e)

-- at first the marks lie between `top` and `tied`
pub marks-first : {l : List ℕ} {left : ℕ} → Marked l left → Spans l left top tied
marks-first h = at_first h.some (omega arith) (λ k. omega (arith, h.small k))

-- and where the ends of their span are two numbers, the upper one may be a mark that units to tell apart share
pub tie-of : {l : List ℕ} {left low high : ℕ} → Parted l left top low high → low < high → Tie l left high
tie-of p apart = record { marks = omega (arith, p.lower); over = p.spans.highs apart; under = below-high p apart }
