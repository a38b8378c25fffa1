-- The promises of demand 3, each from the exact share taken apart, whole part times T plus remainder, multiplied out for omega.
-- Of the order in which the odd kWh are dealt they use `order` and `agrees` alone.
use Prim.Native.Nat.{ℕ, ◌+◌, ◌-◌, ◌*◌, ◌≤◌, ◌<◌}
use mathlib.Core.Path.{◌≡◌, ◌∙◌, ap}
use mathlib.Core.Bool.{Bool}
use mathlib.Core.List.{List}
use native.Mathlib.Omega.{arith}
use native.Mathlib.Nat.{div-add-mod', mod-lt, add-zero, le_of_mul-le-mul_right, lt_of_mul-lt-mul_right, mul-lt-mul_of_pos_right, mul-le-mul_left, mul-le-mul_right}
use native.Mathlib.Decide.{dec_lt}
use lib.Dec.{ltb}
use lib.ListN.{length, get_or, get_or-eq_default}
use borrow.Author.Tests.{ltb-true, lt-ltb, le-ltb}
use Rattle.numbers.specs.Sum.{sum, sum_to, bit, count}
use Rattle.numbers.proofs.Sums.{sum_to-cong, sum_to-le, sum_to-add, sum_to-mul, sum_to-list, sum-column, count-le, count-all}
use Rattle.quota.specs.Quota.{whole, rest, before, rank, still, cut_at, cuts_of}
use Rattle.quota.proofs.Counting.{rank_lt, exactly}
use Rattle.quota.proofs.Order.{order, agrees}

module _ (s : List ℕ) (c : ℕ) where
  -- the exact share, taken apart
  pub share : (i : ℕ) → whole s c i * sum s + rest s c i ≡ c * get_or s i 0
  unfolding whole rest
  share i = div-add-mod' (c * get_or s i 0) (sum s)

  pub rest_lt : 0 < sum s → (i : ℕ) → rest s c i < sum s
  unfolding rest
  rest_lt pos i = mod-lt (c * get_or s i 0) pos

  -- all shares together
  shares : sum_to (length s) (whole s c) * sum s + sum_to (length s) (rest s c) ≡ c * sum s
  shares =
      let n : ℕ = length s in
      let t : ℕ = sum s in
      omega (
        arith,
        sum_to-mul t n (whole s c),
        sum_to-add n (λ (i : ℕ). t * whole s c i) (rest s c),
        sum_to-mul c n (λ (i : ℕ). get_or s i 0),
        ap (λ (x : ℕ). c * x) (sum_to-list s),
        sum_to-cong n (λ (i : ℕ). t * whole s c i + rest s c i) (λ (i : ℕ). c * get_or s i 0) (λ i _. omega (arith, share i)),
      )

  -- a unit with a size, or with a remainder, is one of the list
  size-inside : (i : ℕ) → 0 < get_or s i 0 → i < length s
  size-inside i h = go (dec_lt i (length s))
    where
      go : Dec (i < length s) → i < length s
      go (yes l) = l
      go (no l) = absurd (omega (arith, get_or-eq_default s 0 {n = i} (omega arith)))

  pub rest-size : (i : ℕ) → 0 < rest s c i → 0 < get_or s i 0
  rest-size i h = go (dec_lt 0 (get_or s i 0))
    where
      go : Dec (0 < get_or s i 0) → 0 < get_or s i 0
      go (yes l) = l
      go (no l) =
          let z : get_or s i 0 ≡ 0 = omega arith in
          absurd (omega (arith, share i, ap (λ (x : ℕ). c * x) z))

  rest-inside : (i : ℕ) → 0 < rest s c i → i < length s
  rest-inside i h = size-inside i (rest-size i h)

  module _ (pos : 0 < sum s) (le : c ≤ sum s) where
    pub wholes-le : sum_to (length s) (whole s c) ≤ c
    wholes-le = le_of_mul-le-mul_right {k = sum s} (omega (arith, shares)) pos

    still-add : sum_to (length s) (whole s c) + still s c ≡ c
    unfolding still
    still-add = omega (arith, wholes-le)

    pub still-rests : still s c * sum s ≡ sum_to (length s) (rest s c)
    still-rests = omega (arith, shares, ap (λ (x : ℕ). x * sum s) still-add)

    -- no more kWh are still to cut than there are remainders above 0
    still-le : still s c ≤ count (length s) (λ (i : ℕ). ltb 0 (rest s c i))
    unfolding count
    still-le =
        let n : ℕ = length s in
        let t : ℕ = sum s in
        let p : ℕ → ℕ = λ (i : ℕ). bit (ltb 0 (rest s c i)) in
        le_of_mul-le-mul_right {k = sum s}
        (omega (arith, still-rests, sum_to-mul t n p, sum_to-le n (rest s c) (λ (i : ℕ). t * p i) (λ i _. one i (dec_lt 0 (rest s c i))))) pos
      where
        one : (i : ℕ) → Dec (0 < rest s c i) → rest s c i ≤ sum s * bit (ltb 0 (rest s c i))
        one i (yes l) = omega (arith, rest_lt pos i, ap (λ (b : Bool). sum s * bit b) (lt-ltb 0 (rest s c i) l))
        one i (no l) = omega arith

    -- who is dealt an odd kWh has a remainder
    pub dealt-rest : (i : ℕ) → rank (before s c) (length s) i < still s c → 0 < rest s c i
    unfolding rank
    dealt-rest i l = go (dec_lt 0 (rest s c i))
      where
        go : Dec (0 < rest s c i) → 0 < rest s c i
        go (yes h) = h
        go (no h) =
            absurd
            (omega (
              arith,
              still-le,
              count-le (length s) (λ (j : ℕ). ltb 0 (rest s c j)) (λ (j : ℕ). before s c j i)
                  (λ j _ e. agrees s c j i (omega (arith, ltb-true 0 (rest s c j) e))),
            ))

    -- what unit i is cut: its whole part, or one more, and then it has a remainder and fewer before it than are still to cut
    data Way (i : ℕ) : Type 0 where
      plain : cut_at s c i ≡ whole s c i → still s c ≤ rank (before s c) (length s) i → Way i
      more : cut_at s c i ≡ whole s c i + 1 → rank (before s c) (length s) i < still s c → 0 < rest s c i → Way i

    way : (i : ℕ) → Way i
    unfolding cut_at
    way i = go (dec_lt (rank (before s c) (length s) i) (still s c))
      where
        go : Dec (rank (before s c) (length s) i < still s c) → Way i
        go (yes l) = more (ap (λ (b : Bool). whole s c i + bit b) (lt-ltb _ _ l)) l (dealt-rest i l)
        go (no l) =
            let m : still s c ≤ rank (before s c) (length s) i = omega arith in
            plain (ap (λ (b : Bool). whole s c i + bit b) (le-ltb _ _ m) ∙ add-zero (whole s c i)) m

    -- a. the cuts add up to C
    pub cuts-add-up : sum (cuts_of s c) ≡ c
    unfolding cuts_of cut_at count
    cuts-add-up =
        omega (
          arith,
          sum-column (length s) (cut_at s c),
          sum_to-add (length s) (whole s c) (λ (i : ℕ). bit (ltb (rank (before s c) (length s) i) (still s c))),
          exactly (before s c) (order s c) (length s) (still s c) (omega (arith, still-le, count-all (length s) (λ (i : ℕ). ltb 0 (rest s c i)))),
          still-add,
        )

    -- b. no unit is cut by more than its size
    pub cut-le : (i : ℕ) → cut_at s c i ≤ get_or s i 0
    cut-le i = go (way i)
      where
        top : c * get_or s i 0 ≤ sum s * get_or s i 0
        top = mul-le-mul_right (get_or s i 0) le

        go : Way i → cut_at s c i ≤ get_or s i 0
        go (plain e _) =
            let w : whole s c i ≤ get_or s i 0 = le_of_mul-le-mul_right {k = sum s} (omega (arith, share i, top)) pos in omega arith
        go (more e _ r) =
            let w : whole s c i < get_or s i 0 = lt_of_mul-lt-mul_right (sum s) (omega (arith, share i, top)) in omega arith

    -- c. less than one kWh from the exact share
    pub cut-near : (i : ℕ) → (cut_at s c i * sum s < c * get_or s i 0 + sum s) × (c * get_or s i 0 < cut_at s c i * sum s + sum s)
    cut-near i = go (way i)
      where
        go : Way i → (cut_at s c i * sum s < c * get_or s i 0 + sum s) × (c * get_or s i 0 < cut_at s c i * sum s + sum s)
        go (plain e _) = omega (arith, share i, rest_lt pos i, ap (λ (x : ℕ). x * sum s) e)
        go (more e _ r) = omega (arith, share i, rest_lt pos i, ap (λ (x : ℕ). x * sum s) e)

    -- d. a larger unit is cut by no less, and left with no less
    module _ (a b : ℕ) (larger : get_or s b 0 < get_or s a 0) where
      at_c : c * get_or s b 0 + c ≤ c * get_or s a 0
      at_c = omega (arith, mul-le-mul_left c larger)

      whole_le : whole s c b ≤ whole s c a
      whole_le =
          let l : whole s c b < whole s c a + 1 = lt_of_mul-lt-mul_right (sum s) (omega (arith, share a, share b, rest_lt pos a, at_c)) in
          omega arith

      pub cut-mono : cut_at s c b ≤ cut_at s c a
      cut-mono = go (way a) (way b)
        where
          -- equal whole parts: the larger unit has the larger remainder, and comes first
          first : whole s c a ≡ whole s c b → 0 < rest s c b → rank (before s c) (length s) a < rank (before s c) (length s) b
          first e h =
              rank_lt (before s c) (order s c) (length s) a b (size-inside a (omega arith))
              (agrees s c a b (omega (arith, share a, share b, at_c, c_pos (dec_lt 0 c), ap (λ (x : ℕ). x * sum s) e)))
            where
              c_pos : Dec (0 < c) → 0 < c
              c_pos (yes l) = l
              c_pos (no l) =
                  let z : c ≡ 0 = omega arith in
                  absurd (omega (arith, share b, ap (λ (x : ℕ). x * get_or s b 0) z))

          same : Dec (whole s c b < whole s c a) → 0 < rest s c b → rank (before s c) (length s) b < still s c →
              still s c ≤ rank (before s c) (length s) a → whole s c b < whole s c a
          same (yes l) h p q = l
          same (no l) h p q = absurd (omega (arith, first (omega (arith, whole_le)) h))

          go : Way a → Way b → cut_at s c b ≤ cut_at s c a
          go (plain ea _) (plain eb _) = omega (arith, whole_le)
          go (more ea _ _) (plain eb _) = omega (arith, whole_le)
          go (more ea _ _) (more eb _ _) = omega (arith, whole_le)
          go (plain ea qa) (more eb pb hb) = omega (arith, same (dec_lt (whole s c b) (whole s c a)) hb pb qa)

      -- the larger unit is d larger, and d units of size lose no more than d
      d : ℕ
      d = get_or s a 0 - get_or s b 0

      d-is : get_or s a 0 ≡ get_or s b 0 + d
      unfolding d
      d-is = omega arith

      times : (x : ℕ) → x * get_or s a 0 ≡ x * get_or s b 0 + x * d
      times x = omega (arith, ap (λ (y : ℕ). x * y) d-is)

      left_le : whole s c a + get_or s b 0 ≤ whole s c b + get_or s a 0
      left_le =
          let l : whole s c a + get_or s b 0 < whole s c b + get_or s a 0 + 1 =
          lt_of_mul-lt-mul_right (sum s) (omega (arith, share a, share b, rest_lt pos b, mul-le-mul_right d le, times c, times (sum s))) in
          omega arith

      pub left-mono : get_or s b 0 - cut_at s c b ≤ get_or s a 0 - cut_at s c a
      left-mono = go (way a) (way b)
        where
          -- when the smaller unit loses, of the whole parts, as much less as it is smaller, its remainder is larger
          first : whole s c a + get_or s b 0 ≡ whole s c b + get_or s a 0 → 0 < rest s c a → rest s c a < rest s c b
          first e h = go (dec_lt (rest s c a) (rest s c b)) (dec_lt c (sum s))
            where
              even : whole s c a * sum s + sum s * get_or s b 0 ≡ whole s c b * sum s + sum s * get_or s a 0
              even = omega (arith, ap (λ (x : ℕ). x * sum s) e)

              go : Dec (rest s c a < rest s c b) → Dec (c < sum s) → rest s c a < rest s c b
              go (yes l) _ = l
              go (no l) (yes m) =
                  absurd (omega (arith, even, share a, share b, times c, times (sum s), mul-lt-mul_of_pos_right {k = d} m (omega (arith, d-is))))
              go (no l) (no m) =
                  let q : c ≡ sum s = omega arith in
                  let u : c * get_or s a 0 ≡ sum s * get_or s a 0 = ap (λ (x : ℕ). x * get_or s a 0) q in
                  let v : whole s c a < get_or s a 0 = lt_of_mul-lt-mul_right (sum s) (omega (arith, share a)) in
                  let w : get_or s a 0 < whole s c a + 1 = lt_of_mul-lt-mul_right (sum s) (omega (arith, share a, rest_lt pos a)) in
                  absurd (omega arith)

          same : Dec (whole s c a + get_or s b 0 < whole s c b + get_or s a 0) → 0 < rest s c a → rank (before s c) (length s) a < still s c →
              still s c ≤ rank (before s c) (length s) b → whole s c a + get_or s b 0 < whole s c b + get_or s a 0
          same (yes l) h p q = l
          same (no l) h p q =
              let f : rest s c a < rest s c b = first (omega (arith, left_le)) h in
              absurd (omega (arith, rank_lt (before s c) (order s c) (length s) b a (rest-inside b (omega arith)) (agrees s c b a f)))

          go : Way a → Way b → get_or s b 0 - cut_at s c b ≤ get_or s a 0 - cut_at s c a
          go (plain ea _) (plain eb _) = omega (arith, left_le, cut-le a, cut-le b)
          go (plain ea _) (more eb _ _) = omega (arith, left_le, cut-le a, cut-le b)
          go (more ea _ _) (more eb _ _) = omega (arith, left_le, cut-le a, cut-le b)
          go (more ea pa ha) (plain eb qb) =
              omega (arith, cut-le a, cut-le b, same (dec_lt (whole s c a + get_or s b 0) (whole s c b + get_or s a 0)) ha pa qb)
