-- What step 2 takes of each unit: no more than its size in the direction cut, by the laws of `quota` for each standing, and so much nearer to zero it comes.
use Prim.Native.Nat.{ℕ, ◌+◌, ◌*◌, ◌/◌, ◌%◌, ◌≤◌, ◌<◌}
use mathlib.Core.Path.{◌≡◌, refl, sym, ◌∙◌, ap, ap₂, subst₂}
use mathlib.Core.Bool.{true, false}
use mathlib.Core.Logic.{◌⊎◌}
use mathlib.Core.List.{List}
use native.Mathlib.Omega.{arith}
use native.Mathlib.Decide.{dec_lt}
use lib.IntN.{ℤ, pos, nat_abs, ◌+ℤ◌, ◌-ℤ◌}
use lib.ListN.{length, get_or, get_or-eq_default}
use Rattle.numbers.specs.Choice.{pick}
use Rattle.numbers.specs.Column.{column, at}
use Rattle.numbers.specs.Sum.{sum, sum_to}
use Rattle.numbers.proofs.Integers.{zarith, plus, minus, abs-z, one_side}
use Rattle.numbers.proofs.Choices.{pick_ind}
use Rattle.numbers.proofs.Columns.{column-at, column-past}
use Rattle.numbers.proofs.Sums.{sum_to-cong, sum_to-add, sum_to-end, sum-entry}
use Rattle.terms.specs.Quantities.{standing, size_in}
use Rattle.terms.specs.declared.quantity.Standing.{Standing}
use Rattle.terms.specs.declared.quantity.Standing.TheVariants.{NotEnabled, Enabled}
use Rattle.terms.specs.declared.quantity.Direction.{Direction}
use Rattle.terms.specs.declared.quantity.Direction.TheVariants.{Injections, Withdrawals}
use Rattle.quota.specs.Quota.{whole, rest, cuts_of, Fair}
use Rattle.quota.proofs.Fairness.{cuts-fair, length-cuts, cuts-within, cuts-total, cuts-all}
use Rattle.quota.proofs.Larger.{larger-dealt}
use Rattle.group.specs.Steps.{direction_of, nearer_by}
use Rattle.group.specs.Group.{size_of, sizes_of, share_of, cuts_for, taken_off, step2_all}
use Rattle.group.specs.Inner.{Classed, loss_at}
use Rattle.group.proofs.Sides.{size_in-side, no_size, sizes-length, size-at, size-of, size-not, both-standings}
use Rattle.group.proofs.Bearing.{Toward, Bears}

-- m is n, nearer to zero by c in a direction
pub record Nearer (d : Direction) (n : ℤ) (c : ℕ) (m : ℤ) : Type 0 where
  pub lost : nat_abs (n -ℤ m) ≡ c
  pub left : size_in d m + c ≡ size_in d n
  pub toward : Toward m n

pub nearer : (d : Direction) (n : ℤ) (c : ℕ) → c ≤ size_in d n → Nearer d n c (nearer_by d n c)
nearer Injections n c h =
    let m : ℤ = n -ℤ pos c in
    omega (zarith, size_in-side Injections n, size_in-side Injections m, minus n (pos c), minus n m, abs-z (n -ℤ m), one_side n, one_side m, one_side (n -ℤ m))
nearer Withdrawals n c h =
    let m : ℤ = n +ℤ pos c in
    omega (zarith, size_in-side Withdrawals n, size_in-side Withdrawals m, plus n (pos c), minus n m, abs-z (n -ℤ m), one_side n, one_side m, one_side (n -ℤ m))

pub nearer-none : (d : Direction) → nearer_by d (pos 0) 0 ≡ pos 0
nearer-none Injections = refl
nearer-none Withdrawals = refl

module _ (e : ℤ) (n1 : List ℤ) (class : List ℕ) (bears : Bears e n1 class) where
  -- no standing is to lose more than it has
  pub share-bearable : (k : Standing) → share_of e k n1 class ≤ sum (sizes_of (direction_of e) k n1 class)
  unfolding share_of
  share-bearable NotEnabled = omega arith
  share-bearable Enabled = omega arith

  shares-add : share_of e NotEnabled n1 class + share_of e Enabled n1 class ≡ nat_abs e
  unfolding share_of
  shares-add = omega arith

  -- those enabled bear something only where those not enabled lose all
  used-up : 0 < share_of e Enabled n1 class → share_of e NotEnabled n1 class ≡ sum (sizes_of (direction_of e) NotEnabled n1 class)
  unfolding share_of
  used-up l = omega arith

  cuts-sum : (k : Standing) → sum (cuts_for e k n1 class) ≡ share_of e k n1 class
  unfolding cuts_for
  cuts-sum k = cuts-total (sizes_of (direction_of e) k n1 class) (share_of e k n1 class) (share-bearable k)

  cuts-length : (k : Standing) → length (cuts_for e k n1 class) ≡ length n1
  unfolding cuts_for
  cuts-length k = length-cuts (sizes_of (direction_of e) k n1 class) (share_of e k n1 class) ∙ sizes-length (direction_of e) k n1 class

  pub loss-le : (i : ℕ) → loss_at e n1 class i ≤ nat_abs e
  loss-le i =
      omega (
        arith,
        sum-entry (cuts_for e NotEnabled n1 class) i,
        sum-entry (cuts_for e Enabled n1 class) i,
        cuts-sum NotEnabled,
        cuts-sum Enabled,
        shares-add,
      )

  pub all-cut : (k : Standing) (j : ℕ) → share_of e k n1 class ≡ sum (sizes_of (direction_of e) k n1 class)
      → get_or (cuts_for e k n1 class) j 0 ≡ size_of (direction_of e) k (get_or class j 0) (at n1 j)
  unfolding cuts_for
  all-cut k j h =
      let s : List ℕ = sizes_of (direction_of e) k n1 class in
      ap (λ (c : ℕ). get_or (cuts_of s c) j 0) h ∙ cuts-all s j ∙ size-at (direction_of e) k n1 class j

  pub cut-within : (k : Standing) (i : ℕ) → get_or (cuts_for e k n1 class) i 0 ≤ size_of (direction_of e) k (get_or class i 0) (at n1 i)
  unfolding cuts_for
  cut-within k i =
      omega (
        arith,
        cuts-within (sizes_of (direction_of e) k n1 class) (share_of e k n1 class) (share-bearable k) i,
        size-at (direction_of e) k n1 class i,
      )

  pub loss-within : Classed n1 class → (i : ℕ) → loss_at e n1 class i ≤ size_in (direction_of e) (at n1 i)
  loss-within h i =
      omega (arith, cut-within NotEnabled i, cut-within Enabled i, both-standings (direction_of e) (get_or class i 0) (at n1 i) (h.known i))

  module _ (classed : Classed n1 class) where
    -- step 2 of each unit, past the end too
    step2-at : (i : ℕ) → at (step2_all e n1 class) i ≡ nearer_by (direction_of e) (at n1 i) (loss_at e n1 class i)
    unfolding step2_all taken_off
    step2-at i = go (dec_lt i (length n1))
      where
        f : ℕ → ℤ
        f j = nearer_by (direction_of e) (at n1 j) (loss_at e n1 class j)

        go : Dec (i < length n1) → at (column (length n1) f) i ≡ f i
        go (yes l) = column-at f (length n1) i (pos 0) l
        go (no l) =
            let z : at n1 i ≡ pos 0 = get_or-eq_default n1 (pos 0) {n = i} (omega arith) in
            let c : loss_at e n1 class i ≡ 0 = omega (arith, loss-within classed i, ap (size_in (direction_of e)) z, no_size (direction_of e)) in
            column-past f (length n1) i (pos 0) (omega arith) ∙ sym (ap₂ (nearer_by (direction_of e)) z c ∙ nearer-none (direction_of e))

    pub step2-nearer : (i : ℕ) → Nearer (direction_of e) (at n1 i) (loss_at e n1 class i) (at (step2_all e n1 class) i)
    step2-nearer i = rw (step2-at i) (nearer (direction_of e) (at n1 i) (loss_at e n1 class i) (loss-within classed i))

    -- a unit that stands so is cut with those that stand so alone
    pub loss-of : (k : Standing) (i : ℕ) → standing k (get_or class i 0) ≡ true → loss_at e n1 class i ≡ get_or (cuts_for e k n1 class) i 0
    loss-of k i h = go k (size-of (direction_of e) k (get_or class i 0) (at n1 i) h)
      where
        go : (k : Standing) → size_of (direction_of e) k (get_or class i 0) (at n1 i) ≡ size_in (direction_of e) (at n1 i) → loss_at e n1 class i ≡ get_or (cuts_for e k n1 class) i 0
        go NotEnabled s = omega (arith, cut-within Enabled i, both-standings (direction_of e) (get_or class i 0) (at n1 i) (classed.known i))
        go Enabled s = omega (arith, cut-within NotEnabled i, both-standings (direction_of e) (get_or class i 0) (at n1 i) (classed.known i))

    -- what the units that stand so lose together is their share
    pub class-losses : (k : Standing) → sum_to (length n1) (λ i. pick (standing k (get_or class i 0)) (loss_at e n1 class i) 0) ≡ share_of e k n1 class
    class-losses k =
        sum_to-cong (length n1) (λ i. pick (standing k (get_or class i 0)) (loss_at e n1 class i) 0) (λ i. get_or (cuts_for e k n1 class) i 0)
        (λ i _. pick_ind (standing k (get_or class i 0)) (loss_at e n1 class i) 0 (λ c. c ≡ get_or (cuts_for e k n1 class) i 0) (loss-of k i) (none i))
        ∙ sum_to-end (cuts_for e k n1 class) (length n1) (sym (cuts-length k)) ∙ cuts-sum k
      where
        none : (i : ℕ) → standing k (get_or class i 0) ≡ false → 0 ≡ get_or (cuts_for e k n1 class) i 0
        none i h = omega (arith, cut-within k i, size-not (direction_of e) k (get_or class i 0) (at n1 i) h)

    -- all losses together are the excess
    pub losses : sum_to (length n1) (loss_at e n1 class) ≡ nat_abs e
    losses =
        let f : ℕ → ℕ = λ i. get_or (cuts_for e NotEnabled n1 class) i 0 in
        let g : ℕ → ℕ = λ i. get_or (cuts_for e Enabled n1 class) i 0 in
        omega (
          arith,
          sum_to-add (length n1) f g,
          sum_to-end (cuts_for e NotEnabled n1 class) (length n1) (sym (cuts-length NotEnabled)),
          sum_to-end (cuts_for e Enabled n1 class) (length n1) (sym (cuts-length Enabled)),
          cuts-sum NotEnabled,
          cuts-sum Enabled,
          shares-add,
        )

    -- what those enabled lose, those not enabled have lost before
    pub enabled-last : (i j : ℕ) → standing Enabled (get_or class i 0) ≡ true → 0 < loss_at e n1 class i
        → standing NotEnabled (get_or class j 0) ≡ true → loss_at e n1 class j ≡ size_in (direction_of e) (at n1 j)
    enabled-last i j hi l hj =
        let some : 0 < share_of e Enabled n1 class = omega (arith, loss-of Enabled i hi, sum-entry (cuts_for e Enabled n1 class) i, cuts-sum Enabled) in
        loss-of NotEnabled j hj ∙ all-cut NotEnabled j (used-up some) ∙ size-of (direction_of e) NotEnabled (get_or class j 0) (at n1 j) hj

    -- the laws of `quota`, over the units that stand so
    module _ (k : Standing) where
      size-here : (i : ℕ) → standing k (get_or class i 0) ≡ true → get_or (sizes_of (direction_of e) k n1 class) i 0 ≡ size_in (direction_of e) (at n1 i)
      size-here i h = size-at (direction_of e) k n1 class i ∙ size-of (direction_of e) k (get_or class i 0) (at n1 i) h

      fair-here : (i : ℕ) → standing k (get_or class i 0) ≡ true → 0 < size_in (direction_of e) (at n1 i)
          → Fair (sizes_of (direction_of e) k n1 class) (share_of e k n1 class) (cuts_for e k n1 class)
      unfolding cuts_for
      fair-here i h l =
          let s : List ℕ = sizes_of (direction_of e) k n1 class in
          cuts-fair s (share_of e k n1 class) (omega (arith, size-here i h, sum-entry s i)) (share-bearable k)

      pub near : (i : ℕ) → standing k (get_or class i 0) ≡ true → 0 < size_in (direction_of e) (at n1 i) → let t = sum (sizes_of (direction_of e) k n1 class) in
          (loss_at e n1 class i * t < share_of e k n1 class * size_in (direction_of e) (at n1 i) + t)
          × (share_of e k n1 class * size_in (direction_of e) (at n1 i) < loss_at e n1 class i * t + t)
      near i h l = rw (loss-of k i h, ← size-here i h) ((fair-here i h l).near i)

      pub larger : (i j : ℕ) → standing k (get_or class i 0) ≡ true → standing k (get_or class j 0) ≡ true
          → size_in (direction_of e) (at n1 j) < size_in (direction_of e) (at n1 i)
          → (loss_at e n1 class j ≤ loss_at e n1 class i)
          × (size_in (direction_of e) (at (step2_all e n1 class) j) ≤ size_in (direction_of e) (at (step2_all e n1 class) i))
      larger i j hi hj l =
          let f = fair-here i hi (omega arith) in
          let si = size-here i hi in
          let sj = size-here j hj in
          let s : List ℕ = sizes_of (direction_of e) k n1 class in
          let m : get_or s j 0 < get_or s i 0 = omega arith in
          omega (arith, f.larger-cut i j m, f.larger-left i j m, loss-of k i hi, loss-of k j hj, (step2-nearer i).left, (step2-nearer j).left)

      -- of two units the one that loses an odd kWh, where the other does not, has the larger remainder; or as large a one, and it is the larger, or as large and earlier
      pub larger-first : (i j : ℕ) → standing k (get_or class i 0) ≡ true → standing k (get_or class j 0) ≡ true
          → let t = sum (sizes_of (direction_of e) k n1 class) in
          let c = share_of e k n1 class in
          let m = size_in (direction_of e) (at n1 i) in
          let n = size_in (direction_of e) (at n1 j) in
          c * m / t < loss_at e n1 class i → loss_at e n1 class j ≤ c * n / t → (c * n % t < c * m % t) ⊎ ((c * m % t ≡ c * n % t) × ((n < m) ⊎ ((m ≡ n) × (i < j))))
      unfolding cuts_for whole rest
      larger-first i j hi hj odd even =
          let s : List ℕ = sizes_of (direction_of e) k n1 class in
          let c : ℕ = share_of e k n1 class in
          let si = size-here i hi in
          let sj = size-here j hj in
          subst₂ (λ (m n : ℕ). (c * n % sum s < c * m % sum s) ⊎ ((c * m % sum s ≡ c * n % sum s) × ((n < m) ⊎ ((m ≡ n) × (i < j))))) si sj
          (larger-dealt s c (omega (arith, cut-within k i, loss-of k i hi, size-at (direction_of e) k n1 class i, sum-entry s i)) (share-bearable k) i j
          (subst₂ (λ (m n : ℕ). c * m / sum s < n) (sym si) (loss-of k i hi) odd)
          (subst₂ (λ (m n : ℕ). n ≤ c * m / sum s) (sym sj) (loss-of k j hj) even))
