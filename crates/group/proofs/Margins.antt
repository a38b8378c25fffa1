-- At the end every unit is at zero or within its margins: step 1 leaves none beyond the far margin, step 2 only comes nearer to zero, and step 3 stretches to the near one.
use Prim.Native.Nat.{ℕ, ◌≤◌, ◌<◌}
use mathlib.Core.Path.{◌≡◌}
use mathlib.Core.Bool.{Bool, true, false, ◌&&◌}
use mathlib.Core.List.{List}
use mathlib.Core.Logic.{◌⊎◌, inl, inr}
use native.Mathlib.Omega.{arith}
use native.Mathlib.Decide.{dec_lt}
use lib.IntN.{ℤ, pos}
use lib.ListN.{length}
use lib.Signed.{lt_z, le_z}
use Rattle.numbers.specs.Choice.{pick}
use Rattle.numbers.specs.Column.{column, at}
use Rattle.numbers.proofs.Integers.{zarith, pp, nn, by-test, one_side, asym}
use Rattle.numbers.proofs.Columns.{column-at, column-past}
use Rattle.terms.specs.declared.quantity.Margins.{Margins}
use Rattle.group.specs.Steps.{step1_of, step3_of}
use Rattle.group.specs.Group.{margins_at, step1_all, step3_all}
use Rattle.group.proofs.Bearing.{Toward}

-- one of three, by a test on each side of zero: step 1 and step 3 are of this form
clamp-ind : (P : ℤ → Type 0) (n x y : ℤ) (s t : Bool)
    → (lt_z (pos 0) n ≡ true → s ≡ true → P x) → (lt_z (pos 0) n ≡ true → s ≡ false → P n)
    → (lt_z n (pos 0) ≡ true → t ≡ true → P y) → (lt_z n (pos 0) ≡ true → t ≡ false → P n)
    → (lt_z (pos 0) n ≡ false → lt_z n (pos 0) ≡ false → P n)
    → P (pick (lt_z (pos 0) n && s) x (pick (lt_z n (pos 0) && t) y n))
clamp-ind P n x y s t p q r v z =
    by-test (lt_z (pos 0) n) (λ a. P (pick (a && s) x (pick (lt_z n (pos 0) && t) y n)))
    (λ a. by-test s (λ b. P (pick b x (pick (lt_z n (pos 0) && t) y n))) (λ b. p a b) (λ b. simp (asym (pos 0) n a) (q a b)))
    (λ a. by-test (lt_z n (pos 0)) (λ b. P (pick (b && t) y n))
    (λ b. by-test t (λ k. P (pick k y n)) (λ k. r b k) (λ k. v b k))
    (λ b. z a b))

-- z is at zero, or within the margins
abbrev pub Inside : Margins → ℤ → Type 0
Inside m z = (z ≡ pos 0) ⊎ ((le_z m.step_down z ≡ true) × (le_z z m.step_up ≡ true))

module _ (n k : ℤ) (m : Margins) (ordered : le_z m.step_down m.step_up ≡ true) where
  abbrev down : ℤ
  down = m.step_down

  abbrev up : ℤ
  up = m.step_up

  -- what step 1 leaves: not above M+ where positive, not below M- where negative
  capped : (pp (step1_of n m) ≤ pp up) × (nn (step1_of n m) ≤ nn down)
  capped =
      clamp-ind (λ z. (pp z ≤ pp up) × (nn z ≤ nn down)) n up down (lt_z up n) (lt_z n down)
      (λ a b. omega (zarith, one_side up, one_side down))
      (λ a b. omega (zarith, one_side n, one_side up))
      (λ a b. omega (zarith, one_side up, one_side down))
      (λ a b. omega (zarith, one_side n, one_side down))
      (λ a b. omega (zarith, one_side n))

  inside : Toward k (step1_of n m) → Inside m (step3_of k m)
  inside t =
      let c = capped in
      clamp-ind (Inside m) k down up (lt_z k down) (lt_z up k)
      (λ a b. inr (omega zarith))
      (λ a b. inr (omega (zarith, one_side k, one_side up)))
      (λ a b. inr (omega zarith))
      (λ a b. inr (omega (zarith, one_side k, one_side down)))
      (λ a b. inl (omega (zarith, one_side k)))

-- the same of every unit of a group
module _ (n0 n2 step_down step_up : List ℤ) (ordered : (i : ℕ) → le_z (at step_down i) (at step_up i) ≡ true)
    (toward : (i : ℕ) → Toward (at n2 i) (at (step1_all n0 step_down step_up) i)) (places : length n2 ≡ length n0) where
  pub all-inside : (i : ℕ) → Inside (margins_at step_down step_up i) (at (step3_all n2 step_down step_up) i)
  unfolding step1_all step3_all
  all-inside i = go (dec_lt i (length n0))
    where
      f : ℕ → ℤ
      f j = step1_of (at n0 j) (margins_at step_down step_up j)

      h : ℕ → ℤ
      h j = step3_of (at n2 j) (margins_at step_down step_up j)

      go : Dec (i < length n0) → Inside (margins_at step_down step_up i) (at (column (length n2) h) i)
      go (yes l) =
          rw (column-at h (length n2) i (pos 0) (omega arith))
          (inside (at n0 i) (at n2 i) (margins_at step_down step_up i) (ordered i) (rw (column-at f (length n0) i (pos 0) l) at (toward i)))
      go (no l) = inl (column-past h (length n2) i (pos 0) (omega arith))
