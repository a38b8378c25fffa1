-- Nominations and margins pass exactly where no unit has a fault, and what a unit without a fault has passed.
use Prim.Native.Nat.{ℕ, ◌+◌, ◌<◌}
use mathlib.Core.Path.{◌≡◌, refl, ap, ◌∙◌}
use mathlib.Core.Bool.{Bool, true, false, not}
use mathlib.Core.List.{List}
use native.Mathlib.Omega.{arith}
use borrow.Author.Tests.{eqb-true}
use lib.Dec.{eqb}
use lib.IntN.{ℤ, pos, neg_ℤ}
use lib.ListN.{length}
use lib.Signed.{le_z}
use Rattle.numbers.specs.Range.{Within}
use Rattle.numbers.specs.Column.{at}
use Rattle.numbers.specs.Sum.{sum_to, bit}
use Rattle.numbers.proofs.Integers.{zarith, t-le}
use Rattle.numbers.proofs.Sums.{sum_to-cong, sum_to-mono, sum_to-none, sum_to-one}
use Rattle.terms.specs.Checks.{in_range}
use Rattle.terms.specs.declared.quantity.Margins.{Margins}
use Rattle.group.specs.Group.{margins_at}
use Rattle.group.specs.Inner.{faults_of, amounts_pass}

-- a test that passes counts no fault, and back
no-fault : (t : Bool) → bit (not t) ≡ 0 → t ≡ true
no-fault true e = refl
no-fault false e = absurd (no e)
  where
    no : ◌≡◌ {A = ℕ} 1 0 → ⊥
    no e = omega arith

none : (t : Bool) → t ≡ true → bit (not t) ≡ 0
none t e = ap (λ (x : Bool). bit (not x)) e

in-range : (z : ℤ) → Within 1000000 z → in_range z ≡ true
in-range z h = simp (t-le (neg_ℤ (pos 1000000)) z (omega zarith), t-le z (pos 1000000) (omega zarith))

pub faults-none : (n0 : ℤ) (m : Margins) → faults_of n0 m ≡ 0
    → (in_range n0 ≡ true) × ((in_range m.step_down ≡ true) × ((in_range m.step_up ≡ true) × (le_z m.step_down m.step_up ≡ true)))
unfolding faults_of
faults-none n0 m e = (
  no-fault (in_range n0) (omega arith),
  (
    no-fault (in_range m.step_down) (omega arith),
    (
      no-fault (in_range m.step_up) (omega arith),
      no-fault (le_z m.step_down m.step_up) (omega arith),
    ),
  ),
)

pub none-faulty : (n0 : ℤ) (m : Margins) → Within 1000000 n0 → Within 1000000 m.step_down → Within 1000000 m.step_up
    → le_z m.step_down m.step_up ≡ true → faults_of n0 m ≡ 0
unfolding faults_of
none-faulty n0 m h d u o =
    omega (
      arith,
      none (in_range n0) (in-range n0 h),
      none (in_range m.step_down) (in-range m.step_down d),
      none (in_range m.step_up) (in-range m.step_up u),
      none (le_z m.step_down m.step_up) o,
    )

module _ (n0 step_down step_up : List ℤ) where
  -- the faults of the unit of an index
  abbrev pub faults_at : ℕ → ℕ
  faults_at i = faults_of (at n0 i) (margins_at step_down step_up i)

  pub amounts-all : amounts_pass n0 step_down step_up ≡ true → (i : ℕ) → i < length n0 → faults_of (at n0 i) (margins_at step_down step_up i) ≡ 0
  unfolding amounts_pass
  amounts-all e i l =
      omega (arith, eqb-true (sum_to (length n0) faults_at) 0 e, sum_to-one i faults_at, sum_to-mono (i + 1) (length n0) faults_at (omega arith))

  pub amounts-only : ((i : ℕ) → i < length n0 → faults_of (at n0 i) (margins_at step_down step_up i) ≡ 0) → amounts_pass n0 step_down step_up ≡ true
  unfolding amounts_pass
  amounts-only h =
      let e : sum_to (length n0) faults_at ≡ 0 = sum_to-cong (length n0) faults_at (λ i. 0) h ∙ sum_to-none (length n0) (λ i. 0) (λ i. refl) in
      ap (λ (s : ℕ). eqb s 0) e
