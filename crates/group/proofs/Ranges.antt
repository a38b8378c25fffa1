-- The steps keep the length of their column and stay within a quantity's range: each entry is one of the entries it came from, or nearer to zero.
use Prim.Native.Nat.{ℕ, ◌≤◌}
use mathlib.Core.Path.{◌≡◌}
use mathlib.Core.Bool.{Bool, true, false, ◌&&◌}
use mathlib.Core.List.{List}
use native.Mathlib.Omega.{arith}
use lib.IntN.{ℤ, pos}
use lib.ListN.{length, get_or}
use lib.Signed.{lt_z}
use Rattle.numbers.specs.Range.{Within}
use Rattle.numbers.specs.Choice.{pick}
use Rattle.numbers.specs.Column.{at, AllWithin}
use Rattle.numbers.proofs.Integers.{zarith}
use Rattle.numbers.proofs.Columns.{column-length, column-within}
use Rattle.terms.proofs.Sizes.{size-within}
use Rattle.terms.specs.declared.quantity.Standing.{Standing}
use Rattle.terms.specs.declared.quantity.Direction.{Direction}
use Rattle.quota.specs.Inner.{Sized}
use Rattle.group.specs.Steps.{direction_of, nearer_by, step1_of, step3_of}
use Rattle.terms.specs.declared.quantity.Margins.{Margins}
use Rattle.group.specs.Group.{margins_at, size_of, sizes_of, taken_off, step1_all, step2_all, step3_all}
use Rattle.group.specs.Inner.{Aligned, Classed, loss_at}
use Rattle.group.proofs.Sides.{sizes-length, size-le, size-at}
use Rattle.group.proofs.Bearing.{Bears}
use Rattle.group.proofs.Cuts.{nearer, loss-within}

-- one of three, by two tests
one_of : {b : ℕ} (s t : Bool) {x y z : ℤ} → Within b x → Within b y → Within b z → Within b (pick s x (pick t y z))
one_of true t p q r = p
one_of false true p q r = q
one_of false false p q r = r

pub step1-within : (b : ℕ) (n : ℤ) (m : Margins) → Within b n → Within b m.step_down → Within b m.step_up → Within b (step1_of n m)
step1-within b n m p q r = one_of (lt_z (pos 0) n && lt_z m.step_up n) (lt_z n (pos 0) && lt_z n m.step_down) r q p

pub step3-within : (b : ℕ) (n : ℤ) (m : Margins) → Within b n → Within b m.step_down → Within b m.step_up → Within b (step3_of n m)
step3-within b n m p q r = one_of (lt_z (pos 0) n && lt_z n m.step_down) (lt_z n (pos 0) && lt_z m.step_up n) q r p

module _ (n step_down step_up : List ℤ) where
  -- steps 1 and 3 of the unit of an index
  abbrev pub first_at : ℕ → ℤ
  first_at i = step1_of (at n i) (margins_at step_down step_up i)

  abbrev pub third_at : ℕ → ℤ
  third_at i = step3_of (at n i) (margins_at step_down step_up i)

  pub step1-length : length (step1_all n step_down step_up) ≡ length n
  unfolding step1_all
  step1-length = column-length first_at (length n)

  pub step3-length : length (step3_all n step_down step_up) ≡ length n
  unfolding step3_all
  step3-length = column-length third_at (length n)

  module _ (small : AllWithin 1000000 n) (down-small : AllWithin 1000000 step_down) (up_small : AllWithin 1000000 step_up) where
    pub step1-small : AllWithin 1000000 (step1_all n step_down step_up)
    unfolding step1_all
    step1-small = column-within 1000000 first_at (length n) (λ i. step1-within 1000000 (at n i) (margins_at step_down step_up i) (small i) (down-small i) (up_small i))

    pub step3-small : AllWithin 1000000 (step3_all n step_down step_up)
    unfolding step3_all
    step3-small = column-within 1000000 third_at (length n) (λ i. step3-within 1000000 (at n i) (margins_at step_down step_up i) (small i) (down-small i) (up_small i))

module _ {n step_down step_up out : List ℤ} (h : Aligned n step_down step_up out) where
  pub third-small : (i : ℕ) → Within 1000000 (third_at n step_down step_up i)
  third-small i = step3-within 1000000 (at n i) (margins_at step_down step_up i) (h.small i) (h.down-small i) (h.up_small i)

module _ {n1 : List ℤ} {class : List ℕ} (h : Classed n1 class) where
  pub size_small : (d : Direction) (k : Standing) (i : ℕ) → size_of d k (get_or class i 0) (at n1 i) ≤ 1000000
  size_small d k i = omega (arith, size-le d k (get_or class i 0) (at n1 i), size-within d (at n1 i) (h.small i))

  pub sizes-sized : (d : Direction) (k : Standing) → Sized (sizes_of d k n1 class)
  sizes-sized d k =
      record {
        few = omega (arith, sizes-length d k n1 class, h.few);
        small = λ i. omega (arith, size-at d k n1 class i, size_small d k i);
      }

module _ (e : ℤ) (n1 : List ℤ) (class : List ℕ) where
  pub step2-length : length (step2_all e n1 class) ≡ length n1
  unfolding step2_all taken_off
  step2-length = column-length (λ i. nearer_by (direction_of e) (at n1 i) (loss_at e n1 class i)) (length n1)

  pub step2-small : Classed n1 class → Bears e n1 class → AllWithin 1000000 (step2_all e n1 class)
  unfolding step2_all taken_off
  step2-small h bears =
      column-within 1000000 (λ i. nearer_by (direction_of e) (at n1 i) (loss_at e n1 class i)) (length n1)
      (λ i. omega (zarith, nearer (direction_of e) (at n1 i) (loss_at e n1 class i) (loss-within e n1 class bears h i), h.small i))
