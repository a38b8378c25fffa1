-- The column of what every unit loses: a quantity for each unit, and taken off n1 it leaves step 2.
use Prim.Native.Nat.{ℕ, ◌≤◌, ◌<◌}
use mathlib.Core.Path.{◌≡◌, ap}
use mathlib.Core.List.{List}
use native.Mathlib.Omega.{arith}
use native.Mathlib.Decide.{dec_lt}
use lib.IntN.{ℤ}
use lib.ListN.{length, get_or}
use Rattle.numbers.specs.Column.{at}
use Rattle.numbers.proofs.Columns.{column-length, column-at, column-past, column-ext}
use Rattle.terms.proofs.Sizes.{size-within}
use Rattle.group.specs.Steps.{direction_of, nearer_by}
use Rattle.group.specs.Group.{taken_off, step2_all}
use Rattle.group.specs.Inner.{loss_at, losses_of, left_by, Bearable, Lost}
use Rattle.group.proofs.Cuts.{loss-within}

module _ (e : ℤ) (n1 : List ℤ) (class : List ℕ) where
  pub losses-length : length (losses_of e n1 class) ≡ length n1
  unfolding losses_of
  losses-length = column-length (loss_at e n1 class) (length n1)

  loss-at : (i : ℕ) → i < length n1 → get_or (losses_of e n1 class) i 0 ≡ loss_at e n1 class i
  unfolding losses_of
  loss-at i l = column-at (loss_at e n1 class) (length n1) i 0 l

  -- no unit loses more than a quantity, past the end too
  pub losses-small : Bearable e n1 class → (i : ℕ) → get_or (losses_of e n1 class) i 0 ≤ 1000000
  unfolding losses_of
  losses-small h i = go (dec_lt i (length n1))
    where
      go : Dec (i < length n1) → get_or (losses_of e n1 class) i 0 ≤ 1000000
      go (yes l) =
          omega (arith, loss-at i l, loss-within e n1 class h.borne h.classed i, size-within (direction_of e) (at n1 i) (h.classed.small i))
      go (no l) = omega (arith, column-past (loss_at e n1 class) (length n1) i 0 (omega arith))

  pub left_is : left_by (direction_of e) n1 (losses_of e n1 class) ≡ step2_all e n1 class
  unfolding left_by step2_all taken_off
  left_is = column-ext _ _ (length n1) (λ i l. ap (nearer_by (direction_of e) (at n1 i)) (loss-at i l))

  pub lost : Bearable e n1 class → Lost n1 (losses_of e n1 class)
  lost h = record { small = h.classed.small; losses-places = losses-length; losses-small = losses-small h }
