-- Of every group that is not refused (`Accepting.accepted`): the law of `Cuts` read off its n1 and n2.
use Prim.Native.Nat.{ℕ, ◌*◌, ◌/◌, ◌≤◌}
use mathlib.Core.Path.{◌≡◌}
use native.Mathlib.Omega.{arith}
use native.Mathlib.Decide.{dec_lt}
use Rattle.terms.specs.declared.quantity.Standing.{Standing}
use Rattle.group.specs.Group.{Group, excess, n1}
use Rattle.group.specs.Accepted.{Accepted}
use Rattle.group.specs.Demand3.{size, cut, total, class_cut}
use Rattle.group.specs.Inner.{loss_at}
use Rattle.group.specs.Ties.{LosesOdd, LargerFirst}
use Rattle.group.proofs.Accepting.{bearable-of}
use Rattle.group.proofs.Cuts as law

module _ (g : Group) (accepted : Accepted g) where
  -- what n2 is short of n1 is what the unit loses
  lost : (i : ℕ) → cut g i ≡ loss_at (excess g) (n1 g) g.class i
  lost i = (law.step2-nearer (excess g) (n1 g) g.class (bearable-of g accepted).borne (bearable-of g accepted).classed i).lost

  not-odd : (k : Standing) (j : ℕ) → (LosesOdd g k j → ⊥) → cut g j ≤ class_cut g k * size g j / total g k
  not-odd k j h = go (dec_lt (class_cut g k * size g j / total g k) (cut g j))
    where
      go : Dec (LosesOdd g k j) → cut g j ≤ class_cut g k * size g j / total g k
      go (yes l) = absurd (h l)
      go (no l) = omega arith

  pub group-larger-first : LargerFirst g
  group-larger-first k i j hi hj odd even =
      law.larger-first (excess g) (n1 g) g.class (bearable-of g accepted).borne (bearable-of g accepted).classed k i j hi hj
      (omega (arith, lost i)) (omega (arith, lost j, not-odd k j even))
