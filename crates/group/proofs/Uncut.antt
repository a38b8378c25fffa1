-- Where there is no excess no unit loses anything.
use Prim.Native.Nat.{ℕ, ◌-◌, ◌<◌, min}
use mathlib.Core.Path.{◌≡◌, ap, ◌∙◌}
use mathlib.Core.List.{List}
use native.Mathlib.Omega.{arith}
use native.Mathlib.Decide.{dec_lt}
use lib.IntN.{ℤ, pos}
use lib.ListN.{length, get_or}
use Rattle.numbers.specs.Column.{column}
use Rattle.numbers.specs.Sum.{sum}
use Rattle.numbers.proofs.Columns.{column-at, column-past, column-ext}
use Rattle.terms.specs.declared.quantity.Standing.TheVariants.{NotEnabled, Enabled}
use Rattle.quota.specs.Quota.{cut_at, cuts_of}
use Rattle.quota.proofs.Fairness.{nothing}
use Rattle.group.specs.Steps.{direction_of}
use Rattle.group.specs.Group.{sizes_of, share_of, cuts_for}
use Rattle.group.specs.Inner.{loss_at, losses_of, zeros}

pub none-at : (sizes : List ℕ) (i : ℕ) → get_or (cuts_of sizes 0) i 0 ≡ 0
unfolding cuts_of
none-at sizes i = go (dec_lt i (length sizes))
  where
    go : Dec (i < length sizes) → get_or (column (length sizes) (cut_at sizes 0)) i 0 ≡ 0
    go (yes l) = column-at (cut_at sizes 0) (length sizes) i 0 l ∙ nothing sizes i
    go (no l) = column-past (cut_at sizes 0) (length sizes) i 0 (omega arith)

module _ (n1 : List ℤ) (class : List ℕ) where
  loss-none : (i : ℕ) → loss_at (pos 0) n1 class i ≡ 0
  unfolding cuts_for share_of
  loss-none i =
      let first = sizes_of (direction_of (pos 0)) NotEnabled n1 class in
      let second = sizes_of (direction_of (pos 0)) Enabled n1 class in
      let m : min 0 (sum first) ≡ 0 = omega arith in
      let k : 0 - min 0 (sum first) ≡ 0 = omega arith in
      let p : get_or (cuts_for (pos 0) NotEnabled n1 class) i 0 ≡ 0 = ap (λ x. get_or (cuts_of first x) i 0) m ∙ none-at first i in
      let q : get_or (cuts_for (pos 0) Enabled n1 class) i 0 ≡ 0 = ap (λ x. get_or (cuts_of second x) i 0) k ∙ none-at second i in
      omega arith

  -- so the column of losses is one of zeros
  pub losses-none : losses_of (pos 0) n1 class ≡ zeros (length n1)
  unfolding losses_of
  losses-none = column-ext (loss_at (pos 0) n1 class) (λ _. 0) (length n1) (λ i _. loss-none i)
