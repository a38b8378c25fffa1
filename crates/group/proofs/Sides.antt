-- A nomination's size in a direction is its part above zero or its part below, and a unit has one of the two standings: by cases on direction and standing.
use Prim.Native.Nat.{ℕ, ◌+◌, ◌≤◌, ◌<◌}
use mathlib.Core.Path.{◌≡◌, refl, ap}
use mathlib.Core.Bool.{Bool, true, false, not}
use mathlib.Core.List.{List}
use native.Mathlib.Omega.{arith}
use native.Mathlib.Decide.{dec_lt}
use lib.IntN.{ℤ, pos, nat_abs}
use lib.ListN.{length, get_or, get_or-eq_default}
use lib.Signed.{lt_z}
use Rattle.numbers.specs.Choice.{pick}
use Rattle.numbers.specs.Column.{column, at}
use Rattle.numbers.specs.Sum.{sum, sum_z, sum_to}
use Rattle.numbers.proofs.Integers.{zarith, pp, nn, abs-z, one_side}
use Rattle.numbers.proofs.Choices.{pick_ind, pick-le}
use Rattle.numbers.proofs.Columns.{column-length, column-at, column-past}
use Rattle.numbers.proofs.Sums.{sum_to-cong, sum_to-add, sum-column, sum-sides}
use Rattle.terms.specs.Quantities.{standing, known_class, size_in}
use Rattle.terms.specs.declared.quantity.Standing.{Standing}
use Rattle.terms.specs.declared.quantity.Standing.TheVariants.{NotEnabled, Enabled}
use Rattle.terms.specs.declared.quantity.Direction.{Direction}
use Rattle.terms.specs.declared.quantity.Direction.TheVariants.{Injections, Withdrawals}
use Rattle.terms.proofs.Classes.{one-standing}
use Rattle.group.specs.Group.{size_of, sizes_of}
use Rattle.group.specs.Inner.{Classed}

abbrev pub side : Direction → ℤ → ℕ
side Injections z = pp z
side Withdrawals z = nn z

pub size_in-side : (d : Direction) (z : ℤ) → size_in d z ≡ side d z
size_in-side Injections z =
    pick_ind (lt_z (pos 0) z) (nat_abs z) 0 (λ x. x ≡ pp z) (λ e. omega (zarith, abs-z z, one_side z)) (λ e. omega (zarith, one_side z))
size_in-side Withdrawals z =
    pick_ind (lt_z z (pos 0)) (nat_abs z) 0 (λ x. x ≡ nn z) (λ e. omega (zarith, abs-z z, one_side z)) (λ e. omega (zarith, one_side z))

pub no_size : (d : Direction) → size_in d (pos 0) ≡ 0
no_size Injections = refl
no_size Withdrawals = refl

pub size-le : (d : Direction) (k : Standing) (class : ℕ) (z : ℤ) → size_of d k class z ≤ size_in d z
unfolding size_of
size-le d k class z = pick-le (standing k class) (size_in d z)

pub sizes-length : (d : Direction) (k : Standing) (n1 : List ℤ) (class : List ℕ) → length (sizes_of d k n1 class) ≡ length n1
unfolding sizes_of
sizes-length d k n1 class = column-length (λ i. size_of d k (get_or class i 0) (at n1 i)) (length n1)

-- the size of each unit of a standing, past the end too
pub size-at : (d : Direction) (k : Standing) (n1 : List ℤ) (class : List ℕ) (i : ℕ) → get_or (sizes_of d k n1 class) i 0 ≡ size_of d k (get_or class i 0) (at n1 i)
unfolding sizes_of
size-at d k n1 class i = go (dec_lt i (length n1))
  where
    f : ℕ → ℕ
    f j = size_of d k (get_or class j 0) (at n1 j)

    go : Dec (i < length n1) → get_or (column (length n1) f) i 0 ≡ f i
    go (yes l) = column-at f (length n1) i 0 l
    go (no l) =
        omega (
          arith,
          column-past f (length n1) i 0 (omega arith),
          size-le d k (get_or class i 0) (at n1 i),
          ap (size_in d) (get_or-eq_default n1 (pos 0) {n = i} (omega arith)),
          no_size d,
        )

-- a unit that stands so counts with its size
pub size-of : (d : Direction) (k : Standing) (class : ℕ) (z : ℤ) → standing k class ≡ true → size_of d k class z ≡ size_in d z
unfolding size_of
size-of d k class z e = rw e

pub size-not : (d : Direction) (k : Standing) (class : ℕ) (z : ℤ) → standing k class ≡ false → size_of d k class z ≡ 0
unfolding size_of
size-not d k class z e = rw e

-- each unit has one of the two standings
pub both-standings : (d : Direction) (class : ℕ) (z : ℤ) → known_class class ≡ true → size_of d NotEnabled class z + size_of d Enabled class z ≡ size_in d z
unfolding size_of
both-standings d class z h = rw (one-standing class h) (go (standing NotEnabled class))
  where
    go : (t : Bool) → pick t (size_in d z) 0 + pick (not t) (size_in d z) 0 ≡ size_in d z
    go true = omega arith
    go false = omega arith

-- so their sizes add up to the direction's total
pub both-totals : (d : Direction) {n1 : List ℤ} {class : List ℕ} → Classed n1 class
    → sum (sizes_of d NotEnabled n1 class) + sum (sizes_of d Enabled n1 class) ≡ sum_to (length n1) (λ i. size_in d (at n1 i))
unfolding sizes_of
both-totals d {n1} {class} h =
    let f : ℕ → ℕ = λ i. size_of d NotEnabled (get_or class i 0) (at n1 i) in
    let g : ℕ → ℕ = λ i. size_of d Enabled (get_or class i 0) (at n1 i) in
    omega (
      arith,
      sum-column (length n1) f,
      sum-column (length n1) g,
      sum_to-add (length n1) f g,
      sum_to-cong (length n1) (λ i. f i + g i) (λ i. size_in d (at n1 i)) (λ i _. both-standings d (get_or class i 0) (at n1 i) (h.known i)),
    )

-- a sum's size in a direction is no more than its entries' sizes there
pub sum-size : (d : Direction) (l : List ℤ) → size_in d (sum_z l) ≤ sum_to (length l) (λ i. size_in d (at l i))
sum-size Injections l =
    omega (arith, size_in-side Injections (sum_z l), sum-sides l, sum_to-cong (length l) (λ i. size_in Injections (at l i)) (λ i. pp (at l i)) (λ i _. size_in-side Injections (at l i)))
sum-size Withdrawals l =
    omega (arith, size_in-side Withdrawals (sum_z l), sum-sides l, sum_to-cong (length l) (λ i. size_in Withdrawals (at l i)) (λ i. nn (at l i)) (λ i _. size_in-side Withdrawals (at l i)))
