-- What inner functions ask of each other: no promise rests on it.
use Rattle.std.specs.Prelude.{ℕ, ◌+◌, ◌-◌, ◌≤◌, ◌≡◌, Bool, true, not, ◌&&◌, List, eqb, leb, ℤ, nat_abs, length, get_or}
use Rattle.std.specs.Int.Signed.{le_z}
use Rattle.numbers.specs.Choice.{pick}
use Rattle.numbers.specs.Range.{Within}
use Rattle.numbers.specs.Column.{column, at, AllWithin}
use Rattle.numbers.specs.Sum.{sum, sum_z, sum_to, bit}
use Rattle.terms.specs.Quantities.{standing, known_class, size_in}
use Rattle.terms.specs.Checks.{most_units, in_range}
use Rattle.terms.specs.declared.quantity.Margins.{Margins}
use Rattle.terms.specs.declared.quantity.Direction.{Direction}
use Rattle.terms.specs.declared.quantity.Standing.{Standing}
use Rattle.terms.specs.declared.quantity.Standing.TheVariants.{NotEnabled, Enabled}
use Rattle.group.specs.Steps.{nearer_by, direction_of, excess_of, band_of}
use Rattle.group.specs.Group.{margins_at, sizes_of, cuts_for, step1_all, step2_all, step3_all}
use Rattle.group.specs.Columns.{sums_by}
use Rattle.group.specs.declared.judge.Cut.{Cut}
use Rattle.group.specs.declared.judge.Sums.{Sums}

-- a step over columns of one length, of at most 64 quantities
pub record Aligned (n step_down step_up out : List ℤ) : Type 0 where
  pub few : length n ≤ 64
  pub down : length step_down ≡ length n
  pub up : length step_up ≡ length n
  pub places : length out ≡ length n
  pub small : AllWithin 1000000 n
  pub down-small : AllWithin 1000000 step_down
  pub up_small : AllWithin 1000000 step_up

-- a column of at most 64 quantities with a class each
pub record Classed (n1 : List ℤ) (class : List ℕ) : Type 0 where
  pub few : length n1 ≤ 64
  pub small : AllWithin 1000000 n1
  pub classes : length class ≡ length n1
  pub known : (i : ℕ) → known_class (get_or class i 0) ≡ true

-- of c kWh over a direction: who bears a part, the enabled where those not enabled lose all; the sizes of those that do, their total, and what they bear
pub record SharedOut (d : Direction) (c : ℕ) (n1 : List ℤ) (class : List ℕ) (bearers : Standing) (t part : ℕ) (sizes : List ℕ) : Type 0 where
  pub whole : bearers ≡ pick (leb (sum (sizes_of d NotEnabled n1 class)) c) Enabled NotEnabled
  pub borne : sizes ≡ sizes_of d bearers n1 class
  pub total : t ≡ sum sizes
  pub rest : part ≡ c - pick (leb (sum (sizes_of d NotEnabled n1 class)) c) (sum (sizes_of d NotEnabled n1 class)) 0

-- what a unit loses: its cut, or all of it where the units not enabled lose all and it is one of them
unfoldable pub loss_of : Direction → Bool → ℕ → ℤ → ℕ → ℕ
loss_of d all class n1 cut = pick (all && standing NotEnabled class) (size_in d n1) cut

-- what unit i loses for an excess e, of the one standing or the other; and what every unit does
abbrev pub loss_at : ℤ → List ℤ → List ℕ → ℕ → ℕ
loss_at e n1 class i = get_or (cuts_for e NotEnabled n1 class) i 0 + get_or (cuts_for e Enabled n1 class) i 0

unfoldable pub losses_of : ℤ → List ℤ → List ℕ → List ℕ
losses_of e n1 class = column (length n1) (loss_at e n1 class)

-- what is left of every unit
unfoldable pub left_by : Direction → List ℤ → List ℕ → List ℤ
left_by d n1 losses = column (length n1) λ i. nearer_by d (at n1 i) (get_or losses i 0)

-- a column of so many zeros: nobody loses anything, and no nomination is implicit
abbrev pub zeros : ℕ → List ℕ
zeros n = column n λ _. 0

-- an excess that the units of its direction can bear
pub record Bearable (e : ℤ) (n1 : List ℤ) (class : List ℕ) : Type 0 where
  pub classed : Classed n1 class
  pub borne : nat_abs e ≤ sum (sizes_of (direction_of e) NotEnabled n1 class) + sum (sizes_of (direction_of e) Enabled n1 class)

-- a loss for each quantity
pub record Lost (n1 : List ℤ) (losses : List ℕ) : Type 0 where
  pub small : AllWithin 1000000 n1
  pub losses-places : length losses ≡ length n1
  pub losses-small : (i : ℕ) → get_or losses i 0 ≤ 1000000

-- a group of position p that was not refused
pub record Judged (p : ℤ) (n0 step_down step_up : List ℤ) (class : List ℕ) : Type 0 where
  pub few : length n0 ≤ 64
  pub downs : length step_down ≡ length n0
  pub ups : length step_up ≡ length n0
  pub classes : length class ≡ length n0
  pub known : (i : ℕ) → known_class (get_or class i 0) ≡ true
  pub position-small : Within 64000000 p
  pub n0-small : AllWithin 1000000 n0
  pub down-small : AllWithin 1000000 step_down
  pub up_small : AllWithin 1000000 step_up

-- what step 1 leaves of it, and what each unit loses in step 2
pub record CutOff (p : ℤ) (n0 step_down step_up : List ℤ) (class : List ℕ) (cut : Cut) (x1 : List ℤ) (losses : List ℕ) : Type 0 where
  pub clamped : x1 ≡ step1_all n0 step_down step_up
  pub lost : losses ≡ losses_of (excess_of (band_of p) (sum_z x1)) x1 class
  pub band : cut.band ≡ band_of p
  pub sum : cut.s1 ≡ sum_z x1
  pub excess : cut.e ≡ excess_of (band_of p) (sum_z x1)

-- what an accepted group leaves, by "The steps" one after another
pub record Written (p : ℤ) (n0 step_down step_up : List ℤ) (class : List ℕ) (sums : Sums) (x1 x2 x3 : List ℤ) : Type 0 where
  pub clamped : x1 ≡ step1_all n0 step_down step_up
  pub cut : x2 ≡ step2_all (excess_of (band_of p) (sum_z x1)) x1 class
  pub stretched : x3 ≡ step3_all x2 step_down step_up
  pub replied : sums ≡ sums_by p (band_of p) (sum_z x1) (excess_of (band_of p) (sum_z x1)) (sum_z x2) (sum_z x3)

-- columns of one length with n0 to n2 and the margins of each unit, and one that tells by 0 or 1 which nominations are implicit
pub record Explained (taken : List ℕ) (n0 x1 x2 step_down step_up : List ℤ) : Type 0 where
  pub firsts : length x1 ≡ length n0
  pub seconds : length x2 ≡ length n0
  pub downs : length step_down ≡ length n0
  pub ups : length step_up ≡ length n0
  pub places : length taken ≡ length n0
  pub told : (i : ℕ) → get_or taken i 0 ≤ 1

-- columns of one length, of at most 64 nominations with their margins, none of which was checked yet
pub record Beside (n0 step_down step_up : List ℤ) : Type 0 where
  pub few : length n0 ≤ most_units
  pub downs : length step_down ≡ length n0
  pub ups : length step_up ≡ length n0

-- how many of the checks of a unit's nomination and margins fail; and whether none does of any unit
unfoldable pub faults_of : ℤ → Margins → ℕ
faults_of n0 m =
    bit (not (in_range n0))
    + bit (not (in_range m.step_down))
    + bit (not (in_range m.step_up))
    + bit (not (le_z m.step_down m.step_up))

unfoldable pub amounts_pass : List ℤ → List ℤ → List ℤ → Bool
amounts_pass n0 step_down step_up = eqb (sum_to (length n0) λ i. faults_of (at n0 i) (margins_at step_down step_up i)) 0
