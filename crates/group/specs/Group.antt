-- "The steps", for a whole group given as columns.
use Rattle.std.specs.Prelude.{ℕ, ◌+◌, ◌-◌, min, List, ℤ, nat_abs, length, get_or}
use Rattle.numbers.specs.Choice.{pick}
use Rattle.numbers.specs.Column.{column, at}
use Rattle.numbers.specs.Sum.{sum, sum_z}
use Rattle.terms.specs.Quantities.{standing, size_in}
use Rattle.terms.specs.declared.quantity.Margins.{Margins}
use Rattle.terms.specs.declared.quantity.Standing.{Standing}
use Rattle.terms.specs.declared.quantity.Standing.TheVariants.{NotEnabled, Enabled}
use Rattle.terms.specs.declared.quantity.Direction.{Direction}
use Rattle.quota.specs.Quota.{cuts_of}
use Rattle.group.specs.Steps as rule
use Rattle.group.specs.declared.band.Band.{Band}

pub record Group : Type 0 where
  pub n0 : List ℤ
  pub pc : List ℤ
  pub step_down : List ℤ
  pub step_up : List ℤ
  pub class : List ℕ

abbrev pub units : Group → ℕ
units g = length g.n0

-- the margins of the unit of an index
abbrev pub margins_at : List ℤ → List ℤ → ℕ → Margins
margins_at step_down step_up i = record { step_down = at step_down i; step_up = at step_up i }

-- step 1 of every unit
unfoldable pub step1_all : List ℤ → List ℤ → List ℤ → List ℤ
step1_all n0 step_down step_up = column (length n0) (λ i. rule.step1_of (at n0 i) (margins_at step_down step_up i))

-- the sizes of the units that stand so in a direction, 0 for every other unit
unfoldable pub size_of : Direction → Standing → ℕ → ℤ → ℕ
size_of d k class n1 = pick (standing k class) (size_in d n1) 0

unfoldable pub sizes_of : Direction → Standing → List ℤ → List ℕ → List ℕ
sizes_of d k n1 class = column (length n1) (λ i. size_of d k (get_or class i 0) (at n1 i))

-- of an excess e, what is cut of the units that stand so: those not enabled first, down to nothing if needed; those enabled bear the rest
unfoldable pub share_of : ℤ → Standing → List ℤ → List ℕ → ℕ
share_of e NotEnabled n1 class = min (nat_abs e) (sum (sizes_of (rule.direction_of e) NotEnabled n1 class))
share_of e Enabled n1 class = nat_abs e - min (nat_abs e) (sum (sizes_of (rule.direction_of e) NotEnabled n1 class))

-- what each of them loses, pro quota
unfoldable pub cuts_for : ℤ → Standing → List ℤ → List ℕ → List ℕ
cuts_for e k n1 class = cuts_of (sizes_of (rule.direction_of e) k n1 class) (share_of e k n1 class)

-- a column brought nearer to zero by two columns of cuts
unfoldable pub taken_off : Direction → List ℤ → List ℕ → List ℕ → List ℤ
taken_off d n1 first second = column (length n1) (λ i. rule.nearer_by d (at n1 i) (get_or first i 0 + get_or second i 0))

-- step 2 of every unit
unfoldable pub step2_all : ℤ → List ℤ → List ℕ → List ℤ
step2_all e n1 class = taken_off (rule.direction_of e) n1 (cuts_for e NotEnabled n1 class) (cuts_for e Enabled n1 class)

-- step 3 of every unit
unfoldable pub step3_all : List ℤ → List ℤ → List ℤ → List ℤ
step3_all n2 step_down step_up = column (length n2) (λ i. rule.step3_of (at n2 i) (margins_at step_down step_up i))

-- the reason of every unit, of which a column tells whether its nomination is implicit
unfoldable pub reasons_all : List ℕ → List ℤ → List ℤ → List ℤ → List ℤ → List ℤ → List ℤ → List ℕ
reasons_all taken n0 n1 n2 n3 step_down step_up =
    column (length n0) (λ i. rule.reason_of (get_or taken i 0) (at n0 i) (at n1 i) (at n2 i) (at n3 i) (margins_at step_down step_up i))

-- a group's P and band, and its n1, n2 and n3
abbrev pub position : Group → ℤ
position g = sum_z g.pc

abbrev pub band : Group → Band
band g = rule.band_of (position g)

abbrev pub n1 : Group → List ℤ
n1 g = step1_all g.n0 g.step_down g.step_up

abbrev pub excess : Group → ℤ
excess g = rule.excess_of (band g) (sum_z (n1 g))

abbrev pub n2 : Group → List ℤ
n2 g = step2_all (excess g) (n1 g) g.class

abbrev pub n3 : Group → List ℤ
n3 g = step3_all (n2 g) g.step_down g.step_up

abbrev pub reasons : List ℕ → Group → List ℕ
reasons taken g = reasons_all taken g.n0 (n1 g) (n2 g) (n3 g) g.step_down g.step_up
