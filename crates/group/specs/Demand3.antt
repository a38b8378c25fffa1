-- Demand 3: what the cut of step 2 owes the units of a group, over its n1 and n2.
use Rattle.std.specs.Prelude.{ℕ, ◌+◌, ◌*◌, ◌≤◌, ◌<◌, ◌≡◌, true, false, ◌⊎◌, pos, nat_abs, ◌-ℤ◌, get_or}
use Rattle.std.specs.Int.Signed.{lt_z, le_z}
use Rattle.numbers.specs.Choice.{pick}
use Rattle.numbers.specs.Column.{at}
use Rattle.numbers.specs.Sum.{sum, sum_z, sum_to}
use Rattle.terms.specs.Quantities.{standing, size_in}
use Rattle.terms.specs.declared.quantity.Standing.{Standing}
use Rattle.terms.specs.declared.quantity.Standing.TheVariants.{NotEnabled, Enabled}
use Rattle.terms.specs.declared.quantity.Direction.{Direction}
use Rattle.group.specs.Steps.{direction_of}
use Rattle.group.specs.Group.{Group, units, band, excess, sizes_of, share_of, n1, n2, n3}

-- the direction cut
abbrev pub direction : Group → Direction
direction g = direction_of (excess g)

-- a unit's size n in that direction after step 1, what step 2 takes of it, and its size after step 2
abbrev pub size : Group → ℕ → ℕ
size g i = size_in (direction g) (at (n1 g) i)

abbrev pub cut : Group → ℕ → ℕ
cut g i = nat_abs (at (n1 g) i -ℤ at (n2 g) i)

abbrev pub left : Group → ℕ → ℕ
left g i = size_in (direction g) (at (n2 g) i)

-- step 2 changes a unit
abbrev pub IsCut : Group → ℕ → Type 0
IsCut g i = at (n2 g) i ≡ at (n1 g) i → ⊥

-- a unit is of class 0 (not enabled) or 1 (enabled)
abbrev pub Of : Group → Standing → ℕ → Type 0
Of g k i = standing k (get_or g.class i 0) ≡ true

-- the total T of a class in the direction cut, and the class cut C
abbrev pub total : Group → Standing → ℕ
total g k = sum (sizes_of (direction g) k (n1 g) g.class)

abbrev pub class_cut : Group → Standing → ℕ
class_cut g k = share_of (excess g) k (n1 g) g.class

pub record Demand3 (g : Group) : Type 0 where
  -- 1. the total cut equals the amount by which S1 lies beyond its band,
  pub total-cut : sum_to (units g) (cut g) ≡ nat_abs (excess g)
  -- so S2 is S1 less that: the band's upper end where S1 is above the band, its lower end where S1 is below, and S1 itself inside
  pub sum_moved : sum_z (n2 g) ≡ sum_z (n1 g) -ℤ excess g
  pub down-to-band : lt_z (band g).high (sum_z (n1 g)) ≡ true → sum_z (n2 g) ≡ (band g).high
  pub up-to-band : lt_z (sum_z (n1 g)) (band g).low ≡ true → sum_z (n2 g) ≡ (band g).low
  pub stays-in-band : lt_z (band g).high (sum_z (n1 g)) ≡ false → lt_z (sum_z (n1 g)) (band g).low ≡ false → sum_z (n2 g) ≡ sum_z (n1 g)
  -- 2. only one direction is cut: injections where S1 is above its band, withdrawals where it is below, and nothing where it is inside
  pub injections-only : lt_z (pos 0) (excess g) ≡ true → (i : ℕ) → IsCut g i → lt_z (pos 0) (at (n1 g) i) ≡ true
  pub withdrawals-only : lt_z (excess g) (pos 0) ≡ true → (i : ℕ) → IsCut g i → lt_z (at (n1 g) i) (pos 0) ≡ true
  pub nothing-cut : excess g ≡ pos 0 → (i : ℕ) → at (n2 g) i ≡ at (n1 g) i
  -- 3. no enabled unit loses a kWh while a not-enabled one of that direction has one left
  pub enabled-last : (i j : ℕ) → Of g Enabled i → IsCut g i → Of g NotEnabled j → 0 < size g j → at (n2 g) j ≡ pos 0
  -- 4. within its class, whose cut is what its units lose together, a unit's cut is less than one kWh away from its exact share,
  pub class-cut : (k : Standing) → sum_to (units g) (λ i. pick (standing k (get_or g.class i 0)) (cut g i) 0) ≡ class_cut g k
  pub near : (k : Standing) (i : ℕ) → Of g k i → 0 < size g i
      → (cut g i * total g k < class_cut g k * size g i + total g k) × (class_cut g k * size g i < cut g i * total g k + total g k)
  -- and no more than it has
  pub cut-within : (i : ℕ) → cut g i ≤ size g i
  -- 5. of two units of one class and direction the larger after step 1 is cut no less, and is left no smaller, however the others nominate
  pub larger : (k : Standing) (i j : ℕ) → Of g k i → Of g k j → size g j < size g i → (cut g j ≤ cut g i) × (left g j ≤ left g i)
  -- 6. n2 lies between 0 and n1, and every unit ends at zero or within its margins
  pub between : (i : ℕ)
      → (le_z (pos 0) (at (n1 g) i) ≡ true → (le_z (pos 0) (at (n2 g) i) ≡ true) × (le_z (at (n2 g) i) (at (n1 g) i) ≡ true))
      × (le_z (at (n1 g) i) (pos 0) ≡ true → (le_z (at (n1 g) i) (at (n2 g) i) ≡ true) × (le_z (at (n2 g) i) (pos 0) ≡ true))
  pub ends-inside : (i : ℕ) → (at (n3 g) i ≡ pos 0) ⊎ ((le_z (at g.step_down i) (at (n3 g) i) ≡ true) × (le_z (at (n3 g) i) (at g.step_up i) ≡ true))
