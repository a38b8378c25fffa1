-- What a group that is not refused has passed: one length, at most 64 units, and the checks of each unit.
use Rattle.std.specs.Prelude.{ℕ, ◌≤◌, ◌≡◌, true, ℤ, length, get_or}
use Rattle.std.specs.Int.Signed.{le_z}
use Rattle.numbers.specs.Range.{Within}
use Rattle.numbers.specs.Column.{at}
use Rattle.terms.specs.Quantities.{known_class}
use Rattle.terms.specs.Checks.{most_units}
use Rattle.terms.specs.declared.quantity.Margins.{Margins}
use Rattle.group.specs.Group.{Group, units, margins_at}

-- the five columns of a group are of one length
pub record Level (g : Group) : Type 0 where
  pub positions : length g.pc ≡ units g
  pub downs : length g.step_down ≡ units g
  pub ups : length g.step_up ≡ units g
  pub classes : length g.class ≡ units g

-- a unit's class is known, its quantities lie in their range, and its margins do not cross
pub record Sound (class : ℕ) (n0 pc : ℤ) (m : Margins) : Type 0 where
  pub known : known_class class ≡ true
  pub n0-small : Within 1000000 n0
  pub pc-small : Within 1000000 pc
  pub down-small : Within 1000000 m.step_down
  pub up_small : Within 1000000 m.step_up
  pub ordered : le_z m.step_down m.step_up ≡ true

-- a group that is not refused
pub record Accepted (g : Group) : Type 0 where
  pub few : units g ≤ most_units
  pub level : Level g
  pub sound : (i : ℕ) → Sound (get_or g.class i 0) (at g.n0 i) (at g.pc i) (margins_at g.step_down g.step_up i)
