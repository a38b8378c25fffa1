-- "Quantities and signs", and the words of "The steps": classes, directions, the considered nomination.
use Rattle.std.specs.Prelude.{ℕ, Bool, not, ◌&&◌, ◌||◌, eqb, leb, ℤ, pos, neg_ℤ, nat_abs}
use Rattle.std.specs.Int.Signed.{lt_z}
use Rattle.numbers.specs.Choice.{pick}
use Rattle.terms.specs.declared.quantity.Standing.{Standing}
use Rattle.terms.specs.declared.quantity.Standing.TheVariants.{NotEnabled, Enabled}
use Rattle.terms.specs.declared.quantity.Direction.{Direction}
use Rattle.terms.specs.declared.quantity.Direction.TheVariants.{Injections, Withdrawals}

-- class 0 is not enabled for the Integrated Scheduling Process, class 1 is
abbrev pub standing : Standing → ℕ → Bool
standing NotEnabled class = eqb class 0
standing Enabled class = eqb class 1

-- a unit is of class 0 or 1
abbrev pub known_class : ℕ → Bool
known_class class = leb class 1

-- the size of a nomination in a direction: an injection is above zero, a withdrawal below
abbrev pub size_in : Direction → ℤ → ℕ
size_in Injections n = pick (lt_z (pos 0) n) (nat_abs n) 0
size_in Withdrawals n = pick (lt_z n (pos 0)) (nat_abs n) 0

-- of a unit that is not nominated what was sold is taken where BRP and BSP coincide, and where it is not enabled even if they differ (000, footnote 3; 02, §4)
abbrev pub takes_sold : ℕ → ℕ → Bool
takes_sold class coincide = eqb coincide 1 || standing NotEnabled class

-- a nomination is implicit: the unit is not nominated, and what was sold is taken
abbrev pub implicit : ℕ → ℕ → ℕ → Bool
implicit class nominated coincide = not (eqb nominated 1) && takes_sold class coincide

-- the considered nomination n0: N where nominated, otherwise -PC where what was sold is taken, else 0
abbrev pub considered_of : ℕ → ℕ → ℕ → ℤ → ℤ → ℤ
considered_of class nominated coincide n pc = pick (eqb nominated 1) n (pick (takes_sold class coincide) (neg_ℤ pc) (pos 0))
