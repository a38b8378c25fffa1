-- A block that passed, as columns: entry i of each is of the unit of index i.
use Rattle.std.specs.Prelude.{ℕ, ◌≡◌, Bool, true, List, ℤ}
use Rattle.std.specs.Int.Signed.{le_z}
use Rattle.numbers.specs.Column.{column}
use Rattle.numbers.specs.Sum.{bit}
use Rattle.terms.specs.Quantities.{implicit, considered_of}
use Rattle.records.specs.declared.unit.UnitRecord.{UnitRecord}
use Rattle.records.specs.Layouts.{margins_of}
use Rattle.records.specs.Reading.{unit_in}

-- the considered nomination of a unit, and whether it is implicit
abbrev pub unit_n0 : UnitRecord → ℤ
unit_n0 u = considered_of u.class u.nominated u.coincide u.n.0 u.pc.0

abbrev pub unit_implicit : UnitRecord → Bool
unit_implicit u = implicit u.class u.nominated u.coincide

-- a quantity lies inside a unit's margins and inside its interval
pub record Inside (u : UnitRecord) (z : ℤ) : Type 0 where
  pub down : le_z u.step_down z ≡ true
  pub up : le_z z u.step_up ≡ true
  pub lower : le_z u.lower z ≡ true
  pub upper : le_z z u.upper ≡ true

-- the columns of the first so many units of a block
abbrev pub numbers_in : List ℕ → ℕ → List ℕ
numbers_in s count = column count λ i. (unit_in s i).number

abbrev pub classes_in : List ℕ → ℕ → List ℕ
classes_in s count = column count λ i. (unit_in s i).class

-- 1 where the nomination is implicit, and else 0
abbrev pub taken_in : List ℕ → ℕ → List ℕ
taken_in s count = column count λ i. bit (unit_implicit (unit_in s i))

abbrev pub n0_in : List ℕ → ℕ → List ℤ
n0_in s count = column count λ i. unit_n0 (unit_in s i)

abbrev pub pc_in : List ℕ → ℕ → List ℤ
pc_in s count = column count λ i. (unit_in s i).pc.0

abbrev pub step_down_in : List ℕ → ℕ → List ℤ
step_down_in s count = column count λ i. (margins_of (unit_in s i)).step_down

abbrev pub step_up_in : List ℕ → ℕ → List ℤ
step_up_in s count = column count λ i. (margins_of (unit_in s i)).step_up
