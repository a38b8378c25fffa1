-- "Ways in": a block's units as twelve columns, one for each field of the unit record, kind and ends last.
use Rattle.std.specs.Prelude.{ℕ, zero, suc, ◌+◌, Bool, true, ◌&&◌, List, [], ◌∷◌, eqb, ℤ, pos, length, get_or, Result}
use Rattle.numbers.specs.Column.{column}
use Rattle.records.specs.declared.unit.UnitRecord.{UnitRecord}
use Rattle.records.specs.Layouts.{unit_with, with_ends}
use Rattle.records.specs.Reading.{unit_in, value_faults}
use Rattle.terms.specs.declared.refusal.Fault.{Fault}

pub record Columns : Type 0 where
  pub number : List ℕ
  pub class : List ℕ
  pub coincide : List ℕ
  pub nominated : List ℕ
  pub n : List ℤ
  pub pc : List ℤ
  pub step_down : List ℤ
  pub step-up : List ℤ
  pub made : List ℕ
  pub kind : List ℕ
  pub lower : List ℤ
  pub upper : List ℤ

abbrev pub columns : List ℕ → List ℕ → List ℕ → List ℕ → List ℤ → List ℤ → List ℤ → List ℤ → List ℕ → List ℕ → List ℤ → List ℤ → Columns
columns number class coincide nominated n pc step_down step-up made kind lower upper =
    record {
      number = number;
      class = class;
      coincide = coincide;
      nominated = nominated;
      n = n;
      pc = pc;
      step_down = step_down;
      step-up = step-up;
      made = made;
      kind = kind;
      lower = lower;
      upper = upper;
    }

-- the unit of an index
unfoldable pub row_of : Columns → ℕ → UnitRecord
row_of c i =
    with_ends
    (unit_with
    (get_or c.number i 0)
    (get_or c.class i 0)
    (get_or c.coincide i 0)
    (get_or c.nominated i 0)
    (get_or c.n i (pos 0))
    (get_or c.pc i (pos 0))
    (get_or c.step_down i (pos 0))
    (get_or c.step-up i (pos 0))
    (get_or c.made i 0))
    (get_or c.kind i 0)
    (get_or c.lower i (pos 0))
    (get_or c.upper i (pos 0))

-- the values of so many units of a block, by the layout
abbrev pub columns_in : List ℕ → ℕ → Columns
columns_in s units =
    columns
    (column units λ i. (unit_in s i).number)
    (column units λ i. (unit_in s i).class)
    (column units λ i. (unit_in s i).coincide)
    (column units λ i. (unit_in s i).nominated)
    (column units λ i. (unit_in s i).n.0)
    (column units λ i. (unit_in s i).pc.0)
    (column units λ i. (unit_in s i).step_down)
    (column units λ i. (unit_in s i).step_up)
    (column units λ i. (unit_in s i).made)
    (column units λ i. (unit_in s i).kind)
    (column units λ i. (unit_in s i).lower)
    (column units λ i. (unit_in s i).upper)

-- how many units there are
abbrev pub count : Columns → ℕ
count c = length c.number

-- whether so many lengths are all the same
unfoldable pub same : ℕ → List ℕ → Bool
same n [] = true
same n (m ∷ ms) = eqb m n && same n ms

-- the lengths of the other columns
abbrev pub others : Columns → List ℕ
others c =
    length c.class
    ∷ length c.coincide
    ∷ length c.nominated
    ∷ length c.n
    ∷ length c.pc
    ∷ length c.step_down
    ∷ length c.step-up
    ∷ length c.made
    ∷ length c.kind
    ∷ length c.lower
    ∷ length c.upper
    ∷ []

-- columns of equal length
unfoldable pub even : Columns → Bool
even c = same (count c) (others c)

-- the least number that a unit may have: any for the first, and then one above the number before
unfoldable pub floor_at : Columns → ℕ → ℕ
floor_at c zero = 0
floor_at c (suc i) = (row_of c i).number + 1

-- the first fault of the unit of an index
abbrev pub row_checks : Columns → ℕ → Result Unit Fault
row_checks c i = value_faults (row_of c i) (floor_at c i)
