use Rattle.std.proofs.Common.{◌≡◌, ℕ}
use Rattle.terms.specs.Refusals.{first_fault}
use Rattle.terms.proofs.FirstRefused.{Left}
use Rattle.writers.specs.Columns.{Columns, count, floor_at, row_checks}
use Rattle.writers.specs.Units.{listed}
use Rattle.writers.specs.Writing.{units_end}
use Rattle.writers.proofs.units.Units.check.Given as goal

-- the units below i have passed, and floor and end are those of unit i
pub record Going (k : Columns) (floor end i : ℕ) : Type 0 where
  pub least : floor ≡ floor_at k i
  pub on : end ≡ units_end k i
  pub so : Left (first_fault (row_checks k)) (first_fault (row_checks k) 0 (count k)) (count k) i i

abbrev pub invariant-loop-i : goal.invariant-loop-i
invariant-loop-i l = Going (listed l.self) l.floor l.end l.i
