-- How long results are, and a block.
use Prim.Native.Nat.{ℕ, zero, suc, ◌+◌, ◌*◌, ◌≤◌}
use mathlib.Core.Path.{◌≡◌, refl, ◌∙◌}
use native.Mathlib.Omega.{arith}
use lib.ListN.{length, length-append}
use Rattle.numbers.specs.Bytes.{bytes16, bytes32}
use Rattle.records.specs.declared.group_result.GroupResult.{GroupResult}
use Rattle.records.specs.declared.unit_result.UnitResult.{UnitResult}
use Rattle.records.specs.declared.group.GroupRecord.{GroupRecord}
use Rattle.records.specs.Layouts.{behind, group_length, group_bytes, unit_bytes, longest_unit, group_result_length, group_result_bytes, unit_result_length, unit_result_bytes}
use Rattle.records.proofs.UnitHeads.{length_most}
use Rattle.writers.specs.Columns.{Columns, row_of, count}
use Rattle.writers.specs.Results.{Results, result_of, unit_results_bytes}
use Rattle.writers.specs.Runs.{run}
use Rattle.writers.specs.Writing.{units_end, units_bytes, block_bytes, block_length}
use Rattle.writers.proofs.Runs.{run_more, length_run}
use Rattle.writers.proofs.Fields.{length-group}
use Rattle.writers.proofs.UnitBytes.{length-unit}

pub length-group-result : (g : GroupResult) → length (group_result_bytes g) ≡ group_result_length
unfolding group_result_bytes behind bytes32 bytes16
length-group-result g = refl

pub length-unit-result : (u : UnitResult) → length (unit_result_bytes u) ≡ unit_result_length
unfolding unit_result_bytes behind bytes32 bytes16
length-unit-result u = refl

-- ---- a block
-- the records of its units end where their lengths say
pub length-units : (c : Columns) (units : ℕ) → group_length + length (units_bytes c units) ≡ units_end c units
unfolding units_bytes units_end run
length-units c zero = refl
length-units c (suc i) = omega (arith, run_more (λ (k : ℕ). unit_bytes (row_of c k)) i, length-unit (row_of c i), length-units c i)

pub length-block : (g : GroupRecord) (c : Columns) → length (block_bytes g c) ≡ block_length c
unfolding block_bytes
length-block g c = length-append (group_bytes g) (units_bytes c (count c)) ∙ omega (arith, length-group g, length-units c (count c))

-- it holds its group record, and is no longer than its units at their longest
pub end-from : (c : Columns) (units : ℕ) → group_length ≤ units_end c units
end-from c units = omega (arith, length-units c units)

pub end-most : (c : Columns) (units : ℕ) → units_end c units ≤ group_length + longest_unit * units
unfolding units_end
end-most c zero = omega arith
end-most c (suc i) = omega (arith, end-most c i, length_most (row_of c i))

-- ---- a result
pub length-results : (r : Results) (units : ℕ) → length (unit_results_bytes r units) ≡ unit_result_length * units
unfolding unit_results_bytes
length-results r units = length_run (λ (i : ℕ). unit_result_bytes (result_of r i)) unit_result_length (λ i. length-unit-result (result_of r i)) units
