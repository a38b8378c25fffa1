-- "House records": the result of a block, one group result and a unit result for each unit.
use Rattle.std.specs.Prelude.{ℕ, ◌+◌, ◌*◌, List, ◌++◌, ℤ, pos, get_or}
use Rattle.records.specs.declared.group_result.GroupResult.{GroupResult}
use Rattle.records.specs.declared.unit_result.UnitResult.{UnitResult}
use Rattle.records.specs.Layouts.{group_result_length, group_result_bytes, unit_result_length, unit_result_bytes}
use Rattle.writers.specs.Runs.{run}

pub record Results : Type 0 where
  pub number : List ℕ
  pub reason : List ℕ
  pub n0 : List ℤ
  pub n1 : List ℤ
  pub n2 : List ℤ
  pub n3 : List ℤ

abbrev pub results : List ℕ → List ℕ → List ℤ → List ℤ → List ℤ → List ℤ → Results
results number reason n0 n1 n2 n3 = record { number = number; reason = reason; n0 = n0; n1 = n1; n2 = n2; n3 = n3 }

-- the result of the unit of an index and a number
unfoldable pub result_from : ℕ → List ℕ → List ℤ → List ℤ → List ℤ → List ℤ → ℕ → UnitResult
result_from number reason n0 n1 n2 n3 i =
    record {
      number = number;
      reason = get_or reason i 0;
      n0 = record { 0 = get_or n0 i (pos 0) };
      n1 = record { 0 = get_or n1 i (pos 0) };
      n2 = record { 0 = get_or n2 i (pos 0) };
      n3 = record { 0 = get_or n3 i (pos 0) };
    }

abbrev pub result_of : Results → ℕ → UnitResult
result_of r i = result_from (get_or r.number i 0) r.reason r.n0 r.n1 r.n2 r.n3 i

unfoldable pub unit_results_bytes : Results → ℕ → List ℕ
unit_results_bytes r units = run (λ (i : ℕ). unit_result_bytes (result_of r i)) units

unfoldable pub result_bytes : GroupResult → Results → List ℕ
result_bytes g r = group_result_bytes g ++ unit_results_bytes r g.count

abbrev pub result_length : ℕ → ℕ
result_length units = group_result_length + unit_result_length * units
