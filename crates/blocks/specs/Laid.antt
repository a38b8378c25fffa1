-- What is laid of columns: no promise rests on it.
use Rattle.std.specs.Prelude.{ℕ, List, ◌++◌, length}
use Rattle.numbers.specs.Bytes.{bytes32, bits32}
use Rattle.group.specs.declared.judge.Sums.{Sums}
use Rattle.records.specs.declared.unit_result.UnitResult.{UnitResult}
use Rattle.records.specs.Layouts.{unit_at, unit_result_bytes}
use Rattle.records.specs.Reading.{unit_place}
use Rattle.writers.specs.Results.{result_from}
use Rattle.writers.specs.Runs.{run}
use Rattle.blocks.specs.declared.columns.UnitColumns.{UnitColumns}

-- the result of the unit of an index, whose record begins at a place
abbrev pub unit_laid : List ℕ → ℕ → UnitColumns → ℕ → UnitResult
unit_laid s here c i = result_from (unit_at s here).number c.why.now c.n0.now c.n1.now c.n2.now c.n3.now i

-- the results of the units one after another
unfoldable pub units_laid : List ℕ → UnitColumns → List ℕ
units_laid s c = run (λ (i : ℕ). unit_result_bytes (unit_laid s (unit_place s i) c i)) (length c.n0.now)

-- the sums of a group's result
abbrev pub sums_bytes : Sums → List ℕ
sums_bytes x = bytes32 (bits32 x.p.0) ++ bytes32 (bits32 x.s1.0) ++ bytes32 (bits32 x.s2.0) ++ bytes32 (bits32 x.s3.0) ++ bytes32 (bits32 x.balance.0)
