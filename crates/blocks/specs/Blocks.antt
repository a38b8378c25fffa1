-- "House records": the result of a block, by "The steps" over the values that the layouts give.
use Rattle.std.specs.Prelude.{ℕ, List}
use Rattle.numbers.specs.Column.{at}
use Rattle.numbers.specs.Sum.{bit}
use Rattle.group.specs.Steps.{reason_of}
use Rattle.group.specs.Group.{Group, n1, n2, n3, reasons}
use Rattle.group.specs.Columns.{as_group, sums_of}
use Rattle.group.specs.declared.judge.Sums.{Sums}
use Rattle.records.specs.declared.key.Key.{Key}
use Rattle.records.specs.declared.group.GroupRecord.{GroupRecord}
use Rattle.records.specs.declared.group_result.GroupResult.{GroupResult}
use Rattle.records.specs.declared.unit_result.UnitResult.{UnitResult}
use Rattle.records.specs.Layouts.{group_at, margins_of}
use Rattle.records.specs.Reading.{key_of, unit_in}
use Rattle.records.specs.Decoding.{unit_n0, unit_implicit, numbers_in, classes_in, taken_in, n0_in, pc_in, step_down_in, step_up_in}
use Rattle.writers.specs.Results.{Results, results, result_bytes}
use Rattle.decode.specs.Block.{block_count}

-- the first so many units of a block as the columns of a group
abbrev pub group_in : List ℕ → ℕ → Group
group_in s count = as_group (n0_in s count) (pc_in s count) (step_down_in s count) (step_up_in s count) (classes_in s count)

-- the results of these units, and that of the group of a group record
abbrev pub unit_results : List ℕ → ℕ → Results
unit_results s count =
    let g = group_in s count in
    results (numbers_in s count) (reasons (taken_in s count) g) g.n0 (n1 g) (n2 g) (n3 g)

unfoldable pub group_result : GroupRecord → Sums → GroupResult
group_result group sums =
    record {
      brp = group.brp;
      zone = group.zone;
      quarter = group.quarter;
      verdict = sums.verdict;
      count = group.count;
      p = sums.p;
      s1 = sums.s1;
      s2 = sums.s2;
      s3 = sums.s3;
      balance = sums.balance;
    }

-- the key of a block, and its group
abbrev pub block_key : List ℕ → Key
block_key s = key_of (group_at s 0)

abbrev pub block_group : List ℕ → Group
block_group s = group_in s (block_count s)

-- the result of the units behind a group record, and of a block
unfoldable pub result_in : List ℕ → GroupRecord → List ℕ
result_in s group = result_bytes (group_result group (sums_of (group_in s group.count))) (unit_results s group.count)

abbrev pub block_result : List ℕ → List ℕ
block_result s = result_in s (group_at s 0)

-- what it tells of the group: the block's own key and count, and the verdict, P, S1, S2, S3 and balance of the steps
abbrev pub group_told : List ℕ → GroupResult
group_told s = group_result (group_at s 0) (sums_of (block_group s))

-- the result of the unit of an index, by the layouts' values and the steps
abbrev pub unit_result : List ℕ → ℕ → UnitResult
unit_result s i =
    let u = unit_in s i in
    let g = block_group s in
    record {
      number = u.number;
      reason = reason_of (bit (unit_implicit u)) (unit_n0 u) (at (n1 g) i) (at (n2 g) i) (at (n3 g) i) (margins_of u);
      n0 = record { 0 = unit_n0 u };
      n1 = record { 0 = at (n1 g) i };
      n2 = record { 0 = at (n2 g) i };
      n3 = record { 0 = at (n3 g) i };
    }
