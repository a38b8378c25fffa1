-- "House records": how long a block, one group record and its units, can be, and its result.
use Rattle.std.specs.Prelude.{ℕ, ◌+◌, ◌*◌}
use Rattle.terms.specs.Checks.{most_units}
use Rattle.records.specs.Layouts.{group_length, longest_unit, group_result_length, unit_result_length}

abbrev pub longest_block : ℕ
longest_block = group_length + longest_unit * most_units

abbrev pub longest_result : ℕ
longest_result = group_result_length + unit_result_length * most_units
