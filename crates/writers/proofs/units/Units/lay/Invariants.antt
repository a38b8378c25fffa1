use Rattle.records.specs.Layouts.{group_length, unit_bytes}
use Rattle.writers.specs.Columns.{row_of, count}
use Rattle.writers.specs.Units.{listed}
use Rattle.writers.proofs.Runs.{Going}
use Rattle.writers.proofs.units.Units.lay.Given as goal

abbrev pub invariant-loop-i : goal.invariant-loop-i
invariant-loop-i l = Going (λ k. unit_bytes (row_of (listed l.self) k)) (count (listed l.self)) group_length l.initial.room l.room l.here l.i
