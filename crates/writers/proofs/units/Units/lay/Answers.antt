-- Each turn lays the record of one unit more where the one before ends.
use Rattle.std.proofs.Common.{◌≡◌, sym, ap, ◌∙◌, arith, length}
use Rattle.records.specs.Layouts.{group_length, length_of, unit_bytes}
use Rattle.writers.specs.Columns.{row_of, count}
use Rattle.writers.specs.Units.{listed}
use Rattle.writers.specs.Writing.{units_bytes}
use Rattle.writers.proofs.Lengths.{length-units}
use Rattle.writers.proofs.UnitBytes.{length-unit}
use Rattle.writers.proofs.Runs.{start, next_fits, turn, end}
use Rattle.writers.proofs.units.Units.lay.Goals as goal

pub loop-i-init : goal.loop-i-init
unfolding units_bytes
loop-i-init c =
    let k = listed c.args.self in
    start (λ i. unit_bytes (row_of k i)) (count k) group_length c.args.room.now (omega (arith, length-units k (count k), c.requires))

pub lay_unit-requires : goal.lay_unit-requires
lay_unit-requires c =
    let k = listed c.args.self in
    omega (
      arith,
      next_fits (λ i. unit_bytes (row_of k i)) (count k) group_length c.args.room.now c.loop-i.i c.loop-i.invariant (omega arith),
      length-unit (row_of k c.loop-i.i),
      ap length_of c.row-u.ensures,
    )

pub overflow_add-here : goal.overflow_add-here
overflow_add-here c =
    let k = listed c.args.self in
    omega (
      arith,
      next_fits (λ i. unit_bytes (row_of k i)) (count k) group_length c.args.room.now c.loop-i.i c.loop-i.invariant (omega arith),
      length-unit (row_of k c.loop-i.i),
      c.length-here.ensures,
      ap length_of c.row-u.ensures,
      c.loop-i.invariant.kept,
    )

pub loop-i-preserved : goal.loop-i-preserved
loop-i-preserved c =
    let k = listed c.args.self in
    let put = rw c.row-u.ensures at c.lay_unit.ensures in
    let on : c.length-here.result ≡ length (unit_bytes (row_of k c.loop-i.i)) = c.length-here.ensures ∙ ap length_of c.row-u.ensures ∙ sym (length-unit (row_of k c.loop-i.i)) in
    rw on (turn (λ i. unit_bytes (row_of k i)) (count k) group_length c.args.room.now c.loop-i.i c.loop-i.invariant (omega arith) put)

pub returns : goal.returns
unfolding units_bytes
returns c =
    let k = listed c.args.self in
    end (λ i. unit_bytes (row_of k i)) (count k) group_length c.args.room.now c.loop-i.i c.loop-i.invariant (omega arith)
