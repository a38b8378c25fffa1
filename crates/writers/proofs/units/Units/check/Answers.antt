-- The loop's invariant: what is told of all the units is what is told from unit i on. A unit that passes is a turn, a fault ends it.
use Rattle.std.specs.Prelude.{Result}
use Prim.Native.Nat.{ℕ}
use mathlib.Core.Path.{◌≡◌, refl, sym, ap, ◌∙◌}
use native.Mathlib.Numerals.{add-one}
use native.Mathlib.Omega.{arith}
use Rattle.std.proofs.Common.{rules}
use Rattle.terms.specs.Reply.{next}
use Rattle.terms.specs.declared.refusal.Fault.{Fault}
use Rattle.terms.proofs.FirstRefused.{start, turn, stop, end}
use Rattle.terms.proofs.Scan.{scan_steps, step-on, step-out}
use Rattle.records.specs.declared.unit.UnitRecord.{UnitRecord}
use Rattle.records.specs.Layouts.{length_of}
use Rattle.records.specs.Reading.{value_faults}
use Rattle.records.proofs.UnitHeads.{length_most}
use Rattle.writers.specs.Columns.{Columns, row_of, count, floor_at, row_checks}
use Rattle.writers.specs.Units.{listed}
use Rattle.writers.specs.Writing.{units_end, units_checked}
use Rattle.writers.proofs.Lengths.{end-most}
use Rattle.writers.proofs.units.Units.check.Goals as goal

-- what was told of the row is the check of its index
checked : (k : Columns) (i : ℕ) {u : UnitRecord} {floor : ℕ} {f g : Result Unit Fault} → u ≡ row_of k i → floor ≡ floor_at k i → f ≡ value_faults u floor → f ≡ g
    → row_checks k i ≡ g
checked k i e l f g = rw (← e, ← l) (sym f ∙ g)

pub loop-i-init : goal.loop-i-init
unfolding floor_at units_end
loop-i-init c =
    let k = listed c.args.self in
    record { least = refl; on = refl; so = start (scan_steps (row_checks k)) (count k) 0 }

pub returns-in-Err : goal.returns-in-Err
unfolding units_checked next
returns-in-Err c =
    let k = listed c.args.self in
    let e = checked k c.loop-i.i c.row-u.ensures c.loop-i.invariant.least c.faults.ensures c.in-Err.is in
    rw (c.at.ensures, ← (stop (scan_steps (row_checks k)) (count k) c.loop-i.i c.loop-i.invariant.so (omega arith) (step-out (row_checks k) e)))

pub overflow_add-end : goal.overflow_add-end
overflow_add-end c =
    omega (arith, c.length-end.ensures, length_most c.row-u.result, c.loop-i.invariant.on, end-most (listed c.args.self) c.loop-i.i)

pub loop-i-preserved : goal.loop-i-preserved
unfolding floor_at units_end
loop-i-preserved c =
    let k = listed c.args.self in
    let e = checked k c.loop-i.i c.row-u.ensures c.loop-i.invariant.least c.faults.ensures c.in_default.is in
    let floor : c.from-floor.result ≡ c.row-u.result.number = search rules in
    record {
      least = rw (add-one c.loop-i.i, floor, c.row-u.ensures);
      on = rw (add-one c.loop-i.i, c.length-end.ensures ∙ ap length_of c.row-u.ensures, c.loop-i.invariant.on);
      so = turn (scan_steps (row_checks k)) (count k) c.loop-i.i c.loop-i.invariant.so (omega arith) (step-on (row_checks k) e);
    }

pub returns : goal.returns
unfolding units_checked next
returns c =
    let k = listed c.args.self in
    let all : c.loop-i.i ≡ count k = omega (arith, c.loop-i.invariant.so.within) in
    rw (← (end (scan_steps (row_checks k)) (count k) c.loop-i.i c.loop-i.invariant.so (omega arith)), c.loop-i.invariant.on, all)
