use Rattle.std.proofs.Common.{length}
use Rattle.terms.specs.Refusals.{first_fault}
use Rattle.terms.proofs.FirstRefused.{Left}
use Rattle.group.specs.Columns.{as_group, unit_checks}
use Rattle.group.proofs.check.units.Given as goal

abbrev pub invariant-loop-i : goal.invariant-loop-i
invariant-loop-i l = let checks = first_fault (unit_checks (as_group l.n0 l.pc l.step_down l.step_up l.class)) in
    Left checks (checks 0 (length l.n0)) (length l.n0) l.i l.i
