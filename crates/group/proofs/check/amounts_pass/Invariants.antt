use Rattle.std.proofs.Common.{◌≡◌, ◌*◌, ◌≤◌}
use Rattle.numbers.specs.Column.{at}
use Rattle.numbers.specs.Sum.{sum_to}
use Rattle.group.specs.Group.{margins_at}
use Rattle.group.specs.Inner.{faults_of}
use Rattle.group.proofs.check.amounts_pass.Given as goal

abbrev pub invariant-loop-i : goal.invariant-loop-i
invariant-loop-i l = record {
  sum : l.failed ≡ sum_to l.i (λ k. faults_of (at l.n0 k) (margins_at l.step_down l.step_up k));
  few : l.failed ≤ 4 * l.i;
}
