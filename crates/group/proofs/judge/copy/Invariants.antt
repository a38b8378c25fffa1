use Rattle.std.proofs.Common.{length}
use Rattle.numbers.specs.Column.{at}
use Rattle.numbers.proofs.Filling.{Filled}
use Rattle.group.proofs.judge.copy.Given as goal

abbrev pub invariant-loop-i : goal.invariant-loop-i
invariant-loop-i l = Filled (at l.from) (length l.from) l.initial.to l.to l.i
