use Rattle.group.proofs.Turning.{Turned}
use Rattle.group.proofs.judge.steps_all.Given as goal

abbrev pub invariant-loop-i : goal.invariant-loop-i
invariant-loop-i l = Turned l.d l.n1 l.losses l.n0 l.fn.second l.fn.third l.fn.why l.second l.third l.why l.s3 l.i
