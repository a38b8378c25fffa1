use Rattle.decode.proofs.Units.{Going}
use Rattle.decode.proofs.read_into.Given as goal

abbrev pub invariant-loop-i : goal.invariant-loop-i
invariant-loop-i l = Going l.s l.day l.class l.taken l.n0 l.step_down l.step_up l.here l.floor l.p l.i
