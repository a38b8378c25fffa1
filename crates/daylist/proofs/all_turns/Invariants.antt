-- The turns so far are a run of them.
use Rattle.daylist.proofs.Looping.{Loops}
use Rattle.daylist.proofs.all_turns.Given as goal

abbrev pub invariant-loop : goal.invariant-loop
invariant-loop g l = Loops l.input l.output l.w
