use Rattle.std.proofs.Common.{sym, ◌∙◌}
use Rattle.daylist.proofs.Looping.{starts, goes_on, ended}
use Rattle.daylist.proofs.all_turns.Goals as goal

pub loop-init : goal.loop-init
loop-init g c = rw c.fresh-w.ensures starts

pub loop-preserved : goal.loop-preserved
loop-preserved g c = goes_on c.loop.invariant (sym c.is_going.ensures ∙ c.if-not-is_going.false) c.turn-w.ensures

pub returns : goal.returns
returns g c = (ended c.loop.invariant c.flushed.ensures.0, c.flushed.ensures.1)
