-- More is read only once what waits was taken.
use Rattle.std.proofs.Common.{sym, ◌∙◌}
use Rattle.daylist.proofs.Filling.{then-read}
use Rattle.daylist.proofs.work.Work.waited.Goals as goal

pub returns-then-is_going : goal.returns-then-is_going
returns-then-is_going g c = (then-read c.flushed-flushed.ensures.0 (sym c.is_going.ensures ∙ c.if-is_going.true) c.refilled.ensures.0, c.refilled.ensures.1)
