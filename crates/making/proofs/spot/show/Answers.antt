-- What is shown so far stands at the front of the room, and the rest of the room is as it was.
use mathlib.Core.Path.{refl}
use native.Mathlib.Omega.{arith}
use lib.ListN.{length-set}
use Rattle.numbers.proofs.Columns.{column-none, column-more}
use Rattle.making.specs.Spot.{shown_at}
use Rattle.making.proofs.spot.show.Goals as goal

pub loop-i-init : goal.loop-i-init
loop-i-init c = (refl, column-none (shown_at c.args.word.now) c.args.room.now)

pub loop-i-preserved : goal.loop-i-preserved
loop-i-preserved c = (simp length-set c.loop-i.invariant.0, rw (c.shown.ensures, c.loop-i.invariant.1) (column-more (shown_at c.args.word.now) c.loop-i.i c.args.room.now 0 (omega arith)))
