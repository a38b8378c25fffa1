use mathlib.Core.Path.{◌≡◌}
use mathlib.Core.List.{◌++◌}
use lib.ListN.{length, drop}
use Rattle.numbers.specs.Column.{column}
use Rattle.making.specs.Spot.{shown_at}
use Rattle.making.proofs.spot.show.Given as goal

abbrev pub invariant-loop-i : goal.invariant-loop-i
invariant-loop-i l = (length l.room ≡ length l.initial.room) × (l.room ≡ column l.i (shown_at l.word) ++ drop l.i l.initial.room)
