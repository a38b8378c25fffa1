use Rattle.std.proofs.Common.{length, ◌-◌, ◌≤◌}
use Rattle.blocks.proofs.Laying.{Going}
use Rattle.blocks.proofs.columns.UnitColumns.lay.Given as goal

abbrev pub invariant-loop-i-2 : goal.invariant-loop-i-2
invariant-loop-i-2 l = record { onward : l.initial.i ≤ l.i; so_far : Going l.s l.self l.fn.room l.room l.here l.to l.i }

abbrev pub decreases-loop-i-2 : goal.decreases-loop-i-2
decreases-loop-i-2 l = length l.self.n0.now - l.i

abbrev pub invariant-loop-i : goal.invariant-loop-i
invariant-loop-i l = Going l.s l.self l.fn.room l.room l.here l.to l.i

abbrev pub decreases-loop-i : goal.decreases-loop-i
decreases-loop-i l = length l.self.n0.now - l.i
