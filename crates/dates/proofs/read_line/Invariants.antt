-- The line keeps its length.
use Rattle.std.proofs.Common.{length, ◌≡◌}
use Rattle.dates.proofs.read_line.Given as goal

abbrev pub invariant-loop-at : goal.invariant-loop-at
invariant-loop-at g l = length l.line ≡ length l.initial.line
