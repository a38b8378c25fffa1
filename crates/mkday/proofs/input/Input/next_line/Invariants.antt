-- What is kept of the line lies within its room.
use Rattle.std.proofs.Common.{◌≤◌, length}
use Rattle.mkday.proofs.input.Input.next_line.Given as goal

abbrev pub invariant-loop : goal.invariant-loop
invariant-loop g l = l.length ≤ length l.line
