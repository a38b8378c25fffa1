use Rattle.std.proofs.Common.{◌≡◌, ◌+◌, true, drop, length}
use Rattle.text.specs.Line.{uncommented}
use Rattle.text.proofs.line.uncommented_length.Given as goal

abbrev pub invariant-loop-i : goal.invariant-loop-i
invariant-loop-i l = length (uncommented true l.line) ≡ l.i + length (uncommented l.fresh (drop l.i l.line))
