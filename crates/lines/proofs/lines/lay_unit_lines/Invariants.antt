use Prim.Native.Nat.{◌*◌}
use Rattle.writers.specs.Runs.{run}
use Rattle.lines.specs.Lines.{unit_line_at, longest_unit_line}
use Rattle.lines.specs.Inner.{Lays}
use Rattle.lines.proofs.lines.lay_unit_lines.Given as goal

abbrev pub invariant-loop-i : goal.invariant-loop-i
invariant-loop-i l = Lays l.initial.out l.at (run (unit_line_at l.res) l.i) (longest_unit_line * l.i) l.here l.out
