-- `lay_unit_lines` meets its contract: each turn lays one line more behind those laid so far.
use native.Mathlib.Omega.{arith}
use Rattle.lines.specs.Lines.{unit_line_at, longest_unit_line}
use Rattle.lines.proofs.Parts.{run-start, run_more}
use Rattle.lines.proofs.lines.lay_unit_lines.Goals as goal

pub loop-i-init : goal.loop-i-init
loop-i-init c =
    let a = c.args in
    run-start a.out.now a.at (unit_line_at a.res.now) longest_unit_line

pub loop-i-preserved : goal.loop-i-preserved
loop-i-preserved c =
    let a = c.args in
    run_more a.out.now a.at (unit_line_at a.res.now) longest_unit_line c.loop-i.i c.loop-i.here c.lay_unit_line-here.result (omega (arith, c.requires.1.1)) c.loop-i.invariant c.lay_unit_line-here.ensures
