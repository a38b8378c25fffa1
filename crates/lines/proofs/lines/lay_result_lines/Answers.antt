-- `lay_result_lines` meets its contract: the units' lines stand behind the group's.
use Prim.Native.Nat.{◌+◌, ◌*◌}
use native.Mathlib.Omega.{arith}
use Rattle.numbers.specs.Bytes.{byte_at}
use Rattle.records.specs.Layouts.{result_count, group_result_at}
use Rattle.lines.specs.Lines.{result_lines, longest_group_line, longest_unit_line, longest_lines}
use Rattle.lines.proofs.Parts.{then, within}
use Rattle.lines.proofs.lines.lay_result_lines.Goals as goal

pub returns : goal.returns
unfolding result_lines group_result_at
returns c =
    let a = c.args in
    let out = a.out.now in
    let count = byte_at a.res.now result_count.place in
    let h = c.requires.0.few in
    let all = then out a.at longest_group_line (longest_unit_line * count) c.lay_group_line-units.result c.lay_unit_lines.result (omega (arith, c.requires.1)) c.lay_group_line-units.ensures (rw c.from.ensures at c.lay_unit_lines.ensures) in
    within out a.at (longest_group_line + longest_unit_line * count) longest_lines c.lay_unit_lines.result (omega (arith, all.few)) all
