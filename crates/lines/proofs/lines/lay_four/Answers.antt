-- `lay_four` meets its contract: the field of one number stands behind itself.
use Prim.Native.Nat.{◌+◌, ◌*◌}
use native.Mathlib.Omega.{arith}
use lib.ListN.{length}
use Rattle.numbers.specs.Decimal.{decimal}
use Rattle.lines.specs.Lines.{i32_field}
use Rattle.lines.proofs.Pairs.{few_digits}
use Rattle.lines.proofs.Parts.{four-fields, within}
use Rattle.lines.proofs.lines.lay_four.Goals as goal

pub returns : goal.returns
returns c =
    let a = c.args in
    let out = a.out.now in
    let most = 1 + length (decimal a.number.n) in
    let few = few_digits a.number.n a.number.few in
    let all = four-fields out a.at most c.lay-a.result c.lay-b.result c.lay-c.result c.lay.result (omega (arith, c.requires, few)) c.lay-a.ensures c.lay-b.ensures c.lay-c.ensures c.lay.ensures in
    within out a.at (most * 4) (i32_field * 4) c.lay.result (omega (arith, all.few, few)) all
