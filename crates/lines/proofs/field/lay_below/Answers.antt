-- `lay_below` meets its contract: the space, and the digits behind the minus sign.
use Prim.Native.Nat.{◌+◌}
use native.Mathlib.Omega.{arith}
use lib.ListN.{length}
use Rattle.numbers.specs.Decimal.{decimal}
use Rattle.lines.specs.Lines.{i32_field}
use Rattle.lines.proofs.Pairs.{few_digits}
use Rattle.lines.proofs.Parts.{then, one_byte, within}
use Rattle.lines.proofs.field.lay_below.Goals as goal

pub returns : goal.returns
returns c =
    let a = c.args in
    let out = a.out.now in
    let many = length (decimal a.size) in
    let few = few_digits a.size c.requires.0 in
    within out a.at (1 + (1 + many)) i32_field c.lay-2.result (omega (arith, few))
    (then out a.at 1 (1 + many) (a.at + 1) c.lay-2.result (omega (arith, c.requires.1, few)) (one_byte out a.at 32 c.lay.ensures) c.lay-2.ensures)
