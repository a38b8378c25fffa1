-- `lay_u32_field` meets its contract: the number has at most 10 digits.
use Prim.Native.Nat.{◌+◌, ◌<◌}
use native.Mathlib.Omega.{arith}
use lib.ListN.{length}
use Rattle.numbers.specs.Decimal.{decimal}
use Rattle.lines.specs.Lines.{u32_field}
use Rattle.numbers.proofs.Digits.{no_more}
use Rattle.lines.proofs.Parts.{within}
use Rattle.lines.proofs.field.lay_u32_field.Goals as goal

pub lay_number-requires : goal.lay_number-requires
lay_number-requires c =
    let n = c.args.n in
    let h : n < 10000000000 = omega arith in
    omega (arith, c.requires, no_more 9 n h)

pub returns : goal.returns
returns c =
    let n = c.args.n in
    let h : n < 10000000000 = omega arith in
    within c.args.out.now c.args.at (1 + length (decimal n)) u32_field c.lay_number.result (omega (arith, no_more 9 n h)) c.lay_number.ensures
