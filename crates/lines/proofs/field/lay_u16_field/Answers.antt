-- `lay_u16_field` meets its contract: the number has at most 5 digits.
use Prim.Native.Nat.{◌+◌, ◌<◌}
use native.Mathlib.Omega.{arith}
use lib.ListN.{length}
use Rattle.numbers.specs.Decimal.{decimal}
use Rattle.lines.specs.Lines.{u16_field}
use Rattle.numbers.proofs.Digits.{no_more}
use Rattle.lines.proofs.Parts.{within}
use Rattle.lines.proofs.field.lay_u16_field.Goals as goal

pub lay_number-requires : goal.lay_number-requires
lay_number-requires c =
    let n = c.args.n in
    let h : n < 100000 = omega arith in
    rw c.from.ensures (omega (arith, c.requires, no_more 4 n h))

pub returns : goal.returns
returns c =
    let n = c.args.n in
    let h : n < 100000 = omega arith in
    within c.args.out.now c.args.at (1 + length (decimal n)) u16_field c.lay_number.result (omega (arith, no_more 4 n h)) (rw c.from.ensures at c.lay_number.ensures)
