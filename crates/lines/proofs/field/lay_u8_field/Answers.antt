-- `lay_u8_field` meets its contract: the number is its one digit, or has at most 3.
use Prim.Native.Nat.{◌+◌, ◌<◌}
use native.Mathlib.Omega.{arith}
use lib.ListN.{length}
use Rattle.numbers.specs.Decimal.{decimal}
use Rattle.lines.specs.Lines.{u8_field}
use Rattle.numbers.proofs.Digits.{one-figure, no_more}
use Rattle.lines.proofs.Parts.{then, one_byte, lays, within}
use Rattle.lines.proofs.field.lay_u8_field.Goals as goal

pub returns-then-n-lt10 : goal.returns-then-n-lt10
returns-then-n-lt10 c =
    let a = c.args in
    let out = a.out.now in
    let space = one_byte out a.at 32 c.lay.ensures in
    let figure = lays _ (a.at + 1) 3 (a.at + 2) (omega arith) (omega arith) c.lay-then-n-lt10.ensures in
    rw (one-figure a.n c.if-n-lt10.true) (then out a.at 1 3 (a.at + 1) (a.at + 2) (omega (arith, c.requires)) space figure)

pub lay_number-requires : goal.lay_number-requires
lay_number-requires c =
    let n = c.args.n in
    let h : n < 1000 = omega arith in
    rw c.from.ensures (omega (arith, c.requires, no_more 2 n h))

pub returns : goal.returns
returns c =
    let a = c.args in
    let h : a.n < 1000 = omega arith in
    within a.out.now a.at (1 + length (decimal a.n)) u8_field c.lay_number.result (omega (arith, no_more 2 a.n h)) (rw c.from.ensures at c.lay_number.ensures)
