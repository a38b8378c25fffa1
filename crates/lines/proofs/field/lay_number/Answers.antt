-- `lay_number` meets its contract: few digits are laid with the byte, more of them behind it.
use Prim.Native.Nat.{◌+◌}
use native.Mathlib.Omega.{arith}
use lib.ListN.{length}
use Rattle.numbers.specs.Decimal.{decimal}
use Rattle.lines.proofs.Parts.{then, one_byte, lays}
use Rattle.lines.proofs.field.lay_number.Goals as goal

pub returns : goal.returns
returns c =
    let a = c.args in
    let out = a.out.now in
    let many = length (decimal a.n) in
    let e = c.digit_count-count.ensures in
    let front = one_byte out a.at a.front c.lay-2.ensures in
    let number = lays _ (a.at + 1) many (a.at + 1 + c.digit_count-count.result) (omega (arith, e)) (omega arith) (rw c.from.ensures at c.lay_digits.ensures) in
    then out a.at 1 many (a.at + 1) (a.at + 1 + c.digit_count-count.result) (omega (arith, c.requires)) front number
