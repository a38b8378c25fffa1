-- `lay_quantity` meets its contract: bits below 10,000 are the number itself.
use Prim.Native.Nat.{◌+◌}
use native.Mathlib.Omega.{arith}
use lib.ListN.{length}
use Rattle.numbers.specs.Decimal.{decimal}
use Rattle.lines.specs.Lines.{i32_field}
use Rattle.lines.proofs.Pairs.{few_digits}
use Rattle.lines.proofs.Parts.{within}
use Rattle.lines.proofs.Signs.{low_bits}
use Rattle.lines.proofs.field.lay_quantity.Goals as goal

pub returns-then-bits-lt-END : goal.returns-then-bits-lt-END
returns-then-bits-lt-END c =
    let a = c.args in
    let few = few_digits a.bits c.if-bits-lt-END.true in
    rw (low_bits a.bits (omega (arith, c.if-bits-lt-END.true)))
    (within a.out.now a.at (1 + length (decimal a.bits)) i32_field c.lay.result (omega (arith, few)) c.lay.ensures)
