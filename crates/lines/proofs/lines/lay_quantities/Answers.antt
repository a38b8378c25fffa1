-- `lay_quantities` meets its contract: where all bits are the same, the field of the first stands four times.
use Prim.Native.Nat.{◌+◌, ◌-◌}
use mathlib.Core.Path.{sym, ◌∙◌}
use native.Mathlib.Omega.{arith}
use Rattle.lines.proofs.Same.{one_number}
use Rattle.lines.proofs.Signs.{low_bits, high_bits}
use Rattle.lines.proofs.lines.lay_quantities.Goals as goal

pub returns-then-first-lt-END : goal.returns-then-first-lt-END
returns-then-first-lt-END c =
    let four = c.args.four.now in
    let t = sym c.is_same.ensures ∙ c.if-is_same.true in
    rw (one_number four 0 c.read-first.result c.read-first.ensures t (low_bits c.read-first.result (omega (arith, c.if-first-lt-END.true)))) c.lay_four.ensures

pub returns-then-first : goal.returns-then-first
returns-then-first c =
    let four = c.args.four.now in
    let t = sym c.is_same.ensures ∙ c.if-is_same.true in
    let size = 4294967295 - c.read-first.result + 1 in
    let digits = high_bits c.read-first.result size (omega (arith, c.if-first.true)) (omega arith) (omega arith) in
    rw (one_number four 0 c.read-first.result c.read-first.ensures t digits) c.lay_four_below.ensures
