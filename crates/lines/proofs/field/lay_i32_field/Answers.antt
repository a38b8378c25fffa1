-- `lay_i32_field` meets its contract: the digits of the size stand behind the minus sign where the number is negative, else behind the space.
use Prim.Native.Nat.{◌+◌}
use mathlib.Core.Path.{◌≡◌}
use native.Mathlib.Omega.{arith}
use lib.IntN.{nat_abs}
use lib.ListN.{length}
use mir.Facts.{to_z-of_z}
use Rattle.numbers.specs.Decimal.{decimal}
use Rattle.lines.specs.Lines.{i32_field}
use Rattle.numbers.proofs.Digits.{no_more}
use Rattle.lines.proofs.Parts.{then, one_byte, within}
use Rattle.lines.proofs.Signs.{negative, natural}
use Rattle.lines.proofs.field.lay_i32_field.Goals as goal

pub lay_number-requires : goal.lay_number-requires
lay_number-requires c = omega (arith, c.requires, no_more 9 c.magnitude-size.result (omega arith))

pub returns-then-z-lt0 : goal.returns-then-z-lt0
returns-then-z-lt0 c =
    let a = c.args in
    let f = c.ranges.z in
    let out = a.out.now in
    let n = nat_abs a.z in
    let e : c.magnitude-size.result ≡ n = simp to_z-of_z at c.magnitude-size.ensures in
    let few = no_more 9 n (omega (arith, e)) in
    let number = rw e at c.lay_number.ensures in
    rw (negative a.z (simp to_z-of_z at c.if-z-lt0.true))
    (within out a.at (1 + (1 + length (decimal n))) i32_field c.lay_number.result (omega (arith, few))
    (then out a.at 1 (1 + length (decimal n)) (a.at + 1) c.lay_number.result (omega (arith, c.requires, few)) (one_byte out a.at 32 c.lay.ensures) number))

pub lay_number-requires-2 : goal.lay_number-requires-2
lay_number-requires-2 c = omega (arith, c.requires, no_more 9 c.magnitude-size.result (omega arith))

pub returns : goal.returns
returns c =
    let a = c.args in
    let f = c.ranges.z in
    let n = nat_abs a.z in
    let e : c.magnitude-size.result ≡ n = simp to_z-of_z at c.magnitude-size.ensures in
    let few = no_more 9 n (omega (arith, e)) in
    rw (natural a.z (simp to_z-of_z at c.if-z-lt0.false))
    (within a.out.now a.at (1 + length (decimal n)) i32_field c.lay_number-2.result (omega (arith, few)) (rw e at c.lay_number-2.ensures))
