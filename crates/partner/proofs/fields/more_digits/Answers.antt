-- What is read and the digits that are left come to the whole number at each place, both kept at the cap.
use Rattle.std.proofs.Common.{◌≡◌, ◌∙◌, arith, length}
use Rattle.numbers.specs.Bytes.{byte_at}
use Rattle.numbers.proofs.ReadBack.{digit-in, no-digit-in}
use Rattle.partner.proofs.Capped.{turn, stopped, ended}
use Rattle.partner.proofs.fields.more_digits.Goals as goal

pub returns-then-digit-gt9 : goal.returns-then-digit-gt9
returns-then-digit-gt9 c =
    let a = c.args in
    let s = a.s.now in
    stopped s a.at a.first a.cap c.loop-i.value c.loop-i.i c.loop-i.invariant (no-digit-in (byte_at s c.loop-i.i) (rw c.digit_of-digit.ensures at c.if-digit-gt9.true))

pub loop-i-preserved : goal.loop-i-preserved
loop-i-preserved c =
    let a = c.args in
    let s = a.s.now in
    let d = digit-in (byte_at s c.loop-i.i) (rw c.digit_of-digit.ensures at c.if-digit-gt9.false) in
    let v = c.digit_of-digit.ensures ∙ d.1 in
    turn s a.at a.first a.cap c.loop-i.value c.loop-i.i c.min-value.result c.loop-i.invariant c.loop-i-test.true d.0 (rw v at c.min-value.ensures)

pub returns : goal.returns
returns c =
    let a = c.args in
    let s = a.s.now in
    let e : c.loop-i.i ≡ length s = omega (arith, c.loop-i.auto.i-end c.requires.0, c.loop-i-test.false) in
    ended s a.at a.first a.cap c.loop-i.value (rw e at c.loop-i.invariant)
