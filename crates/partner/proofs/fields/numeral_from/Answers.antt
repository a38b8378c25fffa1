-- A 0 in front ends at once; behind any other digit the rest is read to its end.
use native.Mathlib.Omega.{arith}
use Rattle.numbers.specs.Bytes.{byte_at}
use Rattle.numbers.proofs.ReadBack.{digit-bounds}
use Rattle.partner.proofs.Ends.{zero-ends, more-ends}
use Rattle.partner.proofs.fields.numeral_from.Goals as goal

pub returns-then-first-eq0 : goal.returns-then-first-eq0
returns-then-first-eq0 c =
    let a = c.args in
    let s = a.s.now in
    let o = c.requires.0 in
    zero-ends s a.at a.cap c.requires.1.0 o.digit (omega (arith, (digit-bounds (byte_at s a.at) o.digit).0, o.value, c.if-first-eq0.true))

pub returns : goal.returns
returns c =
    let a = c.args in
    let o = c.requires.0 in
    more-ends a.s.now a.at a.cap a.first c.more_digits.result o.digit o.value (omega arith) c.more_digits.ensures
