-- No digit is no numeral; where it ends, the byte there is all that is asked still.
use Rattle.std.proofs.Common.{◌≡◌, ℕ, ◌-◌, sym, ap, ◌∙◌, true, false}
use borrow.Author.Tests.{eq-eqb, ne_eqb}
use Rattle.numbers.specs.Bytes.{byte_at}
use Rattle.numbers.specs.Decimal.{is_digit}
use Rattle.terms.specs.Reply.{need}
use Rattle.partner.proofs.Ends.{none}
use Rattle.partner.proofs.fields.numeral_at.Goals as goal

pub returns-then-not-is_ascii_digit : goal.returns-then-not-is_ascii_digit
returns-then-not-is_ascii_digit c =
    let a = c.args in
    let s = a.s.now in
    let d : is_digit (byte_at s a.at) ≡ false = ap is_digit (sym c.byte-first.ensures) ∙ (sym c.is_ascii_digit.ensures.value ∙ c.if-not-is_ascii_digit.true) in
    rw c.malformed.ensures (sym (none s a.at a.cap a.stop d))

pub numeral_from-number-requires : goal.numeral_from-number-requires
numeral_from-number-requires c =
    let a = c.args in
    let d : is_digit (byte_at a.s.now a.at) ≡ true = ap is_digit (sym c.byte-first.ensures) ∙ (sym c.is_ascii_digit.ensures.value ∙ c.if-not-is_ascii_digit.false) in
    (record { digit = d; value = ap (λ (x : ℕ). x - 48) (rw c.byte-first.ensures at c.from.ensures) }, c.requires.1)

pub returns-then-byte-stop : goal.returns-then-byte-stop
unfolding need
returns-then-byte-stop c =
    let a = c.args in
    let n = ne_eqb (byte_at a.s.now c.numeral_from-number.result.next) a.stop (λ z. c.if-byte-stop.true (c.byte.ensures ∙ z)) in
    rw (c.malformed-then-byte-stop.ensures, c.numeral_from-number.ensures.told a.stop c.requires.0.digit, n)

pub returns : goal.returns
unfolding need
returns c =
    let a = c.args in
    let e = eq-eqb (byte_at a.s.now c.numeral_from-number.result.next) a.stop (sym c.byte.ensures ∙ c.if-byte-stop.false) in
    rw (c.numeral_from-number.ensures.told a.stop c.requires.0.digit, e)
