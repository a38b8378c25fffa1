-- The cap lies one above the largest number: what is not above that was not changed.
use Rattle.std.proofs.Common.{◌≡◌, sym, Err, rules}
use Rattle.partner.specs.Form.{numeral_of}
use Rattle.partner.specs.Inner.{number_cap, capped}
use Rattle.partner.proofs.Amounts.{mapped-refused, whole}
use Rattle.partner.proofs.Forms.{number-refused, number-large, number-right}
use Rattle.partner.proofs.form.unit_number.Goals as goal

pub returns-in_err-number : goal.returns-in_err-number
returns-in_err-number c =
    let s = c.args.s.now in
    let e : c.from_residual.result ≡ Err c.in_err-number.field-0.0 = search rules in
    rw e (sym (number-refused s (mapped-refused (capped number_cap) (numeral_of s 0 59) (sym c.in_err-number.ensures))))

pub returns-then-number-gt-LARGEST : goal.returns-then-number-gt-LARGEST
returns-then-number-gt-LARGEST c =
    let s = c.args.s.now in
    let w = whole s 0 59 number_cap (sym c.in_ok-number.ensures) in
    rw c.malformed.ensures (sym (number-large s _ w c.if-number-gt-LARGEST.true))

pub returns : goal.returns
returns c =
    let s = c.args.s.now in
    let w = whole s 0 59 number_cap (sym c.in_ok-number.ensures) in
    sym (number-right s _ w c.if-number-gt-LARGEST.false)
