-- The whole MWh, then the decimals; what neither refuses is the amount of both.
use Rattle.std.proofs.Common.{◌≡◌, sym, ◌∙◌, arith, rules, Err}
use Rattle.partner.specs.Form.{numeral_of}
use Rattle.partner.specs.Inner.{mwh_cap, capped}
use Rattle.partner.proofs.Amounts.{mapped-refused, whole, numeral-there, amount-refused, amount-wrong, amount-right}
use Rattle.partner.proofs.Decimals.{told-right}
use Rattle.partner.proofs.fields.amount_at.Goals as goal

pub returns-in_err-mwh : goal.returns-in_err-mwh
returns-in_err-mwh c =
    let a = c.args in
    let s = a.s.now in
    let e : c.from_residual.result ≡ Err c.in_err-mwh.field-0.0 = search rules in
    rw e (sym (amount-refused s a.at (mapped-refused (capped mwh_cap) (numeral_of s a.at 44) (sym c.in_err-mwh.ensures))))

pub decimals_at-requires : goal.decimals_at-requires
decimals_at-requires c =
    let a = c.args in
    let s = a.s.now in
    let w = whole s a.at 44 mwh_cap (sym c.in_ok-mwh.ensures) in
    omega (arith, w.next, numeral-there s a.at 44 w.one (omega arith) w.read)

pub returns-in_default : goal.returns-in_default
returns-in_default c =
    let a = c.args in
    let s = a.s.now in
    let w = whole s a.at 44 mwh_cap (sym c.in_ok-mwh.ensures) in
    rw c.malformed.ensures (sym (amount-wrong s a.at _ w (sym c.decimals_at.ensures ∙ c.in_default.is)))

pub overflow_mul-result : goal.overflow_mul-result
overflow_mul-result c =
    let a = c.args in
    omega (arith, (whole a.s.now a.at 44 mwh_cap (sym c.in_ok-mwh.ensures)).value)

pub overflow_add-result : goal.overflow_add-result
overflow_add-result c =
    let a = c.args in
    let s = a.s.now in
    let w = whole s a.at 44 mwh_cap (sym c.in_ok-mwh.ensures) in
    omega (arith, w.value, (told-right s c.in_ok-mwh.mwh.next (sym c.decimals_at.ensures ∙ c.in-Some.is)).1.1)

pub returns : goal.returns
returns c =
    let a = c.args in
    let s = a.s.now in
    let w = whole s a.at 44 mwh_cap (sym c.in_ok-mwh.ensures) in
    sym (amount-right s a.at _ w (sym c.decimals_at.ensures ∙ c.in-Some.is))
