-- The amount, and then its letter: what neither refuses is the amount with its sign.
use Rattle.std.proofs.Common.{◌≡◌, sym, rules, Err}
use Rattle.std.proofs.Common.{w32, to_z, of_z}
use Rattle.partner.specs.Form.{amount_of}
use Rattle.partner.specs.Inner.{capped_amount}
use Rattle.partner.proofs.Amounts.{mapped-refused}
use Rattle.partner.proofs.Letters.{quantity-refused, quantity-by, amount-small, amount-within}
use Rattle.partner.proofs.fields.quantity_at.Goals as goal

pub returns-in_err-size : goal.returns-in_err-size
returns-in_err-size c =
    let a = c.args in
    let s = a.s.now in
    let e : c.from_residual.result ≡ Err c.in_err-size.field-0.0 = search rules in
    rw e (sym (quantity-refused s a.at a.stop (mapped-refused capped_amount (amount_of s a.at) (sym c.in_err-size.ensures))))

pub letter_at-requires : goal.letter_at-requires
letter_at-requires c =
    let a = c.args in
    amount-within a.s.now a.at a.stop _ (sym c.in_ok-size.ensures)

pub signed-requires : goal.signed-requires
signed-requires c =
    let a = c.args in
    amount-small a.s.now a.at a.stop _ (sym c.in_ok-size.ensures)

pub returns-in_default : goal.returns-in_default
returns-in_default c =
    let a = c.args in
    rw (c.malformed.ensures, quantity-by a.s.now a.at a.stop _ (sym c.in_ok-size.ensures), ← c.letter_at.ensures, c.in_default.is)

pub returns : goal.returns
returns c =
    let a = c.args in
    let back : to_z w32 (of_z w32 c.signed.result) ≡ c.signed.result = search rules in
    rw (quantity-by a.s.now a.at a.stop _ (sym c.in_ok-size.ensures), ← c.letter_at.ensures, c.in-Some.is, back, c.signed.ensures)
