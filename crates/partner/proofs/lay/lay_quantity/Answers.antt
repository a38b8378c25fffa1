-- `lay_quantity` meets its contract: the whole MWh, the decimals behind their comma, and the letter behind those.
use Rattle.std.proofs.Common.{◌≡◌, rules, to_z, of_z, w32}
use Rattle.partner.proofs.Lays.{amount-laid}
use Rattle.partner.proofs.lay.lay_quantity.Goals as goal

pub returns : goal.returns
returns c =
    let a = c.args in
    let back : to_z w32 (of_z w32 a.z) ≡ a.z = search rules in
    let e = rw back at c.unsigned_abs-size.ensures.value in
    amount-laid a.z a.stop c.requires (rw e at c.lay_numeral-decimals.ensures) (rw e at c.lay_three.ensures) (rw back at c.lay_letter.ensures)
