-- `lay_line` meets its contract: each part where the one before it ends.
use Rattle.std.proofs.Common.{◌≡◌, rules, to_z, of_z, w32}
use Rattle.partner.proofs.Lays.{line-laid}
use Rattle.partner.proofs.lay.lay_line.Goals as goal

pub returns : goal.returns
returns c =
    let l = c.args.l in
    let n : to_z w32 (of_z w32 l.n.0) ≡ l.n.0 = search rules in
    let down : to_z w32 (of_z w32 l.margins.step_down) ≡ l.margins.step_down = search rules in
    let up : to_z w32 (of_z w32 l.margins.step_up) ≡ l.margins.step_up = search rules in
    line-laid l c.requires (rw c.from.ensures at c.lay_numeral-quarter.ensures) (rw c.from-2.ensures at c.lay_numeral-n.ensures) (rw n at c.lay_quantity-step_down.ensures) (rw down at c.lay_quantity-step_up.ensures) (rw up at c.lay_quantity.ensures)
