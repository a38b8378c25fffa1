-- Ends are asked of where the margins do not cross.
use Rattle.std.proofs.Common.{rules, ◌≡◌, w32, to_z, of_z}
use mathlib.Core.Path.{sym, ◌∙◌}
use Rattle.terms.proofs.Passing.{passes}
use Rattle.records.specs.Inner.{pair_faults}
use Rattle.records.proofs.Checks.{check-past}
use Rattle.records.proofs.quantities.pairs.Goals as goal

pub returns : goal.returns
unfolding pair_faults
returns c =
    let u = c.args.u in
    let a : to_z w32 (of_z w32 u.step_down) ≡ u.step_down = search rules in
    let b : to_z w32 (of_z w32 u.step_up) ≡ u.step_up = search rules in
    let d : to_z w32 (of_z w32 u.lower) ≡ u.lower = search rules in
    let e : to_z w32 (of_z w32 u.upper) ≡ u.upper = search rules in
    check-past _ _ _ (passes _ _ _ (sym (rw (a, b) at c.ordered.ensures) ∙ c.in_ok-ordered.was)).0 (rw (d, e) at c.ordered-2.ensures)
