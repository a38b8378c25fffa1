-- Working margins are asked of where the ends fit the kind.
use Rattle.std.proofs.Common.{rules, ◌≡◌, w32, to_z, of_z}
use mathlib.Core.Path.{sym, ap, ◌∙◌}
use Rattle.std.specs.Prelude.{Ok}
use Rattle.std.specs.Int.Signed.{le_z}
use Rattle.terms.specs.declared.quantity.Margins.{Margins}
use Rattle.terms.specs.declared.refusal.Fault.TheVariants as F
use Rattle.terms.specs.Refusals.{check}
use Rattle.terms.proofs.Passing.{passes}
use Rattle.records.specs.Inner.{working_faults}
use Rattle.records.proofs.Checks.{check-past}
use Rattle.records.proofs.quantities.working.Goals as goal

pub returns : goal.returns
unfolding working_faults
returns c =
    let m = c.margins-m.result in
    let a : to_z w32 (of_z w32 m.step_down) ≡ m.step_down = search rules in
    let b : to_z w32 (of_z w32 m.step_up) ≡ m.step_up = search rules in
    let told = rw (a, b) at c.ordered.ensures in
    let fits = (passes _ _ _ (sym (rw c.ends_fit.ensures at c.check.ensures) ∙ c.in_ok-check.was)).0 in
    check-past _ _ _ fits (told ∙ ap (λ (m : Margins). check (le_z m.step_down m.step_up) F.WorkingCrossed (Ok tt)) c.margins-m.ensures)
