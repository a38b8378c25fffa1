-- 8 for each quantity in turn: those before the one that answers are in their ranges.
use Rattle.std.proofs.Common.{rules, ◌≡◌, w32, to_z, of_z}
use Rattle.std.specs.Prelude.{Err}
use mathlib.Core.Path.{sym, ◌∙◌}
use Rattle.terms.specs.Refusals.{check}
use Rattle.terms.specs.declared.refusal.Fault.TheVariants as F
use Rattle.terms.proofs.Passing.{in-range, ends}
use Rattle.records.specs.Reading.{range_faults}
use Rattle.records.proofs.quantities.ranges.Goals as goal

pub returns-in_err-nomination : goal.returns-in_err-nomination
unfolding range_faults check
returns-in_err-nomination c =
    let u = c.args.u in
    let z0 : to_z w32 (of_z w32 u.n.0) ≡ u.n.0 = search rules in
    let q : c.from_residual.result ≡ Err c.in_err-nomination.field-0.0 = search rules in
    q ∙ (sym c.in_err-nomination.was ∙ ends z0 F.N c.nomination.ensures _ c.in_err-nomination.was)

pub returns-in_err-position : goal.returns-in_err-position
unfolding range_faults check
returns-in_err-position c =
    let u = c.args.u in
    let z0 : to_z w32 (of_z w32 u.n.0) ≡ u.n.0 = search rules in
    let z1 : to_z w32 (of_z w32 u.pc.0) ≡ u.pc.0 = search rules in
    let q : c.from_residual-in_err-position.result ≡ Err c.in_err-position.field-0.0 = search rules in
    rw (q, in-range z0 F.N c.nomination.ensures c.in_ok-nomination.was) (sym c.in_err-position.was ∙ ends z1 F.Pc c.position.ensures _ c.in_err-position.was)

pub returns-in_err-nomination-2 : goal.returns-in_err-nomination-2
unfolding range_faults check
returns-in_err-nomination-2 c =
    let u = c.args.u in
    let z0 : to_z w32 (of_z w32 u.n.0) ≡ u.n.0 = search rules in
    let z1 : to_z w32 (of_z w32 u.pc.0) ≡ u.pc.0 = search rules in
    let z2 : to_z w32 (of_z w32 u.step_down) ≡ u.step_down = search rules in
    let q : c.from_residual-in_err-nomination-2.result ≡ Err c.in_err-nomination-2.field-0.0 = search rules in
    rw (q, in-range z0 F.N c.nomination.ensures c.in_ok-nomination.was, in-range z1 F.Pc c.position.ensures c.in_ok-position.was) (sym c.in_err-nomination-2.was ∙ ends z2 F.StepDown c.nomination-2.ensures _ c.in_err-nomination-2.was)

pub returns-in_err-nomination-3 : goal.returns-in_err-nomination-3
unfolding range_faults check
returns-in_err-nomination-3 c =
    let u = c.args.u in
    let z0 : to_z w32 (of_z w32 u.n.0) ≡ u.n.0 = search rules in
    let z1 : to_z w32 (of_z w32 u.pc.0) ≡ u.pc.0 = search rules in
    let z2 : to_z w32 (of_z w32 u.step_down) ≡ u.step_down = search rules in
    let z3 : to_z w32 (of_z w32 u.step_up) ≡ u.step_up = search rules in
    let q : c.from_residual-in_err-nomination-3.result ≡ Err c.in_err-nomination-3.field-0.0 = search rules in
    rw (q, in-range z0 F.N c.nomination.ensures c.in_ok-nomination.was, in-range z1 F.Pc c.position.ensures c.in_ok-position.was, in-range z2 F.StepDown c.nomination-2.ensures c.in_ok-nomination-2.was) (sym c.in_err-nomination-3.was ∙ ends z3 F.StepUp c.nomination-3.ensures _ c.in_err-nomination-3.was)

pub returns-in_err-nomination-4 : goal.returns-in_err-nomination-4
unfolding range_faults check
returns-in_err-nomination-4 c =
    let u = c.args.u in
    let z0 : to_z w32 (of_z w32 u.n.0) ≡ u.n.0 = search rules in
    let z1 : to_z w32 (of_z w32 u.pc.0) ≡ u.pc.0 = search rules in
    let z2 : to_z w32 (of_z w32 u.step_down) ≡ u.step_down = search rules in
    let z3 : to_z w32 (of_z w32 u.step_up) ≡ u.step_up = search rules in
    let z4 : to_z w32 (of_z w32 u.lower) ≡ u.lower = search rules in
    let q : c.from_residual-in_err-nomination-4.result ≡ Err c.in_err-nomination-4.field-0.0 = search rules in
    rw (q, in-range z0 F.N c.nomination.ensures c.in_ok-nomination.was, in-range z1 F.Pc c.position.ensures c.in_ok-position.was, in-range z2 F.StepDown c.nomination-2.ensures c.in_ok-nomination-2.was, in-range z3 F.StepUp c.nomination-3.ensures c.in_ok-nomination-3.was) (sym c.in_err-nomination-4.was ∙ ends z4 F.Lower c.nomination-4.ensures _ c.in_err-nomination-4.was)

pub returns : goal.returns
unfolding range_faults check
returns c =
    let u = c.args.u in
    let z0 : to_z w32 (of_z w32 u.n.0) ≡ u.n.0 = search rules in
    let z1 : to_z w32 (of_z w32 u.pc.0) ≡ u.pc.0 = search rules in
    let z2 : to_z w32 (of_z w32 u.step_down) ≡ u.step_down = search rules in
    let z3 : to_z w32 (of_z w32 u.step_up) ≡ u.step_up = search rules in
    let z4 : to_z w32 (of_z w32 u.lower) ≡ u.lower = search rules in
    let z5 : to_z w32 (of_z w32 u.upper) ≡ u.upper = search rules in
    rw (in-range z0 F.N c.nomination.ensures c.in_ok-nomination.was, in-range z1 F.Pc c.position.ensures c.in_ok-position.was, in-range z2 F.StepDown c.nomination-2.ensures c.in_ok-nomination-2.was, in-range z3 F.StepUp c.nomination-3.ensures c.in_ok-nomination-3.was, in-range z4 F.Lower c.nomination-4.ensures c.in_ok-nomination-4.was) (rw z5 at c.nomination-5.ensures)
