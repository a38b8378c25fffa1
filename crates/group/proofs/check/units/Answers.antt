use Rattle.std.proofs.Common.{◌≡◌, sym, ap, ◌∙◌, length, arith, rules, w32, SFits}
use Rattle.std.proofs.lemmas.Int.{to_z-of_z}
use Rattle.numbers.specs.Column.{at}
use Rattle.terms.specs.Reply.{is}
use Rattle.terms.proofs.FirstRefused.{turn, stop, end}
use Rattle.terms.proofs.Scan.{scan_steps, step-on, step-out}
use Rattle.group.specs.Columns.{as_group, unit_checks}
use Rattle.group.proofs.check.units.Goals as goal

pub returns-in-Err : goal.returns-in-Err
unfolding unit_checks
returns-in-Err c =
    let a = c.args in
    let i = c.loop-i.i in
    let f0 : SFits w32 (at a.n0.now i) = search rules in
    let f1 : SFits w32 (at a.pc.now i) = search rules in
    let f2 : SFits w32 (at a.step_down.now i) = search rules in
    let f3 : SFits w32 (at a.step_up.now i) = search rules in
    let e : c.unit.result ≡ unit_checks (as_group a.n0.now a.pc.now a.step_down.now a.step_up.now a.class.now) i = simp to_z-of_z at c.unit.ensures in
    rw c.at.ensures (stop (scan_steps (unit_checks _)) _ i c.loop-i.invariant (omega arith) (step-out (unit_checks _) (sym e ∙ c.in-Err.is)))

pub loop-i-preserved : goal.loop-i-preserved
unfolding unit_checks
loop-i-preserved c =
    let a = c.args in
    let i = c.loop-i.i in
    let f0 : SFits w32 (at a.n0.now i) = search rules in
    let f1 : SFits w32 (at a.pc.now i) = search rules in
    let f2 : SFits w32 (at a.step_down.now i) = search rules in
    let f3 : SFits w32 (at a.step_up.now i) = search rules in
    let e : c.unit.result ≡ unit_checks (as_group a.n0.now a.pc.now a.step_down.now a.step_up.now a.class.now) i = simp to_z-of_z at c.unit.ensures in
    turn (scan_steps (unit_checks _)) _ i c.loop-i.invariant (omega arith) (step-on (unit_checks _) (sym e ∙ c.in_default.is))

pub returns : goal.returns
returns c =
    let e : c.loop-i.i ≡ length c.args.n0.now = omega (arith, c.loop-i.invariant.within) in
    sym (ap is e) ∙ end (scan_steps (unit_checks _)) _ c.loop-i.i c.loop-i.invariant (omega arith)
