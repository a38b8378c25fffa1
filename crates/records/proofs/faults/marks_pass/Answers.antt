-- The marks, the position, the margins' age and the ends in turn: the first that fails is the answer.
use mathlib.Core.Path.{◌≡◌, sym, ◌∙◌}
use mir.Syntax.{w32}
use mir.Val.{to_z, of_z}
use Rattle.terms.specs.declared.refusal.Fault.TheVariants as F
use Rattle.terms.proofs.Passing.{in-range, out_of_range}
use Rattle.records.specs.Inner.{is_fine, marks_pass}
use borrow.Author.Rules.{rules}
use Rattle.records.proofs.faults.marks_pass.Goals as goal

pub returns-in_default : goal.returns-in_default
unfolding marks_pass is_fine
returns-in_default c = rw (← c.marks.ensures, c.in_default.is)

pub returns-in_default-position : goal.returns-in_default-position
unfolding marks_pass is_fine
returns-in_default-position c =
    let zp : to_z w32 (of_z w32 c.args.u.pc.0) ≡ c.args.u.pc.0 = search rules in
    let q = out_of_range zp F.Pc c.position.ensures c.in_default-position.is in
    rw (← c.marks.ensures, c.in-Ok.is, q)

pub returns-else-is_aged : goal.returns-else-is_aged
unfolding marks_pass is_fine
returns-else-is_aged c =
    let zp : to_z w32 (of_z w32 c.args.u.pc.0) ≡ c.args.u.pc.0 = search rules in
    let q = in-range zp F.Pc c.position.ensures c.in-Ok-position.is in
    rw (← c.marks.ensures, c.in-Ok.is, q, sym c.is_aged.ensures ∙ c.if-is_aged.false) c.if-is_aged.false

pub returns-then-is_aged : goal.returns-then-is_aged
unfolding marks_pass is_fine
returns-then-is_aged c =
    let zp : to_z w32 (of_z w32 c.args.u.pc.0) ≡ c.args.u.pc.0 = search rules in
    let q = in-range zp F.Pc c.position.ensures c.in-Ok-position.is in
    rw (← c.marks.ensures, c.in-Ok.is, q, sym c.is_aged.ensures ∙ c.if-is_aged.true) c.ends_pass.ensures
