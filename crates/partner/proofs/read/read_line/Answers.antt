-- The form, and then the limits of its values: those that pass were not changed by a cap.
use Rattle.std.proofs.Common.{◌≡◌, sym, ◌∙◌, arith, rules, Err}
use Rattle.partner.specs.Form.{form_of}
use Rattle.partner.specs.Inner.{capped_form}
use Rattle.partner.proofs.Amounts.{mapped-is, mapped-refused}
use Rattle.partner.proofs.RoundTrip.{formed}
use Rattle.partner.proofs.ReadBy.{form-refused, form-passed}
use Rattle.partner.proofs.read.read_line.Goals as goal

pub returns-in_err-form : goal.returns-in_err-form
returns-in_err-form c =
    let s = c.args.s.now in
    let e : c.from_residual.result ≡ Err c.in_err-form.field-0.0 = search rules in
    rw e (sym (form-refused s (mapped-refused capped_form (form_of s) (sym c.in_err-form.ensures))))

pub line_by-requires : goal.line_by-requires
line_by-requires c =
    let s = c.args.s.now in
    let r = mapped-is capped_form (form_of s) (sym c.in_ok-form.ensures) in
    rw (← r.1.1) ((formed s r.0 r.1.0).small, omega arith)

pub returns : goal.returns
returns c =
    let s = c.args.s.now in
    c.line_by.ensures ∙ form-passed s _ (sym c.in_ok-form.ensures)
