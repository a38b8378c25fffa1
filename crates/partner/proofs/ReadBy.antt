-- A line read by the form with its numbers kept at the caps: refused as the form or the limits refuse it, and else the line of that form.
use Rattle.std.proofs.Common.{ℕ}
use mathlib.Core.Path.{◌≡◌, refl, sym, ◌∙◌}
use mathlib.Core.List.{List}
use Rattle.terms.specs.Reply.{Reply, is, refused, next}
use Rattle.partner.specs.declared.form.Form.{Form}
use Rattle.partner.specs.declared.line.LineRead.{LineRead}
use Rattle.partner.specs.Form.{form_of}
use Rattle.partner.specs.Line.{within, line_in, starts_in, read_of}
use Rattle.partner.specs.Inner.{capped_form, mapped, line_by}
use Rattle.partner.proofs.Amounts.{mapped-is}
use Rattle.partner.proofs.Bounds.{passing, refusing}
use Rattle.partner.proofs.Kept.{within-kept, line_kept}
use Rattle.partner.proofs.RoundTrip.{limited, limits-passed}

module _ (s : List ℕ) where
  pub form-refused : {n p : ℕ} → form_of s ≡ refused n p → read_of s ≡ refused n p
  unfolding read_of next
  form-refused e = rw e

  -- the form as it was read, and as it is kept
  module _ (f form : Form) (e : form_of s ≡ is f) (same : capped_form f ≡ form) where
    kept : {r : Reply (Unit {0})} → within {A = Unit {0}} (line_in form) (starts_in form) (is tt) ≡ r → within {A = Unit {0}} (line_in f) (starts_in f) (is tt) ≡ r
    kept h = rw (← same, within-kept {A = Unit {0}} f (starts_in f) (is tt)) at h

    refused-by : {n p : ℕ} → within {A = Unit {0}} (line_in form) (starts_in form) (is tt) ≡ refused n p → read_of s ≡ refused n p
    unfolding read_of next
    refused-by h = rw e (refusing (line_in f) (starts_in f) (is (record { line = line_in f; used = f.step_up.next })) (kept h))

    passed-by : {u : Unit {0}} → within {A = Unit {0}} (line_in form) (starts_in form) (is tt) ≡ is u → read_of s ≡ is (record { line = line_in form; used = form.step_up.next })
    unfolding read_of next
    passed-by h =
        let p = (limited (line_in f) (starts_in f) (is tt) (kept h)).0 in
        let read : LineRead = record { line = line_in f; used = f.step_up.next } in
        rw (e, limits-passed (line_in f) (starts_in f) (is read) p, ← same, line_kept f p)

  pub form-passed : (form : Form) → mapped capped_form (form_of s) ≡ is form → line_by form ≡ read_of s
  unfolding line_by
  form-passed form e = go (within {A = Unit {0}} (line_in form) (starts_in form) (is tt)) refl
    where
      read : Reply LineRead
      read = is (record { line = line_in form; used = form.step_up.next })

      go : (r : Reply (Unit {0})) → within {A = Unit {0}} (line_in form) (starts_in form) (is tt) ≡ r → within (line_in form) (starts_in form) read ≡ read_of s
      go (is n) h =
          let r = mapped-is capped_form (form_of s) e in
          passing (line_in form) (starts_in form) read h ∙ sym (passed-by r.0 form r.1.0 r.1.1 h)
      go (refused n p) h =
          let r = mapped-is capped_form (form_of s) e in
          refusing (line_in form) (starts_in form) read h ∙ sym (refused-by r.0 form r.1.0 r.1.1 h)
