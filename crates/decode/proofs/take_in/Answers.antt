-- The entries of a unit that passes; one that does not leaves nothing to be said of them.
use mathlib.Core.Path.{◌≡◌, refl, sym, ap, ◌∙◌}
use mathlib.Core.Bool.{Bool}
use lib.IntN.{neg_ℤ}
use lib.ListN.{set}
use mir.Syntax.{w32}
use mir.Val.{to_z, of_z}
use Rattle.numbers.specs.Choice.{pick}
use Rattle.numbers.specs.Sum.{bit}
use Rattle.terms.proofs.Considered.{considered-by}
use Rattle.records.specs.Decoding.{unit_n0}
use Rattle.records.proofs.Marks.{marked}
use borrow.Author.Rules.{rules}
use Rattle.decode.proofs.take_in.Goals as goal

pub is_implicit-implicit-requires : goal.is_implicit-implicit-requires
is_implicit-implicit-requires c = (marked _ _ _ (sym c.marks_pass.ensures ∙ c.if-not-marks_pass.false)).flags

pub considered-start-requires : goal.considered-start-requires
considered-start-requires c = (marked _ _ _ (sym c.marks_pass.ensures ∙ c.if-not-marks_pass.false)).pc

pub returns : goal.returns
returns c =
    let passes = sym c.marks_pass.ensures ∙ c.if-not-marks_pass.false in
    let x = c.args in
    let u = x.u in
    let w = marked _ _ _ passes in
    let implied = c.is_implicit-implicit.ensures in
    let begun : c.considered-start.result.0 ≡ unit_n0 u =
    c.considered-start.ensures ∙ ap (λ (b : Bool). pick b (neg_ℤ u.pc.0) u.n.0) implied ∙ considered-by u.class u.nominated u.coincide u.n.0 u.pc.0 w.stated in
    let zn : to_z w32 (of_z w32 c.considered-start.result.0) ≡ c.considered-start.result.0 = search rules in
    let zd : to_z w32 (of_z w32 c.margins-margins.result.step_down) ≡ c.margins-margins.result.step_down = search rules in
    let zu : to_z w32 (of_z w32 c.margins-margins.result.step_up) ≡ c.margins-margins.result.step_up = search rules in
    record {
      told = sym passes;
      classes = λ _. refl;
      marks = λ _. ap (set x.taken.now x.i) (c.from.ensures ∙ ap bit implied);
      starts = λ _. ap (set x.n0.now x.i) (zn ∙ begun);
      downs = λ _. ap (set x.step_down.now x.i) (zd ∙ ap (λ m. m.step_down) c.margins-margins.ensures);
      ups = λ _. ap (set x.step_up.now x.i) (zu ∙ ap (λ m. m.step_up) c.margins-margins.ensures);
    }
