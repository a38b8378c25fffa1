use Rattle.std.proofs.Common.{◌≡◌, refl, sym, ap, ◌∙◌, arith, rules, w32, SFits, Err}
use Rattle.std.proofs.lemmas.Int.{to_z-of_z}
use Rattle.terms.specs.Refusals.{reply}
use Rattle.group.specs.Columns.{as_group}
use Rattle.group.proofs.Accepting.{level-of, written-lengths, accepted-by, judged-of}
use Rattle.group.proofs.Replying.{unequal, uncounted, faulty, written}
use Rattle.group.proofs.judge.judge.Goals as goal

pub returns-then-not-one_length : goal.returns-then-not-one_length
returns-then-not-one_length c = unequal (as_group c.args.n0.now c.args.pc.now c.args.step_down.now c.args.step_up.now c.args.class.now) c.args.n1.now c.args.n2.now c.args.n3.now (sym c.one_length.ensures ∙ c.if-not-one_length.true) refl

pub returns-then-not-is_count : goal.returns-then-not-is_count
returns-then-not-is_count c = uncounted (as_group c.args.n0.now c.args.pc.now c.args.step_down.now c.args.step_up.now c.args.class.now) c.args.n1.now c.args.n2.now c.args.n3.now (sym c.one_length.ensures ∙ c.if-not-one_length.false) (sym c.is_count.ensures ∙ c.if-not-is_count.true) refl

pub units-requires : goal.units-requires
units-requires c = level-of (as_group c.args.n0.now c.args.pc.now c.args.step_down.now c.args.step_up.now c.args.class.now) c.args.n1.now c.args.n2.now c.args.n3.now (sym c.one_length.ensures ∙ c.if-not-one_length.false)

pub returns-in_err-units : goal.returns-in_err-units
returns-in_err-units c =
    let q : c.from_residual.result ≡ Err c.in_err-units.field-0.0 = search rules in
    rw q (faulty (as_group c.args.n0.now c.args.pc.now c.args.step_down.now c.args.step_up.now c.args.class.now) c.args.n1.now c.args.n2.now c.args.n3.now (sym c.one_length.ensures ∙ c.if-not-one_length.false) (sym c.is_count.ensures ∙ c.if-not-is_count.false) (sym c.units.ensures ∙ ap reply c.in_err-units.was) refl)

pub sum-requires : goal.sum-requires
sum-requires c =
    let h = accepted-by (as_group c.args.n0.now c.args.pc.now c.args.step_down.now c.args.step_up.now c.args.class.now) c.args.n1.now c.args.n2.now c.args.n3.now (sym c.one_length.ensures ∙ c.if-not-one_length.false) (sym c.is_count.ensures ∙ c.if-not-is_count.false) (sym c.units.ensures ∙ ap reply c.in_ok-units.was) in
    (omega (arith, h.level.positions, h.few), λ i. (h.sound i).pc-small)

pub invariant_of-group : goal.invariant_of-group
invariant_of-group c =
    let f : SFits w32 c.sum.result = search rules in
    let e = to_z-of_z w32 _ f ∙ c.sum.ensures in
    record { judged = rw e (judged-of (as_group c.args.n0.now c.args.pc.now c.args.step_down.now c.args.step_up.now c.args.class.now) c.args.n1.now c.args.n2.now c.args.n3.now (sym c.one_length.ensures ∙ c.if-not-one_length.false) (sym c.is_count.ensures ∙ c.if-not-is_count.false) (sym c.units.ensures ∙ ap reply c.in_ok-units.was)) }

pub judged-requires : goal.judged-requires
judged-requires c =
    let l = written-lengths (as_group c.args.n0.now c.args.pc.now c.args.step_down.now c.args.step_up.now c.args.class.now) c.args.n1.now c.args.n2.now c.args.n3.now (sym c.one_length.ensures ∙ c.if-not-one_length.false) in
    record { n1_len = l.0; n2_len = l.1 }

pub returns : goal.returns
returns c =
    let f : SFits w32 c.sum.result = search rules in
    let e = to_z-of_z w32 _ f ∙ c.sum.ensures in
    written (as_group c.args.n0.now c.args.pc.now c.args.step_down.now c.args.step_up.now c.args.class.now) c.args.n1.now c.args.n2.now c.args.n3.now (sym c.one_length.ensures ∙ c.if-not-one_length.false) (sym c.is_count.ensures ∙ c.if-not-is_count.false) (sym c.units.ensures ∙ ap reply c.in_ok-units.was) (rw e at c.judged.ensures)
