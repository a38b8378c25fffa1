-- The loop's invariant: the whole walk tells what is left of it does, from the unit record here on.
use Rattle.std.proofs.Common.{◌<◌, sym, ap, ◌∙◌, arith}
use Rattle.records.proofs.UnitHeads.{unit-most}
use Rattle.finding.proofs.Spots.{whole, start, turn, found, none, inside, no-group, in-front, front, unit}
use Rattle.finding.proofs.spot.spot_of.Goals.{then-not-is_group-via-then-not-is_group, then-not-is_group-via-else-not-is_group+then-place-lt-LEN}
use Rattle.finding.proofs.spot.spot_of.Goals as goal

pub returns-then-not-is_group : goal.returns-then-not-is_group
returns-then-not-is_group c =
    let a = c.args in
    elim c.then-not-is_group.branch [
      | then-not-is_group-via-then-not-is_group w ↦ front a.s.now a.place (no-group a.s.now a.place (sym c.is_group.ensures ∙ w.if-not-is_group.true))
      | then-not-is_group-via-else-not-is_group+then-place-lt-LEN w ↦ front a.s.now a.place (in-front a.s.now a.place (sym c.is_group.ensures ∙ w.if-not-is_group.false) w.if-place-lt-LEN.true)
    ]

pub loop-index-init : goal.loop-index-init
loop-index-init c = start c.args.s.now c.args.place _ c.if-place-lt-LEN.false

pub overflow_add-end : goal.overflow_add-end
overflow_add-end c =
    let l = c.loop-index in
    omega (arith, l.invariant.near, c.unit_length.ensures, unit-most c.args.s.now l.at, c.from-index-end.ensures, (c.type_inv.s 5).fits)

pub returns-then-place-end : goal.returns-then-place-end
returns-then-place-end c =
    let a = c.args in
    let s = a.s.now in
    let l = c.loop-index in
    let g = sym c.is_group.ensures ∙ c.if-not-is_group.false in
    let n = c.from-index-end in
    let few : n.result < 256 = omega (arith, n.ensures, (c.type_inv.s 5).fits) in
    let e = inside s a.place g c.if-place-lt-LEN.false ∙ ap (whole s a.place) (sym n.ensures) ∙ found s a.place _ l.before l.at l.index l.invariant c.loop-index-test.true (omega (arith, c.if-place-end.true, c.unit_length.ensures)) in
    unit s a.place n.result l.before l.at l.index few c.loop-index-test.true l.invariant e

pub loop-index-preserved : goal.loop-index-preserved
loop-index-preserved c =
    let a = c.args in
    let l = c.loop-index in
    rw c.unit_length.ensures (turn a.s.now a.place _ l.before l.at l.index l.invariant c.loop-index-test.true (omega (arith, c.if-place-end.false, c.unit_length.ensures)))

pub returns : goal.returns
returns c =
    let a = c.args in
    let s = a.s.now in
    let l = c.loop-index in
    let g = sym c.is_group.ensures ∙ c.if-not-is_group.false in
    front s a.place (inside s a.place g c.if-place-lt-LEN.false ∙ ap (whole s a.place) (sym c.from-index-end.ensures) ∙ none s a.place _ l.before l.at l.index l.invariant c.loop-index-test.false)
