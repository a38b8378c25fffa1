use Rattle.std.proofs.Common.{◌≡◌, ◌+◌, ◌≤◌, refl, sym, ap, ◌∙◌, arith, rules, None, w32, SFits}
use Rattle.std.proofs.lemmas.Int.{to_z-of_z}
use Rattle.records.specs.declared.unit.UnitRecord.{UnitRecord}
use Rattle.records.specs.Layouts.{length_of}
use Rattle.records.proofs.UnitHeads.{whole_long}
use Rattle.decode.specs.Block.{block_count}
use Rattle.decode.proofs.Units.{take-up, not_there, not-marked, fits, turn, end, ended, broken, came}
use Rattle.decode.proofs.read_on.Goals as goal

pub loop-i-init : goal.loop-i-init
loop-i-init c =
    let f : SFits w32 c.args.p = search rules in
    simp to_z-of_z (take-up _ _ c.requires)

pub returns-in_err-u : goal.returns-in_err-u
returns-in_err-u c =
    let q : c.from_residual.result ≡ None = search rules in
    let gone = rw c.in_err-u.was at c.unit_on.ensures in
    broken _ _ q (not_there _ _ c.loop-i.invariant (omega (arith, c.requires.room.starts)) gone)

pub returns-then-not-take_in : goal.returns-then-not-take_in
returns-then-not-take_in c =
    let on = rw c.in_ok-u.was at c.unit_on.ensures in
    broken _ _ refl (not-marked _ _ c.loop-i.invariant (omega (arith, c.requires.room.starts)) on.0 (sym c.take_in.ensures.told ∙ c.if-not-take_in.true))

pub overflow_add-sold : goal.overflow_add-sold
overflow_add-sold c =
    let on = rw c.in_ok-u.was at c.unit_on.ensures in
    fits _ _ c.loop-i.invariant (omega (arith, c.requires.room.starts)) on.0 on.1 c.take_in.ensures c.if-not-take_in.false

pub overflow_add-here : goal.overflow_add-here
overflow_add-here c =
    let on = rw c.in_ok-u.was at c.unit_on.ensures in
    omega (arith, c.length-here.ensures, ap length_of on.0, whole_long c.args.s.now c.loop-i.here on.1, c.well_formed.0)

pub loop-i-preserved : goal.loop-i-preserved
loop-i-preserved c =
    let on = rw c.in_ok-u.was at c.unit_on.ensures in
    let end = ap (λ n. c.loop-i.here + n) c.length-here.ensures ∙ sym (ap (λ (u : UnitRecord). c.loop-i.here + length_of u) on.0) in
    turn _ _ c.loop-i.invariant (omega (arith, c.requires.room.starts)) on.0 on.1 c.take_in.ensures c.if-not-take_in.false end (ap (λ n. n + 1) c.from-floor.ensures) refl

pub returns : goal.returns
returns c =
    let g = c.loop-i.invariant in
    let l : block_count c.args.s.now ≤ c.loop-i.i = omega (arith, c.requires.room.starts) in
    came _ _ refl (end _ _ g l) (ended _ _ g l)
