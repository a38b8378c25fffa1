use Rattle.std.proofs.Common.{◌≡◌, ◌+◌, ◌≤◌, refl, sym, ap, ◌∙◌, true, arith}
use Rattle.records.specs.declared.unit.UnitRecord.{UnitRecord}
use Rattle.records.specs.Layouts.{length_of, unit_at}
use Rattle.records.specs.Inner.{is_plain}
use Rattle.records.proofs.UnitHeads.{plain_body, plain-whole}
use Rattle.decode.specs.Block.{block_count}
use Rattle.decode.proofs.Units.{start, not-marked, fits, turn, hand_on, end, ended, broken, came}
use Rattle.decode.proofs.read_into.Goals as goal

pub loop-i-init : goal.loop-i-init
loop-i-init c = start _ _ c.requires.0 c.requires.1

pub read_on-requires : goal.read_on-requires
read_on-requires c = hand_on _ _ c.loop-i.invariant (omega (arith, c.requires.1.starts))

pub returns-then-not-take_in : goal.returns-then-not-take_in
returns-then-not-take_in c =
    let there : is_plain c.args.s.now c.loop-i.here ≡ true = sym c.is_plain.ensures ∙ c.if-not-is_plain.false in
    let read : unit_at c.args.s.now c.loop-i.here ≡ c.body_fields-u.result = plain_body _ _ there ∙ sym c.body_fields-u.ensures in
    broken _ _ refl (not-marked _ _ c.loop-i.invariant (omega (arith, c.requires.1.starts)) read (sym c.take_in.ensures.told ∙ c.if-not-take_in.true))

pub overflow_add-p : goal.overflow_add-p
overflow_add-p c =
    let there : is_plain c.args.s.now c.loop-i.here ≡ true = sym c.is_plain.ensures ∙ c.if-not-is_plain.false in
    let read : unit_at c.args.s.now c.loop-i.here ≡ c.body_fields-u.result = plain_body _ _ there ∙ sym c.body_fields-u.ensures in
    fits _ _ c.loop-i.invariant (omega (arith, c.requires.1.starts)) read (plain-whole c.args.s.now c.loop-i.here there) c.take_in.ensures c.if-not-take_in.false

pub loop-i-preserved : goal.loop-i-preserved
loop-i-preserved c =
    let there : is_plain c.args.s.now c.loop-i.here ≡ true = sym c.is_plain.ensures ∙ c.if-not-is_plain.false in
    let read : unit_at c.args.s.now c.loop-i.here ≡ c.body_fields-u.result = plain_body _ _ there ∙ sym c.body_fields-u.ensures in
    let end = sym (ap (λ (u : UnitRecord). c.loop-i.here + length_of u) (plain_body c.args.s.now c.loop-i.here there)) in
    turn _ _ c.loop-i.invariant (omega (arith, c.requires.1.starts)) read (plain-whole c.args.s.now c.loop-i.here there) c.take_in.ensures c.if-not-take_in.false end (ap (λ n. n + 1) c.from-floor.ensures) refl

pub returns : goal.returns
returns c =
    let g = c.loop-i.invariant in
    let l : block_count c.args.s.now ≤ c.loop-i.i = omega (arith, c.requires.1.starts) in
    came _ _ refl (end _ _ g l) (ended _ _ g l)
