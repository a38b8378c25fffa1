use Rattle.std.proofs.Common.{sym, ◌∙◌}
use Rattle.records.proofs.UnitHeads.{plain_body, plain-whole, interval-body, interval-whole}
use Rattle.decode.proofs.unit_on.Goals as goal

pub returns-then-is_plain : goal.returns-then-is_plain
returns-then-is_plain c =
    let there = sym c.is_plain.ensures ∙ c.if-is_plain.true in
    (plain_body c.args.s.now c.args.here there ∙ sym c.body_fields.ensures, plain-whole c.args.s.now c.args.here there)

pub returns-then-is_interval : goal.returns-then-is_interval
returns-then-is_interval c =
    let there = sym c.is_interval.ensures ∙ c.if-is_interval.true in
    (interval-body c.args.s.now c.args.here there ∙ sym c.interval_fields.ensures, interval-whole c.args.s.now c.args.here there)

pub returns : goal.returns
returns c = rw (sym c.is_plain.ensures ∙ c.if-is_plain.false, sym c.is_interval.ensures ∙ c.if-is_interval.false)
