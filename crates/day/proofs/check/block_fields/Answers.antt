-- A group record that passed tells a count of units that there can be.
use Rattle.std.proofs.Common.{sym, ap, ◌∙◌}
use Rattle.terms.specs.Refusals.{reply}
use Rattle.records.proofs.Read.{group-passed}
use Rattle.day.proofs.check.block_fields.Goals as goal

pub units_checked-requires : goal.units_checked-requires
units_checked-requires c =
    let x = c.args in
    let p = group-passed x.s.now x.day.«record» _ (sym c.group_fields.ensures ∙ ap reply c.in_ok-group.was) in
    (record { long = c.requires; few = p.most }, p.value)
