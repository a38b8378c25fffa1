-- A unit record that lies there whole has its end told, and of any other the head says what is wrong.
use mathlib.Core.Path.{sym, ◌∙◌}
use Rattle.records.proofs.UnitHeads.{whole-read, whole_long}
use Rattle.records.proofs.units.unit_head.Goals as goal

pub unit_end-requires : goal.unit_end-requires
unit_end-requires c =
    let a = c.args in
    whole_long a.s.now a.at (sym c.is_whole.ensures ∙ c.if-is_whole.true)

pub returns-then-is_whole : goal.returns-then-is_whole
returns-then-is_whole c =
    let a = c.args in
    rw c.unit_end.ensures (sym (whole-read a.s.now a.at (sym c.is_whole.ensures ∙ c.if-is_whole.true)))
