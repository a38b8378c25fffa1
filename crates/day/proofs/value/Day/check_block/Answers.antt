-- A block whose head came has its group record whole.
use Rattle.std.proofs.Common.{sym, ap, ◌∙◌}
use Rattle.terms.specs.Refusals.{reply}
use Rattle.day.proofs.ByKind.{group-long}
use Rattle.day.proofs.BlockAlone.{block-for}
use Rattle.day.proofs.value.Day.check_block.Goals as goal

pub block_fields-requires : goal.block_fields-requires
block_fields-requires c =
    let x = c.args in
    let h = block-for x.self x.s.now (sym c.block_head_for.ensures.reply ∙ ap reply c.in_ok-block_head_for.was) in
    group-long x.self x.s.now _ h.came h.role
