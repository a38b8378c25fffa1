-- A block whose head came has its group record whole, and the day has room for one more.
use Rattle.std.proofs.Common.{sym, ap, ◌∙◌, arith}
use Rattle.terms.specs.Refusals.{reply}
use Rattle.day.proofs.ByKind.{group-long, group-room}
use Rattle.day.proofs.BlockAlone.{block-for}
use Rattle.day.proofs.value.Day.offer_block.Goals as goal

pub take_block-requires : goal.take_block-requires
take_block-requires c =
    let x = c.args in
    let h = block-for x.self.now x.s.now (sym c.block_head_for.ensures.reply ∙ ap reply c.in_ok-block_head_for.was) in
    (group-long x.self.now x.s.now _ h.came h.role, omega (arith, group-room x.self.now x.s.now _ h.came h.role, c.block_head_for.ensures.groups))
