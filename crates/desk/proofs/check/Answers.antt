-- A call whose day bytes are read is the block offered alone to the day that they open.
use Rattle.std.proofs.Common.{sym, ap, ◌∙◌, length}
use Rattle.terms.specs.Refusals.{reply}
use Rattle.desk.proofs.First.{call-alone, lengths-told, told-short}
use Rattle.desk.proofs.check.Goals as goal

pub returns-clause-reply : goal.returns-clause-reply
returns-clause-reply c =
    let x = c.args in
    let e = call-alone x.day.now x.block.now _ (sym c.read_day.ensures ∙ ap reply c.in_ok-record.was) in
    let o = rw c.opened-first.ensures at c.offer_block.ensures in
    lengths-told c.offer_block.result _ (o.gave.replied ∙ sym e)

pub returns-clause-room : goal.returns-clause-room
returns-clause-room c =
    let x = c.args in
    let e = call-alone x.day.now x.block.now (length x.room.now) (sym c.read_day.ensures ∙ ap reply c.in_ok-record.was) in
    let o = rw c.opened-first.ensures at c.offer_block.ensures in
    rw e o.room

pub returns-clause-short : goal.returns-clause-short
returns-clause-short c = told-short _ _ _ c.offer_block.result _ c.offer_block.ensures.gave.replied
