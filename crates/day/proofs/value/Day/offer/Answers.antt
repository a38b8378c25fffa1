-- `offer` meets its contract: the head tells what the record is to the day, and each has its own function.
use Rattle.std.proofs.Common.{sym, ap, ◌∙◌, arith}
use Rattle.terms.specs.Refusals.{reply}
use Rattle.day.proofs.Taking.{day-room, end-room}
use Rattle.day.proofs.ByKind.{day-long, offer-day, day-writes, group-long, group-room, offer-block, block_writes, end-long, offer-end, end-writes}
use Rattle.day.proofs.value.Day.offer.Goals as goal

pub open-requires : goal.open-requires
open-requires c =
    let x = c.args in
    let e = sym c.head_for.ensures.reply ∙ ap reply c.in_ok-head.was in
    day-long x.self.now x.s.now _ e c.in-Opens.is

pub take_block-requires : goal.take_block-requires
take_block-requires c =
    let x = c.args in
    let e = sym c.head_for.ensures.reply ∙ ap reply c.in_ok-head.was in
    let k = c.in-Block.is in
    (group-long x.self.now x.s.now _ e k, omega (arith, group-room x.self.now x.s.now _ e k, c.head_for.ensures.groups))

pub close-requires : goal.close-requires
close-requires c =
    let x = c.args in
    let e = sym c.head_for.ensures.reply ∙ ap reply c.in_ok-head.was in
    end-long x.self.now x.s.now _ e c.in-Closes.is

pub returns-in-Opens : goal.returns-in-Opens
returns-in-Opens c =
    let x = c.args in
    let e = sym c.head_for.ensures.reply ∙ ap reply c.in_ok-head.was in
    let k = c.in-Opens.is in
    rw (offer-day x.self.now x.s.now _ e k _, day-writes x.self.now x.s.now _ e k) (record { gave = c.open.ensures; room = day-room x.s.now _ _ })

pub returns-in-Block : goal.returns-in-Block
returns-in-Block c =
    let x = c.args in
    let e = sym c.head_for.ensures.reply ∙ ap reply c.in_ok-head.was in
    let k = c.in-Block.is in
    rw (offer-block x.self.now x.s.now _ e k _, block_writes x.self.now x.s.now _ e k) c.take_block.ensures

pub returns-in-Closes : goal.returns-in-Closes
returns-in-Closes c =
    let x = c.args in
    let e = sym c.head_for.ensures.reply ∙ ap reply c.in_ok-head.was in
    let k = c.in-Closes.is in
    rw (offer-end x.self.now x.s.now _ e k _, end-writes x.self.now x.s.now _ e k) (record { gave = c.close.ensures; room = end-room x.self.now x.s.now _ _ })
