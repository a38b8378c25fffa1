-- `list_next` meets its contract, answer by answer: the lines stand in the front of the room, and the rest is as it was.
use Rattle.std.proofs.Common.{sym, ◌∙◌, take-append-drop, ◌≡◌, ◌++◌, length, drop, rules}
use Rattle.lines.specs.Lines.{longest_lines}
use Rattle.listing.proofs.Replies.{when-full, when-done, offered, in-front}
use Rattle.listing.proofs.list.list_next.Goals as goal

pub returns-in_default : goal.returns-in_default
returns-in_default c =
    let a = c.args in
    when-full a.l a.s.now a.ended a.room.now c.in_default.ensures.cases

pub returns-then-is_done : goal.returns-then-is_done
returns-then-is_done c =
    let a = c.args in
    let front = c.in-Some.ensures.cases in
    rw (front.same, take-append-drop) (when-done a.l a.s.now a.ended a.room.now front.enough (sym c.is_done.ensures ∙ c.if-is_done.true))

pub returns : goal.returns
returns c =
    let a = c.args in
    let front = c.in-Some.ensures.cases in
    let kept : length (c.list_offer.new.room ++ drop longest_lines a.room.now) ≡ length a.room.now = search rules in
    in-front front kept (rw (offered a.l a.s.now a.ended a.room.now front.enough (sym c.is_done.ensures ∙ c.if-is_done.false)) c.list_offer.ensures)
