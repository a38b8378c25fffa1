-- The day writer: 3 and 12 refuse before anything is laid, and then the record lies at the front of the room, as long as it says.
use mathlib.Core.Path.{sym, ◌∙◌}
use borrow.Author.Tests.{lt-leb, le-leb}
use Rattle.terms.specs.Reply.{need}
use Rattle.records.specs.Layouts.{day_bytes}
use Rattle.writers.specs.Writing.{write_day_of, room_for}
use Rattle.writers.proofs.Fields.{length-day}
use Rattle.writers.proofs.Writes.{refuses, writes}
use Rattle.writers.proofs.single.write_day.Goals as goal

pub returns-then-not-permits : goal.returns-then-not-permits
unfolding write_day_of need
returns-then-not-permits c =
    let q = sym c.permits.ensures ∙ c.if-not-permits.true in
    refuses (day_bytes c.args.d) c.args.room.now _ c.refused.ensures (simp q)

pub returns-then-room-len : goal.returns-then-room-len
unfolding write_day_of room_for need
returns-then-room-len c =
    let q = sym c.permits.ensures ∙ c.if-not-permits.false in
    let short = rw c.length-len.ensures at c.if-room-len.true in
    refuses (day_bytes c.args.d) c.args.room.now _ c.refused-then-room-len.ensures (simp (q, lt-leb _ _ short))

pub returns : goal.returns
unfolding write_day_of room_for need
returns c =
    let q = sym c.permits.ensures ∙ c.if-not-permits.false in
    let fits = rw c.length-len.ensures at c.if-room-len.false in
    rw c.length-len.ensures
    (writes (day_bytes c.args.d) c.args.room.now (simp (q, le-leb _ _ fits)) (length-day c.args.d) c.lay_day.ensures)
