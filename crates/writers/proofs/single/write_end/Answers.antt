-- The end writer: 12 refuses before anything is laid, and then the record lies at the front of the room.
use borrow.Author.Tests.{lt-leb, le-leb}
use Rattle.terms.specs.Reply.{need}
use Rattle.records.specs.Layouts.{end_bytes}
use Rattle.writers.specs.Writing.{write_end_of, room_for}
use Rattle.writers.proofs.Fields.{length-end}
use Rattle.writers.proofs.Writes.{refuses, writes}
use Rattle.writers.proofs.single.write_end.Goals as goal

pub returns-then-room-lt-LEN : goal.returns-then-room-lt-LEN
unfolding write_end_of room_for need
returns-then-room-lt-LEN c = refuses (end_bytes (record { groups = c.args.groups })) c.args.room.now _ c.refused.ensures (simp (lt-leb _ _ c.if-room-lt-LEN.true))

pub returns : goal.returns
unfolding write_end_of room_for need
returns c = writes (end_bytes (record { groups = c.args.groups })) c.args.room.now (simp (le-leb _ _ c.if-room-lt-LEN.false)) (length-end (record { groups = c.args.groups })) (rw c.new.ensures at c.lay_end.ensures)
