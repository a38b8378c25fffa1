-- `write_line` meets its contract: the limits and 12 refuse before anything is laid, and then the line lies at the front of the room.
use Rattle.std.proofs.Common.{◌≡◌, refl, sym, rules, length, Err}
use Rattle.std.proofs.lemmas.Bool.{lt-leb, le-leb}
use Rattle.terms.specs.Reply.{need}
use Rattle.writers.specs.Writing.{room_for}
use Rattle.writers.proofs.Writes.{refuses, writes}
use Rattle.partner.specs.Line.{line_of, at_zero, write_of}
use Rattle.partner.proofs.Bounds.{passing, refusing}
use Rattle.partner.proofs.write.write_line.Goals as goal

pub returns-in_err-limits : goal.returns-in_err-limits
unfolding write_of
returns-in_err-limits c =
    let l = c.args.l in
    let e : c.from_residual.result ≡ Err c.in_err-limits.field-0.0 = search rules in
    let q = c.in_err-limits.ensures in
    refuses (line_of l) c.args.room.now _ e (refusing l at_zero _ (sym q))

pub returns-then-room-length : goal.returns-then-room-length
unfolding write_of room_for need
returns-then-room-length c =
    let l = c.args.l in
    let room = c.args.room.now in
    let q = c.in_ok-limits.ensures in
    let short = lt-leb (length (line_of l)) (length room) (rw c.line_length-length.ensures at c.if-room-length.true) in
    refuses (line_of l) room _ refl (rw (passing l at_zero _ (sym q), short))

pub returns : goal.returns
unfolding write_of room_for need
returns c =
    let l = c.args.l in
    let room = c.args.room.now in
    let e = c.line_length-length.ensures in
    let q = c.in_ok-limits.ensures in
    let long = le-leb (length (line_of l)) (length room) (rw e at c.if-room-length.false) in
    writes (line_of l) room (rw (passing l at_zero _ (sym q), long, e)) (sym e) c.lay_line.ensures
