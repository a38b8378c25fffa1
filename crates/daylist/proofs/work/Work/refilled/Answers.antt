-- What a read gave lies behind the bytes at hand, at the front of the buffer where these were moved there.
use Rattle.daylist.proofs.Filling.{behind, behind_moved}
use Rattle.daylist.proofs.work.Work.refilled.Goals as goal

pub returns-then-end-lt-ROOM : goal.returns-then-end-lt-ROOM
returns-then-end-lt-ROOM g c = (behind c.requires.0 c.told-input _ c.if-end-lt-ROOM.true c.read_more.ensures.0, c.read_more.ensures.1)

pub returns : goal.returns
returns g c =
    (behind_moved c.requires.0 c.told-input _ c.copy_within.new.self c.copy_within.ensures.after c.if-end-lt-ROOM.false c.read_more-2.ensures.0, c.read_more-2.ensures.1)
