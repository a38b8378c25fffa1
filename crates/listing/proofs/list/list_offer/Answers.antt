-- `list_offer` meets its contract: the lines are those of what the day answered.
use Rattle.std.proofs.Common.{sym, ◌∙◌, refl}
use Rattle.listing.proofs.Replies.{readable, taken, at-hand, refused}
use Rattle.listing.proofs.list.list_offer.Goals as goal

pub bounds-s-0 : goal.bounds-s-0
bounds-s-0 c = at-hand c.args.l.day c.args.s.now _ refl c.in-Ok.ensures

pub list_taken-requires : goal.list_taken-requires
list_taken-requires c = λ k. readable c.args.l.day c.args.s.now _ refl c.in-Ok.ensures (sym c.role_of.ensures ∙ k)

pub returns-in-Ok : goal.returns-in-Ok
returns-in-Ok c =
    let x = c.args in
    rw (sym (taken x.l.day x.s.now _ refl c.in-Ok.ensures x.l.place x.ended), ← c.role_of.ensures) c.list_taken.ensures

pub returns-in-Err : goal.returns-in-Err
returns-in-Err c =
    let x = c.args in
    rw (sym (refused x.l.day x.s.now _ refl _ _ c.in-Err.ensures x.l.place x.ended)) c.list_refused.ensures
