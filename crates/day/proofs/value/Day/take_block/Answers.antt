-- `take_block` meets its contract: the units' refusal or 12, and the result of a block that passed.
use Rattle.std.proofs.Common.{sym, ap, ◌∙◌, ◌≡◌, rules, Err}
use Rattle.terms.specs.Refusals.{reply}
use Rattle.terms.specs.Reply.{next}
use Rattle.blocks.specs.Inner.{block_after}
use Rattle.records.proofs.Read.{group-passed}
use Rattle.blocks.proofs.Telling.{took-long}
use Rattle.day.proofs.Counting.{block-then}
use Rattle.day.proofs.Taking.{refuses-room, takes-room, result-length}
use Rattle.day.proofs.value.Day.take_block.Goals as goal

pub take_units-requires : goal.take_units-requires
take_units-requires c =
    let x = c.args in
    let p = group-passed x.s.now x.self.now.«record» x.self.now.last (sym c.group_fields.ensures ∙ ap reply c.in_ok-group.was) in
    (record { long = c.requires.0; few = p.most }, p.value)

pub returns-in_err-block : goal.returns-in_err-block
unfolding next block_after
returns-in_err-block c =
    let x = c.args in
    let t = c.take_units.ensures in
    let e = sym c.group_fields.ensures ∙ ap reply c.in_ok-group.was in
    let right = block-then x.self.now x.s.now _ x.room.now e in
    let no = sym t.replied ∙ ap reply c.in_err-block.was in
    let told : c.from_residual-in_err-block.result ≡ Err c.in_err-block.field-0.0 = search rules in
    rw (t.room, no, told) (refuses-room _ _ _ _ (right ∙ rw no))

pub returns : goal.returns
unfolding next block_after
returns c =
    let x = c.args in
    let e = sym c.group_fields.ensures ∙ ap reply c.in_ok-group.was in
    let t = c.take_units.ensures in
    let right = block-then x.self.now x.s.now _ x.room.now e in
    let yes = sym t.replied ∙ ap reply c.in_ok-block.was in
    let wrote = rw yes at t.room in
    let p = group-passed x.s.now x.self.now.«record» x.self.now.last e in
    let l = took-long x.s.now _ x.self.now.«record» x.room.now (sym yes) p.value in
    takes-room _ _ _ _ (right ∙ rw (yes, c.counted.ensures)) (result-length x.s.now ∙ sym l) wrote
