-- Each test in turn: one that fails is the answer, and past one that passed what is left is the rest.
use Rattle.std.proofs.Common.{◌≡◌, rules, sym, ap, ◌∙◌}
use Rattle.std.specs.Prelude.{Err}
use borrow.Author.Tests.{lt-leb, le-leb}
use Rattle.terms.specs.Reply.{need, next}
use Rattle.terms.specs.Refusals.{reply}
use Rattle.writers.specs.Units.{listed}
use Rattle.writers.specs.Writing.{write_block_of, room_for}
use Rattle.writers.proofs.Accepted.{level_even, grouped}
use Rattle.writers.proofs.block.check_block.Goals as goal

pub returns-in_err-check_group : goal.returns-in_err-check_group
unfolding write_block_of need next
returns-in_err-check_group c =
    let evenly = level_even (listed c.args.units) c.args.units.level in
    let q : c.from_residual.result ≡ Err c.in_err-check_group.field-0.0 = search rules in
    rw q (simp (evenly, sym (rw c.count.ensures at c.check_group.ensures) ∙ ap reply c.in_err-check_group.was))

pub check-requires : goal.check-requires
check-requires c = (grouped _ _ (sym (rw c.count.ensures at c.check_group.ensures) ∙ ap reply c.in_ok-check_group.was)).few

pub returns-in_err-bytes : goal.returns-in_err-bytes
unfolding write_block_of need next
returns-in_err-bytes c =
    let evenly = level_even (listed c.args.units) c.args.units.level in
    let some = sym (rw c.count.ensures at c.check_group.ensures) ∙ ap reply c.in_ok-check_group.was in
    let q : c.from_residual-in_err-bytes.result ≡ Err c.in_err-bytes.field-0.0 = search rules in
    rw q (simp (evenly, some, sym c.check.ensures ∙ ap reply c.in_err-bytes.was))

pub returns-then-room-bytes : goal.returns-then-room-bytes
unfolding write_block_of room_for need next
returns-then-room-bytes c =
    let evenly = level_even (listed c.args.units) c.args.units.level in
    let some = sym (rw c.count.ensures at c.check_group.ensures) ∙ ap reply c.in_ok-check_group.was in
    let all = sym c.check.ensures ∙ ap reply c.in_ok-bytes.was in
    rw c.refused.ensures (simp (evenly, some, all, lt-leb _ _ c.if-room-bytes.true))

pub returns : goal.returns
unfolding write_block_of room_for need next
returns c =
    let evenly = level_even (listed c.args.units) c.args.units.level in
    let some = sym (rw c.count.ensures at c.check_group.ensures) ∙ ap reply c.in_ok-check_group.was in
    let all = sym c.check.ensures ∙ ap reply c.in_ok-bytes.was in
    simp (evenly, some, all, le-leb _ _ c.if-room-bytes.false)
