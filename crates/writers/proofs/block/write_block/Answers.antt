-- The block writer: what is refused leaves the room as it was, and what is accepted lies at the front of the room.
use Rattle.std.proofs.Common.{rules, ◌≡◌, ℕ, sym, ap, ◌∙◌, arith}
use Rattle.std.specs.Prelude.{Result, Ok, Err}
use Rattle.numbers.specs.Bytes.{laid_at}
use Rattle.numbers.proofs.Laid.{laid_next}
use Rattle.terms.specs.Refusals.{reply}
use Rattle.terms.specs.declared.refusal.Refusal.{Refusal}
use Rattle.records.specs.declared.group.GroupRecord.{GroupRecord}
use Rattle.records.specs.Layouts.{group_length, group_with, group_bytes}
use Rattle.writers.specs.declared.units.Units.{Units}
use Rattle.writers.specs.Columns.{Columns, columns, count}
use Rattle.writers.specs.Units.{listed}
use Rattle.writers.specs.Writing.{units_bytes, block_bytes, block_length, write_block_of}
use Rattle.writers.proofs.Lengths.{length-units, length-block, end-from}
use Rattle.writers.proofs.Fields.{length-group}
use Rattle.writers.proofs.Accepted.{Accepted, accepted, asked, uneven, levelled}
use Rattle.writers.proofs.Writes.{refuses, writes}
use Rattle.writers.proofs.block.write_block.Goals as goal

-- what was told of the level columns holds of those that were given
told-of : (g : GroupRecord) (k : Columns) (u : Units) (room : ℕ) (r : Result ℕ Refusal) → listed u ≡ k → reply r ≡ write_block_of g (listed u) room
    → reply r ≡ write_block_of g k room
told-of g k u room r e h = h ∙ ap (λ (x : Columns). write_block_of g x room) e

taken : (g : GroupRecord) (k : Columns) (u : Units) (room n : ℕ) (r : Result ℕ Refusal) → listed u ≡ k → reply r ≡ write_block_of g (listed u) room → r ≡ Ok n
    → Accepted g k room n
taken g k u room n r e h was = accepted g k room (sym (told-of g k u room r e h) ∙ ap reply was)

pub returns-in_err-units : goal.returns-in_err-units
returns-in_err-units c =
    let e = rw c.in_err-units.was at c.level.ensures in
    let q : c.from_residual.result ≡ Err c.in_err-units.field-0.0 = search rules in
    refuses _ _ _ q (uneven _ _ _ _ e.0 e.1)

pub returns-in_err-bytes : goal.returns-in_err-bytes
returns-in_err-bytes c =
    let a = c.args in
    let k = columns a.number.now a.class.now a.coincide.now a.nominated.now a.n.now a.pc.now a.step_down.now a.step_up.now a.margins_made.now a.kind.now a.lower.now a.upper.now in
    let u = c.in_ok-units.units in
    let same = levelled _ u k _ c.in_ok-units.was c.level.ensures in
    let q : c.from_residual-in_err-bytes.result ≡ Err c.in_err-bytes.field-0.0 = search rules in
    refuses _ _ _ q (asked k _ c.new-group.ensures (told-of _ k u _ _ same c.check_block.ensures) ∙ ap reply c.in_err-bytes.was)

pub overflow_cast-count : goal.overflow_cast-count
overflow_cast-count c =
    let a = c.args in
    let k = columns a.number.now a.class.now a.coincide.now a.nominated.now a.n.now a.pc.now a.step_down.now a.step_up.now a.margins_made.now a.kind.now a.lower.now a.upper.now in
    let u = c.in_ok-units.units in
    let same = levelled _ u k _ c.in_ok-units.was c.level.ensures in
    let took = taken _ k u _ _ _ same c.check_block.ensures c.in_ok-bytes.was in
    omega (arith, c.count.ensures, ap count same, took.group.few)

pub lay_group-requires : goal.lay_group-requires
lay_group-requires c =
    let a = c.args in
    let k = columns a.number.now a.class.now a.coincide.now a.nominated.now a.n.now a.pc.now a.step_down.now a.step_up.now a.margins_made.now a.kind.now a.lower.now a.upper.now in
    let u = c.in_ok-units.units in
    let same = levelled _ u k _ c.in_ok-units.was c.level.ensures in
    let took = taken _ k u _ _ _ same c.check_block.ensures c.in_ok-bytes.was in
    omega (arith, took.bytes, took.enough, end-from k (count k))

pub lay-requires : goal.lay-requires
lay-requires c =
    let a = c.args in
    let k = columns a.number.now a.class.now a.coincide.now a.nominated.now a.n.now a.pc.now a.step_down.now a.step_up.now a.margins_made.now a.kind.now a.lower.now a.upper.now in
    let u = c.in_ok-units.units in
    let same = levelled _ u k _ c.in_ok-units.was c.level.ensures in
    let took = taken _ k u _ _ _ same c.check_block.ensures c.in_ok-bytes.was in
    omega (arith, took.bytes, took.enough, ap block_length same)

pub returns : goal.returns
unfolding block_bytes
returns c =
    let a = c.args in
    let k = columns a.number.now a.class.now a.coincide.now a.nominated.now a.n.now a.pc.now a.step_down.now a.step_up.now a.margins_made.now a.kind.now a.lower.now a.upper.now in
    let u = c.in_ok-units.units in
    let same = levelled _ u k _ c.in_ok-units.was c.level.ensures in
    let took = taken _ k u _ _ _ same c.check_block.ensures c.in_ok-bytes.was in
    let room = a.room.now in
    let n = c.count.ensures ∙ ap count same in
    let put = rw (c.new.ensures, n) at c.lay_group.ensures in
    let rest = c.lay.ensures ∙ ap (λ (x : Columns). laid_at c.lay_group.new.room group_length (units_bytes x (count x))) same in
    let g = group_with a.brp a.zone a.quarter (count k) a.made in
    let all =
    laid_next room 0 (group_bytes g) group_length (units_bytes k (count k)) put rest (omega (arith, length-group g)) (omega (arith, took.bytes, took.enough, length-units k (count k), length-group g))
    in writes (block_bytes g k) room (asked k _ c.new-group.ensures (told-of _ k u _ _ same c.check_block.ensures) ∙ ap reply c.in_ok-bytes.was) (length-block g k ∙ sym took.bytes) all
