-- What an offer that was taken was, and what it left: its reply is read back by what the record that came is to the day.
use Prim.Native.Nat.{ℕ, ◌≤◌}
use mathlib.Core.Path.{◌≡◌, refl, sym, ap, ◌∙◌}
use mathlib.Core.Bool.{Bool, true, false}
use mathlib.Core.List.{List, [], ◌++◌}
use native.Mathlib.Omega.{arith}
use borrow.Author.Tests.{leb-true}
use lib.ListN.{length, take, drop}
use lib.Seq.{take_at, drop_at}
use Rattle.numbers.specs.Bytes.{byte_at}
use Rattle.numbers.specs.Choice.{pick}
use Rattle.terms.specs.Reply.{is}
use Rattle.terms.proofs.Replies.{need-is, next-is}
use Rattle.records.specs.Layouts.{group_length, group_at}
use Rattle.records.specs.Reading.{unit_place}
use Rattle.writers.specs.Results.{result_length}
use Rattle.walk.specs.declared.table.Role.{Role}
use Rattle.walk.specs.declared.table.Role.TheVariants.{Opens, Block, Closes}
use Rattle.walk.specs.declared.table.Head.{Head}
use Rattle.walk.specs.Table.{role_of, is_block}
use Rattle.walk.proofs.Coming.{is_block-only}
use Rattle.day.specs.declared.value.Day.{Day}
use Rattle.blocks.specs.declared.check.Block as checked
use Rattle.day.specs.Outcome.{Step}
use Rattle.day.specs.Outcome as O
use Rattle.day.specs.Days.{opened, counted, closed}
use Rattle.blocks.specs.Checking.{block_of}
use Rattle.day.specs.Checking.{block_fields_of}
use Rattle.decode.specs.Block.{block_count}
use Rattle.blocks.specs.Blocks.{block_key, block_result}
use Rattle.day.specs.Offers.{head_for, day_taken, block_taken, end_taken, taken, offer_of, written_of, room_after, Offers}
use Rattle.day.proofs.Read.{read}
use Rattle.day.proofs.Taking.{result-length}
use Rattle.day.proofs.ByKind.{head-came, group-long, offer-block}

-- a block that was taken
pub record TakenBlock (day : Day) (s : List ℕ) (room : ℕ) (step : Step) : Type 0 where
  pub long : group_length ≤ length s
  pub fields : block_fields_of day s ≡ is (block_of (group_at s 0) (unit_place s (block_count s)))
  pub enough : result_length (block_count s) ≤ room
  pub value : step ≡ record { used = unit_place s (block_count s); written = result_length (block_count s); day = counted day (block_key s) }

module _ (day : Day) (s : List ℕ) (room : ℕ) {step : Step} where
  by-fields : group_length ≤ length s → {block : checked.Block} → block_fields_of day s ≡ is block → block.written ≤ room
      → step ≡ record { used = block.used; written = block.written; day = counted day block.key } → TakenBlock day s room step
  by-fields long e h v =
      let r = read day s long e in
      record { long = long; fields = e ∙ ap is r.value; enough = rw r.value at h; value = rw r.value at v }

  from_block : group_length ≤ length s → block_taken day s room ≡ is step → TakenBlock day s room step
  unfolding block_taken
  from_block long e =
      let a = next-is _ _ e in
      let b = need-is _ _ _ _ a.1.1 in
      by-fields long a.1.0 (leb-true a.0.written room b.0) (cc b.1)

  module _ (e : offer_of day s room ≡ is step) where
    head-taken : (head : Head) × ((head_for day s ≡ is head) × (taken day s room head.role head.end ≡ is step))
    unfolding offer_of
    head-taken = next-is _ _ e

    -- the block of a taken offer
    pub taken-block : role_of (byte_at s 0) ≡ Block → TakenBlock day s room step
    taken-block k =
        let a = head-taken in
        let m : a.0.role ≡ Block = sym (head-came day s a.0 a.1.0).first ∙ k in
        from_block (group-long day s a.0 a.1.0 m) (sym (offer-block day s a.0 a.1.0 m room) ∙ e)

    -- a day or an end writes nothing
    day-none : (end : ℕ) → day_taken s end ≡ is step → step.written ≡ 0
    unfolding day_taken
    day-none end h =
        let a = next-is _ _ h in
        let v : step ≡ record { used = end; written = 0; day = opened a.0 } = cc a.1.1 in
        ap (λ (x : Step). x.written) v

    end_none : (end : ℕ) → end_taken day s end ≡ is step → step.written ≡ 0
    unfolding end_taken
    end_none end h =
        let a = next-is _ _ h in
        let v : step ≡ record { used = end; written = 0; day = closed day } = cc a.1.1 in
        ap (λ (x : Step). x.written) v

    none_written : is_block (role_of (byte_at s 0)) ≡ false → step.written ≡ 0
    none_written n =
        let a = head-taken in
        go a.0.role a.0.end (ap is_block (sym (head-came day s a.0 a.1.0).first) ∙ n) a.1.1
      where
        go : (role : Role) (end : ℕ) → is_block role ≡ false → taken day s room role end ≡ is step → step.written ≡ 0
        go Opens end n h = day-none end h
        go Block end n h =
            let z : ◌≡◌ {A = ℕ} 0 1 = cc in
            absurd (omega arith)
        go Closes end n h = end_none end h

    -- what was written is as long as the reply tells
    pub written-length : length (written_of s) ≡ step.written
    written-length = go (is_block (role_of (byte_at s 0))) refl
      where
        go : (b : Bool) → is_block (role_of (byte_at s 0)) ≡ b → length (pick b (block_result s) []) ≡ step.written
        go true q =
            result-length s ∙ sym (ap (λ (x : Step). x.written) (taken-block (is_block-only (role_of (byte_at s 0)) q)).value)
        go false q = sym (none_written q)

-- the room after a taken offer
module _ (day : Day) (s entry : List ℕ) {step : Step} {exit : List ℕ} (o : Offers day s entry (O.Taken step) exit) where
  pub reply : offer_of day s (length entry) ≡ is step
  reply = sym o.gave.replied

  pub laid_out : exit ≡ written_of s ++ drop step.written entry
  unfolding room_after
  laid_out = o.room ∙ rw reply

  pub result-at-front : take step.written exit ≡ written_of s
  result-at-front = ap (take step.written) laid_out ∙ take_at (written_of s) (drop step.written entry) step.written (written-length day s (length entry) reply)

  pub rest-kept : drop step.written exit ≡ drop step.written entry
  rest-kept = ap (drop step.written) laid_out ∙ drop_at (written_of s) (drop step.written entry) step.written (written-length day s (length entry) reply)
