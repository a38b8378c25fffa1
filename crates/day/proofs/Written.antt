-- What the checks pass is taken, and so is what our writers made, by a day that takes it next: its head comes by the table, and its fields are read.
use Rattle.std.specs.Prelude.{Result}
use Prim.Native.Nat.{ℕ, ◌≤◌}
use mathlib.Core.Path.{◌≡◌, refl, ◌∙◌}
use mathlib.Core.Bool.{true}
use mathlib.Core.List.{List}
use native.Mathlib.Omega.{arith}
use borrow.Author.Tests.{lt-ltb, le-leb}
use lib.ListN.{length}
use Rattle.terms.specs.Reply.{is, need, next}
use Rattle.terms.specs.Refusals.{reply}
use Rattle.terms.proofs.Replies.{next-is}
use Rattle.records.specs.declared.day.DayRecord.{DayRecord}
use Rattle.records.specs.declared.group.GroupRecord.{GroupRecord}
use Rattle.records.specs.declared.end.EndRecord.{EndRecord}
use Rattle.records.specs.Layouts.{day_length_of, end_kind, end_length}
use Rattle.records.specs.Reading.{key_of, judged_by, day_of, group_head_of, end_head_of, end_fields_of, end_of}
use Rattle.records.proofs.Heads.{head-end}
use Rattle.records.proofs.Read.{day-read, day-ends, group-read}
use Rattle.writers.specs.Columns.{Columns, count}
use Rattle.writers.specs.Results.{result_length}
use Rattle.writers.specs.Writing.{group_over, DayWritten, EndWritten, BlockWritten}
use Rattle.writers.specs.Trips as trips
use Rattle.writers.proofs.Back.{day-back, end_back, block-taken}
use Rattle.walk.specs.declared.table.State.TheVariants.{Fresh, Open}
use Rattle.walk.specs.declared.table.Role.TheVariants as R
use Rattle.walk.specs.declared.table.Head.{Head}
use Rattle.walk.specs.Table.{head_in}
use Rattle.walk.proofs.Coming.{came, day-comes, group-comes, end-comes}
use Rattle.day.specs.declared.value.Day.{Day}
use Rattle.blocks.specs.declared.check.Block.{Block}
use Rattle.day.specs.Days.{opened, counted, closed, could_be_open, possible}
use Rattle.blocks.specs.Checking.{block_of}
use Rattle.blocks.proofs.ByUnits.{units-pass}
use Rattle.day.specs.Checking.{block_fields_of, block_head_for, check_of}
use Rattle.day.specs.Offers.{head_for, day_taken, block_taken, end_taken, offer_of}
use Rattle.day.proofs.ByKind.{offer-day, offer-block, offer-end}
use Rattle.day.proofs.BlockAlone.{block-for}
use Rattle.terms.specs.declared.refusal.Refusal.{Refusal}

module _ (day : Day) (s : List ℕ) (possibly : possible day ≡ true) where
  -- the head of a record that may come
  comes : {head : Head} → head_in s 0 day.state ≡ is head → head_for day s ≡ is head
  unfolding head_for need
  comes {head} e =
      let h = came s 0 day.state head e in
      rw (lt-ltb 0 (length s) (omega (arith, h.past, h.long)), possibly, e)

  module _ (opens : day.state ≡ Open) where
    -- a block whose fields pass is taken where its result has room
    block-fits : {block : Block} {end : ℕ} (room : ℕ) → group_head_of s ≡ is end → block_fields_of day s ≡ is block → block.written ≤ room
        → offer_of day s room ≡ is (record { used = block.used; written = block.written; day = counted day block.key })
    unfolding block_taken next need
    block-fits {block} {end} room e f h =
        offer-block day s (record { role = R.Block; end = end }) (comes (rw opens (group-comes s e))) refl room ∙ simp (f, le-leb block.written room h)

    end-taken : {x : EndRecord} (room : ℕ) → end_of s day.groups ≡ is x → offer_of day s room ≡ is (record { used = end_length; written = 0; day = closed day })
    unfolding end_of end_taken next
    end-taken {x} room e = let a = next-is _ _ e in by a.0 a.1.0 a.1.1
      where
        by : (end : ℕ) → end_head_of s ≡ is end → end_fields_of s day.groups ≡ is x → offer_of day s room ≡ is (record { used = end_length; written = 0; day = closed day })
        by end h f =
            let q : end_length ≡ end = head-end s 0 end_kind end_length h in
            offer-end day s (record { role = R.Closes; end = end }) (comes (rw opens (end-comes s h))) refl room ∙ rw (f, q)

  day-taken : {d : DayRecord} (room : ℕ) → day.state ≡ Fresh → day_of s ≡ is d → offer_of day s room ≡ is (record { used = day_length_of d; written = 0; day = opened d })
  unfolding day_taken next
  day-taken {d} room p e =
      let a = day-read s e in
      let q : day_length_of d ≡ a.end = a.passed.ends ∙ day-ends s a.head in
      offer-day day s (record { role = R.Opens; end = a.end }) (comes (rw p (day-comes s a.head))) refl room ∙ rw (a.fields, q)

-- A block that passes its checks for a day is taken by that day, in a room that its result fits.
pub checked-taken : (day : Day) (s : List ℕ) {block : Block} (room : ℕ) → check_of day s ≡ is block → block.written ≤ room
    → offer_of day s room ≡ is (record { used = block.used; written = block.written; day = counted day block.key })
unfolding check_of block_taken next need
checked-taken day s {block} room e h =
    let p = next-is (block_head_for day s) (λ _. block_fields_of day s) e in
    let b = block-for day s p.1.0 in
    offer-block day s p.0 b.came b.role room ∙ simp (p.1.1, le-leb block.written room h)

module _ {entry exit : List ℕ} {r : Result ℕ Refusal} {n : ℕ} (done : reply r ≡ is n) where
  -- A day record that our writer made opens any fresh day.
  pub day-written : (d : DayRecord) → DayWritten d entry r exit → (day : Day) (room : ℕ) → day.state ≡ Fresh
      → offer_of day exit room ≡ is (record { used = day_length_of d; written = 0; day = opened d })
  day-written d w day room p = day-taken day exit (rw p) room p (day-back done d w).1

  -- An end record that our writer made closes any open day of its count.
  pub end-written : (x : EndRecord) → EndWritten x entry r exit → (day : Day) (room : ℕ) → day.state ≡ Open → could_be_open day ≡ true → x.groups ≡ day.groups
      → offer_of day exit room ≡ is (record { used = end_length; written = 0; day = closed day })
  end-written x w day room p q g = end-taken day exit (rw p q) p room (rw g at (end_back done x w).1)

  -- A block that our writer made is taken by any open day that takes its quarter, its key and its ages, in a room that its result fits.
  pub block_written : (g : GroupRecord) (c : Columns) → BlockWritten g c entry r exit
      → (day : Day) (room : ℕ) → day.state ≡ Open → could_be_open day ≡ true
      → trips.Joins (group_over g c) day.«record» day.last → trips.Fresh c (judged_by (group_over g c) day.«record») → result_length (count c) ≤ room
      → offer_of day exit room
      ≡ is (record { used = n; written = result_length (count c); day = counted day (key_of (group_over g c)) })
  unfolding block_fields_of next
  block_written g c w day room p q joins aged h =
      let t = block-taken g c done w day.«record» day.last joins aged in
      let a = group-read exit day.«record» day.last t.0 in
      let fields : block_fields_of day exit ≡ is (block_of (group_over g c) n) = rw a.fields (units-pass exit _ _ t.1) in
      block-fits day exit (rw p q) p room a.head fields h
