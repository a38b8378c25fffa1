-- What was taken, written again from the values that the layouts read, gives the bytes used: its head and fields are those that the readers' round trips start from.
use Rattle.std.specs.Prelude.{Result}
use Prim.Native.Nat.{ℕ, ◌+◌, ◌≤◌}
use mathlib.Core.Path.{◌≡◌, sym, ap, ◌∙◌}
use mathlib.Core.Bool.{true, not}
use mathlib.Core.List.{List}
use native.Mathlib.Omega.{arith}
use lib.Dec.{eqb, ltb}
use lib.ListN.{length, take}
use Rattle.numbers.specs.Bytes.{Bytes, byte_at}
use Rattle.numbers.proofs.Choices.{and_both}
use Rattle.terms.specs.Reply.{is, next}
use Rattle.terms.specs.Refusals.{reply}
use Rattle.terms.proofs.Replies.{need-is, next-is}
use Rattle.records.specs.Layouts.{day_at, day_length_of, group_at, end_length, end_at}
use Rattle.records.specs.Reading.{permitted, day_fields_of, day_of, group_of, end_fields_of, end_of, unit_place}
use Rattle.records.proofs.Read.{day-passed}
use Rattle.writers.specs.Columns.{columns_in}
use Rattle.writers.specs.Writing.{DayWritten, EndWritten, BlockWritten}
use Rattle.writers.proofs.Again.{day-again, end-again}
use Rattle.writers.proofs.BlockAgain.{block-again}
use Rattle.walk.specs.declared.table.State.TheVariants.{Open}
use Rattle.walk.specs.declared.table.Role.{Role}
use Rattle.walk.specs.declared.table.Role.TheVariants.{Opens, Block, Closes}
use Rattle.walk.specs.declared.table.Head.{Head}
use Rattle.walk.specs.Table.{role_of}
use Rattle.walk.proofs.Coming.{length_in, block-open, head_as, own-head}
use Rattle.decode.specs.Block.{block_count}
use Rattle.day.specs.declared.value.Day.{Day}
use Rattle.day.specs.Outcome.{Step}
use Rattle.day.specs.Outcome as O
use Rattle.day.specs.Days.{opened, closed, could_be_open, possible}
use Rattle.day.specs.Offers.{head_for, day_taken, end_taken, taken, offer_of, Offers}
use Rattle.day.proofs.ByKind.{head_read, head-came, offer-day, offer-end}
use Rattle.day.proofs.Read.{read}
use Rattle.day.proofs.Outcomes.{taken-block}
use Rattle.day.proofs.Outcomes as outcomes
use Rattle.terms.specs.declared.refusal.Refusal.{Refusal}

module _ (day : Day) (s : List ℕ) (head : Head) (e : head_for day s ≡ is head) where
  -- the head that came is its record's own
  own : (role : Role) → head.role ≡ role → head_as role s ≡ is head.end
  own = own-head s day.state head (head_read day s head e)

  quarters-permitted : day.state ≡ Open → permitted day.«record».quarters ≡ true
  unfolding head_for
  quarters-permitted p =
      let q : could_be_open day ≡ true = rw p at (need-is (possible day) 2 0 _ (need-is (ltb 0 (length s)) 1 (length s) _ e).1).0 in
      (and_both (not (eqb day.groups 4294967295)) (permitted day.«record».quarters) q).1

module _ (day : Day) (s entry : List ℕ) {step : Step} {exit : List ℕ} (o : Offers day s entry (O.Taken step) exit) where
  came : (head : Head) × ((head_for day s ≡ is head) × (taken day s (length entry) head.role head.end ≡ is step))
  unfolding offer_of
  came = next-is _ _ (outcomes.reply day s entry o)

  role-is : (role : Role) → role_of (byte_at s 0) ≡ role → came.0.role ≡ role
  role-is role k = sym (head-came day s came.0 came.1.0).first ∙ k

  module _ (small : Bytes s) (room : List ℕ) {left : List ℕ} {r : Result ℕ Refusal} (fits : step.used ≤ length room) where
    -- A day record that was taken is what the writer makes of its values.
    pub day-same : role_of (byte_at s 0) ≡ Opens → DayWritten (day_at s 0) room r left
        → (reply r ≡ is step.used) × (take step.used left ≡ take step.used s)
    unfolding day_taken day_of next
    day-same k w =
        let q = role-is Opens k in
        let h = head-came day s came.0 came.1.0 in
        let a = next-is (day_fields_of s) _ (sym (offer-day day s came.0 came.1.0 q (length entry)) ∙ outcomes.reply day s entry o) in
        let v : step ≡ record { used = came.0.end; written = 0; day = opened a.0 } = cc a.1.1 in
        let d = (day-passed s a.1.0).value in
        let u : step.used ≡ day_length_of (day_at s 0) = ap (λ (x : Step). x.used) v ∙ h.end ∙ ap (λ (x : Role). 0 + length_in x s 0) q in
        let e : day_of s ≡ is (day_at s 0) = rw (own day s came.0 came.1.0 Opens q) (a.1.0 ∙ ap is d) in
        rw u (day-again s small (day_at s 0) e (omega arith) w)

    -- An end record that was taken is what the writer makes of its count.
    pub end_same : role_of (byte_at s 0) ≡ Closes → EndWritten (end_at s 0) room r left
        → (reply r ≡ is step.used) × (take step.used left ≡ take step.used s)
    unfolding end_taken end_of end_fields_of next
    end_same k w =
        let q = role-is Closes k in
        let h = head-came day s came.0 came.1.0 in
        let a = next-is (end_fields_of s day.groups) _ (sym (offer-end day s came.0 came.1.0 q (length entry)) ∙ outcomes.reply day s entry o) in
        let v : step ≡ record { used = came.0.end; written = 0; day = closed day } = cc a.1.1 in
        let x : a.0 ≡ end_at s 0 = cc (need-is _ _ _ _ a.1.0).1 in
        let u : step.used ≡ end_length = ap (λ (y : Step). y.used) v ∙ h.end ∙ ap (λ (y : Role). 0 + length_in y s 0) q in
        let e : end_of s day.groups ≡ is (end_at s 0) = rw (own day s came.0 came.1.0 Closes q) (a.1.0 ∙ ap is x) in
        rw u (end-again s small (end_at s 0) day.groups e (omega arith) w)

    -- A block that was taken is what the writer makes of its values as columns.
    pub block_same : role_of (byte_at s 0) ≡ Block
        → BlockWritten (group_at s 0) (columns_in s (block_count s)) room r left
        → (reply r ≡ is step.used) × (take step.used left ≡ take step.used s)
    unfolding group_of next
    block_same k w =
        let q = role-is Block k in
        let head = came.0 in
        let c = came.1.0 in
        let t = taken-block day s (length entry) (outcomes.reply day s entry o) k in
        let b = read day s t.long t.fields in
        let u : step.used ≡ unit_place s (block_count s) = ap (λ (x : Step). x.used) t.value in
        let e : group_of s day.«record» day.last ≡ is (group_at s 0) = rw (own day s head c Block q) b.group in
        let p = quarters-permitted day s head c (block-open day.state head.role (head-came day s head c).which q) in
        rw u (block-again s small day.«record» day.last (group_at s 0) p e b.units (omega arith) w)
