-- What a reader accepted, written again from its values, gives the same bytes: each record is laid as the bytes that it was read from.
use Rattle.std.specs.Prelude.{Result}
use Prim.Native.Nat.{ℕ, ◌≤◌}
use mathlib.Core.Path.{◌≡◌, sym, ◌∙◌}
use mathlib.Core.List.{List, ◌++◌}
use lib.Dec.{eqb}
use lib.ListN.{length, take, drop}
use lib.Seq.{take_at}
use borrow.Author.Tests.{le-leb}
use Rattle.numbers.specs.Bytes.{Bytes}
use Rattle.terms.specs.Reply.{Reply, is, need}
use Rattle.terms.specs.Refusals.{reply}
use Rattle.terms.proofs.Replies.{next-is}
use Rattle.records.specs.declared.day.DayRecord.{DayRecord}
use Rattle.records.specs.declared.end.EndRecord.{EndRecord}
use Rattle.records.specs.Layouts.{day_bytes, day_length_of, end_length, end_groups, end_at, end_bytes}
use Rattle.records.specs.Reading.{day_of, end_fields_of, end_of}
use Rattle.records.proofs.Fields.{field_in}
use Rattle.records.proofs.Read.{day-read}
use Rattle.writers.specs.Writing.{Wrote, laid, room_for, write_day_of, DayWritten, write_end_of, EndWritten}
use Rattle.writers.proofs.Fields.{length-day, day-laid, length-end, end-laid}
use Rattle.terms.specs.declared.refusal.Refusal.{Refusal}

-- a writer that takes the values leaves these bytes in the room
pub written : {right : Reply ℕ} (bytes entry : List ℕ) {r : Result ℕ Refusal} {exit : List ℕ} (n : ℕ) (s : List ℕ) → Wrote right bytes entry r exit → right ≡ is n
    → length bytes ≡ n → bytes ≡ take n s → (reply r ≡ is n) × (take n exit ≡ take n s)
unfolding laid
written bytes entry {r} {exit} n s w q l e =
    let x : exit ≡ bytes ++ drop n entry = w.room ∙ rw q in
    (w.replied ∙ q, rw x (take_at bytes (drop n entry) n l ∙ e))

module _ (s : List ℕ) (small : Bytes s) {entry exit : List ℕ} {r : Result ℕ Refusal} where
  pub day-again : (d : DayRecord) → day_of s ≡ is d → day_length_of d ≤ length entry → DayWritten d entry r exit
      → (reply r ≡ is (day_length_of d)) × (take (day_length_of d) exit ≡ take (day_length_of d) s)
  unfolding write_day_of room_for need
  day-again d e h w =
      let a = day-read s e in
      let l = rw (← a.passed.value) at (day-laid s small a.head) in
      written (day_bytes d) entry (day_length_of d) s w (simp (a.passed.quarters, le-leb (day_length_of d) (length entry) h)) (length-day d) l

  pub end-again : (x : EndRecord) (groups : ℕ) → end_of s groups ≡ is x → end_length ≤ length entry → EndWritten x entry r exit
      → (reply r ≡ is end_length) × (take end_length exit ≡ take end_length s)
  unfolding end_of end_fields_of write_end_of room_for need
  end-again x groups e h w =
      let a = next-is _ _ e in
      let b = field_in (eqb (end_at s 0).groups groups) 14 end_groups.place (end_at s 0) (sym a.1.1) in
      let l = rw (← b.1) at (end-laid s small a.1.0) in
      written (end_bytes x) entry end_length s w (simp (le-leb end_length (length entry) h)) (length-end x) l
