-- Each call's contract leaves one answer and one room: both are equal to the same definition of what was given.
use Rattle.std.specs.Prelude.{Result}
use Prim.Native.Nat.{ℕ}
use mathlib.Core.Path.{◌≡◌, sym, ◌∙◌}
use mathlib.Core.List.{List}
use Rattle.terms.specs.Reply.{Reply}
use Rattle.terms.proofs.Same.{reply-same}
use Rattle.records.specs.declared.day.DayRecord.{DayRecord}
use Rattle.records.specs.declared.group.GroupRecord.{GroupRecord}
use Rattle.records.specs.declared.end.EndRecord.{EndRecord}
use Rattle.writers.specs.Columns.{Columns}
use Rattle.writers.specs.Writing.{Wrote, DayWritten, EndWritten, BlockWritten}
use Rattle.terms.specs.declared.refusal.Refusal.{Refusal}

module _ (entry : List ℕ) {r q : Result ℕ Refusal} {exit other : List ℕ} where
  pub wrote-unique : {right : Reply ℕ} {bytes : List ℕ} → Wrote right bytes entry r exit → Wrote right bytes entry q other → (r ≡ q) × (exit ≡ other)
  wrote-unique a b = (reply-same r q (a.replied ∙ sym b.replied), a.room ∙ sym b.room)

  pub write-day-unique : (d : DayRecord) → DayWritten d entry r exit → DayWritten d entry q other → (r ≡ q) × (exit ≡ other)
  write-day-unique d a b = wrote-unique a b

  pub write-end-unique : (e : EndRecord) → EndWritten e entry r exit → EndWritten e entry q other → (r ≡ q) × (exit ≡ other)
  write-end-unique e a b = wrote-unique a b

  pub write-block-unique : (g : GroupRecord) (c : Columns) → BlockWritten g c entry r exit → BlockWritten g c entry q other → (r ≡ q) × (exit ≡ other)
  write-block-unique g c a b = wrote-unique a b
