-- Each call's contract leaves one answer, and of the writer one room: two answers with one reply are one answer.
use Rattle.std.specs.Prelude.{ℕ, List, Result}
use Rattle.std.proofs.Common.{◌≡◌, sym, ◌∙◌}
use Rattle.terms.specs.Refusals.{reply}
use Rattle.terms.specs.declared.refusal.Refusal.{Refusal}
use Rattle.terms.proofs.Same.{reply-same}
use Rattle.writers.proofs.Unique.{wrote-unique}
use Rattle.partner.specs.declared.line.Line.{Line}
use Rattle.partner.specs.declared.line.LineRead.{LineRead}
use Rattle.partner.specs.Line.{read_of, LineWritten}

pub line-answer-same : (a b : Result LineRead Refusal) → reply a ≡ reply b → a ≡ b
line-answer-same = reply-same

pub read-line-unique : (s : List ℕ) (a b : Result LineRead Refusal) → reply a ≡ read_of s → reply b ≡ read_of s → a ≡ b
read-line-unique s a b p q = line-answer-same a b (p ∙ sym q)

pub write-line-unique : (l : Line) (entry : List ℕ) {r q : Result ℕ Refusal} {exit other : List ℕ} → LineWritten l entry r exit → LineWritten l entry q other → (r ≡ q) × (exit ≡ other)
write-line-unique l entry a b = wrote-unique entry a b
