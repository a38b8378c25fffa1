-- Another party's block: what is written for a block is its result, which depends on its own bytes alone, in whichever day it stands.
use Prim.Native.Nat.{ℕ}
use mathlib.Core.Path.{◌≡◌, sym, ap, ◌∙◌}
use mathlib.Core.List.Memᴰ
use mathlib.Core.List.{List, [], ◌∷◌, ◌++◌, Memᴰ}
use mathlib.Core.Logic.{⊎_elim}
use Rattle.records.specs.Reading.{follows, group_fields_of}
use Rattle.day.specs.declared.value.Day.{Day}
use Rattle.day.specs.Checking.{block_fields_of}
use Rattle.blocks.specs.Blocks.{block_key}
use Rattle.day.specs.Offers.{written_of}
use Rattle.day.specs.WholeDays.{Part, part, Run, none, more, AcceptedDay}
use Rattle.day.proofs.Outcomes.{result-at-front}

-- each part of a run has its own result
part-result : {day end : Day} {parts : List Part} (p : Part) → Run day parts end → Memᴰ p parts → p.result ≡ written_of p.bytes
part-result p none m = absurd (Memᴰ.not-nil m)
part-result {day} p (more {s = s} {entry = entry} o u run) m =
    ⊎_elim (λ e. ap (λ (q : Part). q.result) e ∙ result-at-front day s entry o ∙ sym (ap (λ (q : Part). written_of q.bytes) e)) (λ n. part-result p run n) (Memᴰ.cases_cons m)

front : {X : Type 0} {x : X} (xs ys : List X) → Memᴰ x xs → Memᴰ x (xs ++ ys)
front [] ys m = absurd (Memᴰ.not-nil m)
front (a ∷ xs) ys m = ⊎_elim (λ e. Memᴰ.head e) (λ n. Memᴰ.tail (front xs ys n)) (Memᴰ.cases_cons m)

block-result : {day : List ℕ} {blocks : List Part} {end : List ℕ} (p : Part) → AcceptedDay day blocks end → Memᴰ p blocks → p.result ≡ written_of p.bytes
block-result {day} {blocks} {end} p a m = part-result p a.run (Memᴰ.tail (front blocks (part end [] ∷ []) m))

-- Given two accepted days with the same day record, a block that stands in both has the same result bytes, however other blocks differ.
pub result-in-both : (day : List ℕ) (blocks others : List Part) (end other-end : List ℕ) → AcceptedDay day blocks end → AcceptedDay day others other-end
    → (s x y : List ℕ) → Memᴰ (part s x) blocks → Memᴰ (part s y) others → x ≡ y
result-in-both day blocks others end other-end a b s x y m n = block-result (part s x) a m ∙ sym (block-result (part s y) b n)

-- Refusal 13 may depend on other blocks, and no other check of a block does.
pub block-only-13 : (a b : Day) (s : List ℕ) → a.«record» ≡ b.«record» → follows a.last (block_key s) ≡ follows b.last (block_key s)
    → block_fields_of a s ≡ block_fields_of b s
unfolding block_fields_of group_fields_of
block-only-13 a b s d f = rw (d, f)
