-- A writer's two ends: what it refused left the room as it was, and what it laid at the front of the room is its record and then the rest.
use Rattle.std.specs.Prelude.{Result, Ok, Err}
use Prim.Native.Nat.{ℕ}
use mathlib.Core.Path.{◌≡◌, sym, ap, ◌∙◌}
use mathlib.Core.List.{List}
use lib.ListN.{length}
use Rattle.numbers.specs.Bytes.{laid_at}
use Rattle.numbers.proofs.Laid.{laid-front}
use Rattle.terms.specs.Reply.{Reply, is}
use Rattle.terms.specs.Refusals.{reply, refusal}
use Rattle.terms.specs.declared.refusal.Refusal.{Refusal}
use Rattle.writers.specs.Writing.{Wrote, laid}

module _ {right : Reply ℕ} (bytes entry : List ℕ) where
  pub refuses : {r : Result ℕ Refusal} (f : Refusal) → r ≡ Err f → right ≡ refusal f → Wrote right bytes entry r entry
  unfolding laid
  refuses f e q = record { replied = ap reply e ∙ sym q; room = rw q }

  pub writes : {exit : List ℕ} {n : ℕ} → right ≡ is n → length bytes ≡ n → exit ≡ laid_at entry 0 bytes → Wrote right bytes entry (Ok n) exit
  unfolding laid
  writes {exit} {n} q l e = record { replied = sym q; room = rw (q, e, laid-front, l) }
