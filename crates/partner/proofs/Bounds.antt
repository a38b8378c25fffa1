-- The limits alone decide for whatever comes behind them: where they pass, that is the answer, and else their refusal is; each check hands on what comes behind it.
use Rattle.std.proofs.Common.{ℕ}
use mathlib.Core.Path.{◌≡◌}
use Rattle.terms.specs.Reply.{Reply, is, refused, next}
use Rattle.terms.proofs.Replies.{next-need}
use Rattle.partner.specs.declared.limits.Places.{Places}
use Rattle.partner.specs.declared.line.Line.{Line}
use Rattle.partner.specs.Line.{within}

module _ {A : Type 0} (l : Line) (at : Places) (rest : Reply A) where
  behind : next (within {A = Unit {0}} l at (is tt)) (λ _. rest) ≡ within l at rest
  unfolding within next
  behind = simp next-need

  pub passing : {u : Unit {0}} → within {A = Unit {0}} l at (is tt) ≡ is u → within l at rest ≡ rest
  unfolding next
  passing e = rw (← behind, e)

  pub refusing : {number place : ℕ} → within {A = Unit {0}} l at (is tt) ≡ refused number place → within l at rest ≡ refused number place
  unfolding next
  refusing e = rw (← behind, e)

pub ruleset deciding = (passing, refusing)
