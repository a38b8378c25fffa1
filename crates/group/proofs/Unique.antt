-- The contract of the columns call leaves one reply and one content of each written column: both sides are equations, and two judgements with one reply are one.
use mathlib.Core.Path.{sym, ◌∙◌}
use mathlib.Core.List.{List}
use lib.IntN.{ℤ}
use Rattle.terms.specs.Refusals.{reply}
use Rattle.terms.proofs.Same.{reply-same}
use Rattle.group.specs.Group.{Group}
use Rattle.group.specs.Columns.{Judges, SameOutcome}
use Rattle.std.proofs.Common.{Result}
use Rattle.terms.specs.declared.refusal.Refusal.{Refusal}
use Rattle.group.specs.declared.judge.Sums.{Sums}

pub judge-unique : (g : Group) (first second third : List ℤ) (r q : Result Sums Refusal) {x1 y1 x2 y2 x3 y3 : List ℤ}
    → Judges g first second third (reply r) x1 x2 x3 → Judges g first second third (reply q) y1 y2 y3
    → SameOutcome r q x1 y1 x2 y2 x3 y3
judge-unique g first second third r q a b =
    record {
      reply = reply-same r q (a.replied ∙ sym b.replied);
      first = a.clamped ∙ sym b.clamped;
      second = a.cut ∙ sym b.cut;
      third = a.stretched ∙ sym b.stretched;
    }
