use Rattle.numbers.proofs.Spelling.{Spelling}
use Rattle.numbers.proofs.decimal.lay_digits.Given as goal

abbrev pub invariant-loop-rest : goal.invariant-loop-rest
invariant-loop-rest l = Spelling l.n l.at l.initial.out l.out l.last l.rest

abbrev pub decreases-loop-rest : goal.decreases-loop-rest
decreases-loop-rest l = l.rest
