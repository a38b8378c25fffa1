-- `fill_summed` meets its contract: the total is the sum of the entries laid.
use Rattle.std.proofs.Common.{arith}
use Rattle.numbers.proofs.Sums.{sum_folded}
use Rattle.numbers.proofs.each.fill_summed.Goals as goal

pub returns-clause-sum : goal.returns-clause-sum
returns-clause-sum g c = sum_folded c.loop-i.out c.loop-i.i _ (omega arith) c.loop-i.invariant.sum
