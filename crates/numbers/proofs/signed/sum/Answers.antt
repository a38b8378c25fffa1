-- `sum` meets its contract: after so many turns the total is the sum of so many entries, within 1,000,000 for each.
use Rattle.std.proofs.Common.{arith}
use Rattle.std.proofs.lemmas.Int.{ints, to_z-of_z}
use Rattle.std.proofs.lemmas.List.Sums.{fold_more}
use Rattle.numbers.proofs.Sums.{sum_folded}
use Rattle.numbers.proofs.signed.sum.Goals as goal

pub overflow_add-total : goal.overflow_add-total
overflow_add-total c = omega (arith, ints, (c.requires.1 c.loop-z.z-index).size)

pub loop-z-preserved : goal.loop-z-preserved
loop-z-preserved c =
    (grind (arith, ints, to_z-of_z, fold_more, (c.requires.1 c.loop-z.z-index).size), omega (arith, ints, (c.requires.1 c.loop-z.z-index).size))

pub returns : goal.returns
returns c = sum_folded c.args.s.now c.loop-z.z-index _ (omega arith) c.loop-z.invariant.0
