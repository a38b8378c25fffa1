-- `long_count` meets its contract: the digits counted and those of what is left are all the digits.
use Rattle.std.proofs.Common.{◌<◌, arith}
use Rattle.numbers.proofs.Digits.{no_more}
use Rattle.numbers.proofs.Spelling.{first_count, next-count, below-count, last-count}
use Rattle.numbers.proofs.decimal.long_count.Goals as goal

pub loop-rest-init : goal.loop-rest-init
loop-rest-init c =
    let w : c.args.n < 18446744073709551616 = omega arith in
    first_count c.args.n w

pub overflow_add-count : goal.overflow_add-count
overflow_add-count c =
    let n = c.args.n in
    let w : n < 100000000000000000000 = omega arith in
    omega (arith, below-count n c.loop-rest.count c.loop-rest.rest c.loop-rest.invariant, no_more 19 n w)

pub loop-rest-preserved : goal.loop-rest-preserved
loop-rest-preserved c = next-count c.args.n c.loop-rest.count c.loop-rest.rest c.loop-rest.invariant c.loop-rest-test.true

pub returns : goal.returns
returns c = last-count c.args.n c.loop-rest.count c.loop-rest.rest c.loop-rest.invariant c.loop-rest-test.false
