-- `lay_digits` meets its contract: each turn lays one digit in front of those that are laid.
use Rattle.std.proofs.Common.{◌<◌, arith}
use Rattle.numbers.proofs.Digits.{some-digit}
use Rattle.numbers.proofs.Spelling.{start, turn, front, end}
use Rattle.numbers.proofs.decimal.lay_digits.Goals as goal

pub overflow_sub-last : goal.overflow_sub-last
overflow_sub-last c = omega (arith, some-digit c.args.n)

pub loop-rest-init : goal.loop-rest-init
loop-rest-init c =
    let a = c.args in
    let w : a.n < 18446744073709551616 = omega arith in
    start a.n a.at a.out.now a.count w c.requires.0 c.requires.1

pub overflow_sub-last-in-loop-rest : goal.overflow_sub-last-in-loop-rest
overflow_sub-last-in-loop-rest c =
    let a = c.args in
    front a.n a.at a.out.now c.loop-rest.last c.loop-rest.rest c.loop-rest.invariant c.loop-rest-test.true

pub loop-rest-preserved : goal.loop-rest-preserved
loop-rest-preserved c =
    let a = c.args in
    turn a.n a.at a.out.now c.loop-rest.last c.loop-rest.rest c.loop-rest.invariant c.loop-rest-test.true c.lay.ensures

pub returns : goal.returns
returns c =
    let a = c.args in
    end a.n a.at a.out.now c.loop-rest.last c.loop-rest.rest c.loop-rest.invariant c.loop-rest-test.false c.lay-2.ensures
