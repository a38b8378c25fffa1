-- `digit_count` meets its contract: each comparison leaves one power of ten below and one above.
use Prim.Native.Nat.{◌<◌}
use mathlib.Core.Path.{refl, sym}
use native.Mathlib.Omega.{arith}
use Rattle.numbers.proofs.Digits.{so-many}
use Rattle.lines.proofs.number.digit_count.Goals as goal

pub returns-then-n-lt100000 : goal.returns-then-n-lt100000
returns-then-n-lt100000 c = sym (so-many 3 15 _ refl c.requires c.if-n-lt100000.true)

pub returns-then-n-lt1000000 : goal.returns-then-n-lt1000000
returns-then-n-lt1000000 c = sym (so-many 4 14 _ refl c.if-n-lt100000.false c.if-n-lt1000000.true)

pub returns-then-n-lt10000000 : goal.returns-then-n-lt10000000
returns-then-n-lt10000000 c = sym (so-many 5 13 _ refl c.if-n-lt1000000.false c.if-n-lt10000000.true)

pub returns-then-n-lt100000000 : goal.returns-then-n-lt100000000
returns-then-n-lt100000000 c = sym (so-many 6 12 _ refl c.if-n-lt10000000.false c.if-n-lt100000000.true)

pub returns-then-n-lt1000000000 : goal.returns-then-n-lt1000000000
returns-then-n-lt1000000000 c = sym (so-many 7 11 _ refl c.if-n-lt100000000.false c.if-n-lt1000000000.true)

pub returns : goal.returns
returns c =
    let n = c.args.n in
    let h : n < 10000000000 = omega arith in
    sym (so-many 8 10 n refl c.if-n-lt1000000000.false h)
