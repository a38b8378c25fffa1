-- `lay` meets its contract: two digits, two more, and the byte in front of them.
use Prim.Native.Nat.{◌+◌, ◌*◌, ◌-◌}
use mathlib.Core.Path.{refl}
use native.Mathlib.Omega.{arith}
use lib.Dec.{ltb}
use Rattle.numbers.proofs.Sums.{bit-one}
use Rattle.numbers.specs.Sum.{bit}
use Rattle.numbers.proofs.Digits.{some-digit}
use Rattle.lines.proofs.Pairs.{few-count, few-laid}
use Rattle.lines.proofs.number.Few.lay.Goals as goal

pub lay_pair-requires : goal.lay_pair-requires
lay_pair-requires c =
    let f = c.args.self in
    let counted = few-count f.n f.few in
    let nine = bit-one (ltb 999 f.n) in
    (omega (arith, f.few, c.hundredth-high.ensures), omega (arith, c.requires))

pub overflow_sub-at : goal.overflow_sub-at
overflow_sub-at c = omega (arith, c.digits-count.ensures, some-digit c.args.self.n)

pub lay_pair-requires-2 : goal.lay_pair-requires-2
lay_pair-requires-2 c =
    let f = c.args.self in
    let some = some-digit f.n in
    (omega (arith, f.few, c.hundredth-high.ensures), omega (arith, c.requires, c.digits-count.ensures))

pub returns : goal.returns
returns c =
    let a = c.args in
    let n = a.self.n in
    let h = c.hundredth-high.result in
    let many = c.digits-count.result in
    let e = c.digits-count.ensures in
    let b = few-laid a.out.now a.at a.front n h (n - h * 100) a.self.few c.hundredth-high.ensures refl c.requires (a.at + bit (ltb 999 n)) (a.at + many - 1) c.lay_pair.ensures c.lay_pair-2.ensures c.lay.ensures refl (omega (arith, e, some-digit n)) in
    rw e b
