-- `lay_u64_field` meets its contract: the number has at most 20 digits, and they stand behind the space.
use Rattle.numbers.specs.Decimal.{decimal}
use Rattle.lines.proofs.Parts.{then, one_byte, lays}
use Prim.Native.Nat.{ℕ, ◌+◌, ◌<◌, ◌≤◌}
use native.Mathlib.Omega.{arith}
use lib.ListN.{length}
use Rattle.numbers.proofs.Digits.{no_more}
use Rattle.lines.proofs.field.lay_u64_field.Goals as goal

digits_of : (n : ℕ) → n < 18446744073709551616 → length (decimal n) ≤ 20
digits_of n h = no_more 19 n (omega arith)

pub lay_digits-requires : goal.lay_digits-requires
lay_digits-requires c =
    let e = c.long_count-count.ensures in
    (e, omega (arith, digits_of c.args.n (omega arith)))

pub overflow_add-result-2 : goal.overflow_add-result-2
overflow_add-result-2 c = omega (arith, digits_of c.args.n (omega arith), c.long_count-count.ensures)

pub returns : goal.returns
returns c =
    let a = c.args in
    let out = a.out.now in
    let few = digits_of a.n (omega arith) in
    let count = c.long_count-count.result in
    let e = c.long_count-count.ensures in
    let space = one_byte out a.at 32 c.lay.ensures in
    let number = lays _ (a.at + 1) 20 (a.at + 1 + count) (omega arith) few c.lay_digits.ensures in
    then out a.at 1 20 (a.at + 1) (a.at + 1 + count) (omega arith) space number
