-- A size in a direction is no larger than the quantity.
use Prim.Native.Nat.{◌≤◌}
use native.Mathlib.Omega.{arith}
use lib.IntN.{ℤ, pos, nat_abs}
use lib.Signed.{lt_z}
use Rattle.numbers.specs.Range.{Within}
use Rattle.numbers.proofs.Choices.{pick-le}
use Rattle.terms.specs.Quantities.{size_in}
use Rattle.terms.specs.declared.quantity.Direction.{Direction}
use Rattle.terms.specs.declared.quantity.Direction.TheVariants.{Injections, Withdrawals}

pub size-within : (d : Direction) (n : ℤ) → Within 1000000 n → size_in d n ≤ 1000000
size-within Injections n h = omega (arith, h.size, pick-le (lt_z (pos 0) n) (nat_abs n))
size-within Withdrawals n h = omega (arith, h.size, pick-le (lt_z n (pos 0)) (nat_abs n))
