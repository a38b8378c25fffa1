use Rattle.std.proofs.Common.{◌≡◌, ◌*◌, ◌≤◌, take, pos, ◌+ℤ◌}
use Rattle.std.specs.Prelude.{fold, unsigned_abs}
use Rattle.numbers.proofs.signed.sum.Given as goal

abbrev pub invariant-loop-z : goal.invariant-loop-z
invariant-loop-z l = (l.total ≡ fold ◌+ℤ◌ (pos 0) (take l.z-index l.s)) × (unsigned_abs l.total ≤ 1000000 * l.z-index)
