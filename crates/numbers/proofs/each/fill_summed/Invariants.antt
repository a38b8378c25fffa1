use Rattle.std.proofs.Common.{◌≡◌, ℕ, ◌*◌, ◌<◌, ◌≤◌, take, pos, ◌+ℤ◌}
use Rattle.std.specs.Prelude.{fold, unsigned_abs}
use Rattle.numbers.specs.Column.{at}
use Rattle.numbers.proofs.each.fill_summed.Given as goal

abbrev pub invariant-loop-i : goal.invariant-loop-i
invariant-loop-i g l =
    record {
      sum : l.total ≡ fold ◌+ℤ◌ (pos 0) (take l.i l.out);
      small : unsigned_abs l.total ≤ 1000000 * l.i;
      entries : (k : ℕ) → k < l.i → goal.F-post g l.f k (at l.out k);
    }
