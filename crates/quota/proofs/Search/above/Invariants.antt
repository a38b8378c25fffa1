use Rattle.std.proofs.Common.{◌≡◌, ℕ, ◌≤◌, ltb, get_or}
use Rattle.numbers.specs.Sum.{count}
use Rattle.quota.proofs.Search.above.Given as goal

abbrev pub invariant-loop-mark : goal.invariant-loop-mark
invariant-loop-mark l = record {
  few : l.r ≤ l.mark-index;
  sum : l.r ≡ count l.mark-index (λ (j : ℕ). ltb l.x (get_or l.self.marks.now j 0));
}
