use Rattle.std.proofs.Common.{◌≡◌, ℕ, ◌*◌, ◌≤◌, List, ℤ, length, get_or}
use Rattle.numbers.specs.Column.{at}
use Rattle.numbers.specs.Sum.{sum_to}
use Rattle.numbers.proofs.Filling.{Filled}
use Rattle.terms.specs.declared.quantity.Standing.{Standing}
use Rattle.terms.specs.declared.quantity.Direction.{Direction}
use Rattle.group.specs.Group.{size_of}
use Rattle.group.proofs.cut.Side.sizes_into.Given as goal

-- the size of the unit of an index
abbrev pub size_at : Direction → Standing → List ℤ → List ℕ → ℕ → ℕ
size_at d k n1 class i = size_of d k (get_or class i 0) (at n1 i)

abbrev pub invariant-loop-i : goal.invariant-loop-i
invariant-loop-i l = record {
  places : Filled (size_at l.self.d l.k l.self.n1.now l.self.class.now) (length l.self.n1.now) l.fn.sizes l.sizes l.i;
  sum : l.t ≡ sum_to l.i (size_at l.self.d l.k l.self.n1.now l.self.class.now);
  small : l.t ≤ l.i * 1000000;
}
