use Rattle.std.proofs.Common.{◌≡◌, ℕ, length, refl, sym, ap, ◌∙◌, arith, rules, w32, SFits}
use Rattle.std.proofs.lemmas.Int.{to_z-of_z}
use Rattle.numbers.specs.Column.{at}
use Rattle.numbers.specs.Sum.{sum_to}
use Rattle.numbers.proofs.Sums.{sum_to-one, sum-column}
use Rattle.numbers.proofs.Filling.{filled-start, filled-turn, filled-end}
use Rattle.group.specs.Group.{sizes_of}
use Rattle.group.proofs.Ranges.{size_small}
use Rattle.group.proofs.cut.Side.sizes_into.Invariants.{size_at}
use Rattle.group.proofs.cut.Side.sizes_into.Goals as goal

pub loop-i-init : goal.loop-i-init
unfolding sum_to
loop-i-init c = record { places = filled-start _ _ _; sum = refl; small = omega arith }

pub overflow_add-t : goal.overflow_add-t
overflow_add-t c =
    let s = c.args.self.now in
    let f : SFits w32 (at s.n1.now c.loop-i.i) = search rules in
    let v : c.size_of-size.result ≡ size_at s.d c.args.k s.n1.now s.class.now c.loop-i.i = simp to_z-of_z at c.size_of-size.ensures in
    omega (arith, v, size_small s.classed s.d c.args.k c.loop-i.i, c.loop-i.invariant.small, c.loop-i.invariant.places.some, s.classed.few)

pub loop-i-preserved : goal.loop-i-preserved
loop-i-preserved c =
    let s = c.args.self.now in
    let i = c.loop-i.i in
    let f : SFits w32 (at s.n1.now i) = search rules in
    let v : c.size_of-size.result ≡ size_at s.d c.args.k s.n1.now s.class.now i = simp to_z-of_z at c.size_of-size.ensures in
    record {
      places = filled-turn c.loop-i.invariant.places c.requires 0 v (omega arith);
      sum = omega (arith, v, c.loop-i.invariant.sum, sum_to-one i (size_at s.d c.args.k s.n1.now s.class.now));
      small = omega (arith, v, size_small s.classed s.d c.args.k i, c.loop-i.invariant.small);
    }

pub returns : goal.returns
unfolding sizes_of
returns c =
    let s = c.args.self.now in
    let f = size_at s.d c.args.k s.n1.now s.class.now in
    let e : c.loop-i.i ≡ length s.n1.now = omega (arith, c.loop-i.invariant.places.some) in
    (c.loop-i.invariant.sum ∙ ap (λ (m : ℕ). sum_to m f) e ∙ sym (sum-column (length s.n1.now) f), filled-end c.loop-i.invariant.places c.requires (omega arith))
