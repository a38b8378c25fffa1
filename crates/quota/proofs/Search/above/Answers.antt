use Rattle.std.proofs.Common.{◌≡◌, ltb, get_or, length, ap, ◌∙◌, arith, refl, lt-ltb, le-ltb}
use Rattle.numbers.specs.Sum.{count, sum_to}
use Rattle.numbers.proofs.Sums.{count-one}
use Rattle.quota.specs.Inner.{above}
use Rattle.quota.proofs.Search.above.Goals as goal

pub loop-mark-init : goal.loop-mark-init
unfolding count sum_to
loop-mark-init c = record { few = omega arith; sum = refl }

pub loop-mark-preserved : goal.loop-mark-preserved
loop-mark-preserved c = grind (arith, count-one, lt-ltb, le-ltb)

pub returns : goal.returns
unfolding above
returns c =
    let e : c.loop-mark.mark-index ≡ length c.args.self.now.marks.now = omega arith in
    c.loop-mark.invariant.sum ∙ ap (λ n. count n (λ j. ltb c.args.x (get_or c.args.self.now.marks.now j 0))) e
