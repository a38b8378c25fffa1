use Rattle.std.proofs.Common.{◌≡◌, length, refl, ap, ◌∙◌, arith, rules, w32, SFits, eqb}
use Rattle.std.proofs.lemmas.Int.{to_z-of_z}
use Rattle.numbers.specs.Column.{at}
use Rattle.numbers.specs.Sum.{sum_to}
use Rattle.numbers.proofs.Sums.{sum_to-one}
use Rattle.group.specs.Group.{margins_at}
use Rattle.group.specs.Inner.{faults_of, amounts_pass}
use Rattle.group.proofs.check.amounts_pass.Goals as goal

pub loop-i-init : goal.loop-i-init
unfolding sum_to
loop-i-init c = record { sum = refl; few = omega arith }

pub loop-i-preserved : goal.loop-i-preserved
loop-i-preserved c =
    let i = c.loop-i.i in
    let n : SFits w32 (at c.args.n0.now i) = search rules in
    let down : SFits w32 (at c.args.step_down.now i) = search rules in
    let up : SFits w32 (at c.args.step_up.now i) = search rules in
    let e : c.faults-failed.result ≡ faults_of (at c.args.n0.now i) (margins_at c.args.step_down.now c.args.step_up.now i) = simp to_z-of_z at c.faults-failed.ensures.0 in
    record {
      sum = omega (arith, e, c.loop-i.invariant.sum, sum_to-one i (λ k. faults_of (at c.args.n0.now k) (margins_at c.args.step_down.now c.args.step_up.now k)));
      few = search rules;
    }

pub returns : goal.returns
unfolding amounts_pass
returns c =
    let e : c.loop-i.i ≡ length c.args.n0.now = omega arith in
    ap (λ n. eqb n 0) (c.loop-i.invariant.sum ∙ ap (λ n. sum_to n (λ k. faults_of (at c.args.n0.now k) (margins_at c.args.step_down.now c.args.step_up.now k))) e)
