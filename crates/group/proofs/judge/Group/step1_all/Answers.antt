use Rattle.std.proofs.Common.{◌≡◌, pos, rules, arith, length, ap, ◌∙◌}
use Rattle.numbers.specs.Sum.{sum_z}
use Rattle.numbers.proofs.Columns.{is-column}
use Rattle.group.specs.Group.{step1_all}
use Rattle.group.proofs.judge.Group.step1_all.Goals as goal

pub returns : goal.returns
unfolding step1_all
returns c =
    let s = c.args.self.now in
    let e : c.fill_summed.new.out ≡ step1_all s.n0.now s.step_down.now s.step_up.now = is-column _ (pos 0) (length s.n0.now) c.fill_summed.new.out (omega arith) (λ k l. let p = c.fill_summed.ensures.entries k (omega arith) in search rules) in
    let t : _ ≡ sum_z c.fill_summed.new.out = search rules in
    (t ∙ ap sum_z e, e)
