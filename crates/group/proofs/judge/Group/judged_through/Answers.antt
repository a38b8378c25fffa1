use Rattle.std.proofs.Common.{◌≡◌, length, ap, ap₂, ◌∙◌, rules, w32, SFits}
use Rattle.std.proofs.lemmas.Int.{to_z-of_z}
use Rattle.numbers.specs.Sum.{sum_z}
use Rattle.numbers.proofs.Columns.{column-length}
use Rattle.terms.specs.declared.quantity.Direction.{Direction}
use Rattle.group.specs.Steps.{direction_of}
use Rattle.group.specs.Group.{step3_all}
use Rattle.group.specs.Inner.{left_by}
use Rattle.group.proofs.Explaining.{zeros-small}
use Rattle.group.proofs.Judging.{e-fits, cut-lost, cut-aligned, cut-explained, cut-summed, cut-written}
use Rattle.group.proofs.judge.Group.judged_through.Goals as goal

pub steps_all-s3-requires : goal.steps_all-s3-requires
steps_all-s3-requires c =
    let j = c.args.self.now.judged in
    let k = c.cut_all-cut.ensures in
    let f = e-fits j k in
    let d : c.direction-d.result ≡ direction_of c.cut_all-cut.result.e = simp to_z-of_z at c.direction-d.ensures in
    let left = ap (λ (d : Direction). left_by d c.cut_all-cut.new.n1 c.cut_all-cut.new.losses) d in
    let w = c.requires.losses_value.1 in
    record {
      lost = cut-lost j k;
      aligned = (cut-aligned j k left c.copy.ensures c.copy-2.ensures, cut-explained j k left c.copy.ensures c.copy-2.ensures (ap length w ∙ column-length _ _) (rw w (zeros-small _)));
    }

pub summed-requires : goal.summed-requires
summed-requires c =
    let j = c.args.self.now.judged in
    let k = c.cut_all-cut.ensures in
    let f = e-fits j k in
    let d : c.direction-d.result ≡ direction_of c.cut_all-cut.result.e = simp to_z-of_z at c.direction-d.ensures in
    let left = ap (λ (d : Direction). left_by d c.cut_all-cut.new.n1 c.cut_all-cut.new.losses) d in
    let s : SFits w32 c.steps_all-s3.result = search rules in
    cut-summed j k (c.steps_all-s3.ensures.0 ∙ left)
    (to_z-of_z w32 _ s ∙ c.steps_all-s3.ensures.1 ∙ ap sum_z (ap₂ (step3_all c.steps_all-s3.new.second) c.copy.ensures c.copy-2.ensures))

pub returns : goal.returns
returns c =
    let j = c.args.self.now.judged in
    let k = c.cut_all-cut.ensures in
    let f = e-fits j k in
    let d : c.direction-d.result ≡ direction_of c.cut_all-cut.result.e = simp to_z-of_z at c.direction-d.ensures in
    let left = ap (λ (d : Direction). left_by d c.cut_all-cut.new.n1 c.cut_all-cut.new.losses) d in
    let s : SFits w32 c.steps_all-s3.result = search rules in
    let m = ap₂ (step3_all c.steps_all-s3.new.second) c.copy.ensures c.copy-2.ensures in
    cut-written j k (c.steps_all-s3.ensures.0 ∙ left) (to_z-of_z w32 _ s ∙ c.steps_all-s3.ensures.1 ∙ ap sum_z m) (c.steps_all-s3.ensures.2 ∙ m) c.summed.ensures
