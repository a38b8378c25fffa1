-- `cut_all` meets its contract: what units lose is for the excess of the sum of what step 1 leaves.
use mathlib.Core.Path.{◌≡◌, sym, ap, ap₂, ◌∙◌}
use lib.ListN.{length}
use mir.Syntax.{w32}
use mir.Val.{SFits, to_z, of_z}
use mir.Facts.{to_z-of_z}
use Rattle.numbers.specs.Sum.{sum_z}
use Rattle.group.specs.Steps.{band_of, excess_of}
use Rattle.group.specs.Group.{step1_all}
use Rattle.group.specs.Inner.{zeros}
use Rattle.group.proofs.Bands.{low-within, high-within}
use Rattle.group.proofs.Judging.{n1-length, n1-bearable, s1-within}
use Rattle.group.proofs.judge.Group.cut_all.Goals as goal

pub excess-e-requires : goal.excess-e-requires
excess-e-requires c =
    let p = c.args.self.now.p.0 in
    rw (
      c.of-band.ensures,
      (let s1_is : let a = c.args.self.now in to_z w32 (of_z w32 c.step1_all-s1.result) ≡ sum_z (step1_all a.n0.now a.step_down.now a.step_up.now) = let f : SFits w32 c.step1_all-s1.result = record { sfits = c.step1_all-s1.type_inv } in
          to_z-of_z f ∙ c.step1_all-s1.ensures.0 in s1_is),
    ) (low-within p 64000000 c.args.self.now.judged.position-small, (high-within p 64000000 c.args.self.now.judged.position-small, s1-within c.args.self.now.judged))

pub losses_all-requires : goal.losses_all-requires
losses_all-requires c =
    let h = c.requires in
    let left = c.step1_all-s1.ensures in (
      rw (
        (let e_is : let a = c.args.self.now in to_z w32 (of_z w32 c.excess-e.result) ≡ excess_of (band_of a.p.0) (sum_z (step1_all a.n0.now a.step_down.now a.step_up.now)) = let f : SFits w32 c.excess-e.result = record { sfits = c.excess-e.type_inv } in
            to_z-of_z f ∙ c.excess-e.ensures ∙ ap₂ excess_of c.of-band.ensures (let s1_is : let a = c.args.self.now in to_z w32 (of_z w32 c.step1_all-s1.result) ≡ sum_z (step1_all a.n0.now a.step_down.now a.step_up.now) = let f : SFits w32 c.step1_all-s1.result = record { sfits = c.step1_all-s1.type_inv } in
            to_z-of_z f ∙ c.step1_all-s1.ensures.0 in s1_is) in e_is),
        left.1,
      ) (n1-bearable c.args.self.now.judged),
      h.1 ∙ ap zeros (sym (ap length left.1 ∙ n1-length c.args.self.now.judged)),
    )
