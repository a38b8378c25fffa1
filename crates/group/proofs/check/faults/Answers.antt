use Rattle.std.proofs.Common.{arith, rules, w32, SFits}
use Rattle.std.proofs.lemmas.Int.{to_z-of_z}
use Rattle.group.specs.Inner.{faults_of}
use Rattle.group.proofs.check.faults.Goals as goal

pub returns : goal.returns
unfolding faults_of
returns c =
    let n : SFits w32 c.args.n0 = search rules in
    let down : SFits w32 c.args.m.step_down = search rules in
    let up : SFits w32 c.args.m.step_up = search rules in
    let a = simp to_z-of_z at c.beyond.ensures in
    let b = simp to_z-of_z at c.beyond-2.ensures in
    let d = simp to_z-of_z at c.beyond-3.ensures in
    (omega (arith, a.0, b.0, d.0, c.crossed.ensures.0), omega (arith, a.1, b.1, d.1, c.crossed.ensures.1))
