use Rattle.std.proofs.Common.{arith, rules, w32, SFits}
use Rattle.std.proofs.lemmas.Int.{to_z-of_z}
use Rattle.numbers.specs.Column.{at}
use Rattle.group.proofs.Turning.{turned-start, turn-told, turn-adds, turn, turned-end}
use Rattle.group.proofs.judge.steps_all.Goals as goal

pub loop-i-init : goal.loop-i-init
loop-i-init c = turned-start _ _ _ _ _ _ _

pub overflow_add-s3 : goal.overflow_add-s3
overflow_add-s3 c =
    let i = c.loop-i.i in
    let n : SFits w32 (at c.args.n1.now i) = search rules in
    let down : SFits w32 (at c.loop-i.third i) = search rules in
    let up : SFits w32 (at c.loop-i.second i) = search rules in
    let f : SFits w32 c.nearer-left.result = search rules in
    let r : SFits w32 c.step3-n3.result = search rules in
    let left = simp to_z-of_z at c.nearer-left.ensures in
    let third = simp to_z-of_z at c.step3-n3.ensures in
    simp to_z-of_z (turn-adds c.requires.aligned.0 c.requires.aligned.1 c.loop-i.invariant (omega arith) left third)

pub reason-requires : goal.reason-requires
reason-requires c = turn-told c.requires.aligned.0 c.requires.aligned.1 c.loop-i.invariant (omega arith)

pub loop-i-preserved : goal.loop-i-preserved
loop-i-preserved c =
    let i = c.loop-i.i in
    let z : SFits w32 (at c.args.n0.now i) = search rules in
    let n : SFits w32 (at c.args.n1.now i) = search rules in
    let down : SFits w32 (at c.loop-i.third i) = search rules in
    let up : SFits w32 (at c.loop-i.second i) = search rules in
    let f : SFits w32 c.nearer-left.result = search rules in
    let r : SFits w32 c.step3-n3.result = search rules in
    let left = simp to_z-of_z at c.nearer-left.ensures in
    let third = simp to_z-of_z at c.step3-n3.ensures in
    let why = simp to_z-of_z at c.reason.ensures in
    let s : SFits w32 _ = turn-adds c.requires.aligned.0 c.requires.aligned.1 c.loop-i.invariant (omega arith) left third in
    simp to_z-of_z (turn c.requires.aligned.0 c.requires.aligned.1 c.loop-i.invariant (omega arith) left third why)

pub returns : goal.returns
returns c = turned-end c.requires.aligned.0 c.requires.aligned.1 c.loop-i.invariant (omega arith)
