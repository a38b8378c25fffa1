-- The columns of a block that passed may go through the steps, and what is laid of what these leave is the block's result.
use mathlib.Core.Path.{◌≡◌, refl, ◌∙◌}
use borrow.Author.Rules.{rules}
use mir.Syntax.{w32}
use mir.Val.{to_z, of_z}
use Rattle.blocks.proofs.Passing.{may-judge, may-cut, cutting, left-is, losing, aligned, summable, explained, even, laying, written}
use Rattle.blocks.proofs.result.write_passed.Goals as goal

pub invariant_of-group : goal.invariant_of-group
invariant_of-group c = record { judged = may-judge c.requires }

pub cut_all-cut-requires : goal.cut_all-cut-requires
cut_all-cut-requires c = may-cut c.requires

pub steps_all-s3-requires-clause-lost : goal.steps_all-s3-requires-clause-lost
steps_all-s3-requires-clause-lost c = losing (cutting c.requires c.cut_all-cut.ensures)

pub steps_all-s3-requires-clause-aligned : goal.steps_all-s3-requires-clause-aligned
steps_all-s3-requires-clause-aligned c =
    let w = cutting c.requires c.cut_all-cut.ensures in
    let l = left-is w c.direction-d.ensures in
    (aligned w l, explained w l)

pub invariant_of-columns : goal.invariant_of-columns
invariant_of-columns c =
    let w = cutting c.requires c.cut_all-cut.ensures in
    let e = c.steps_all-s3.ensures in
    record { even = even w (e.0 ∙ left-is w c.direction-d.ensures) e.1 e.2 e.3 }

pub lay-requires : goal.lay-requires
lay-requires c = laying (cutting c.requires c.cut_all-cut.ensures)

pub summed-requires : goal.summed-requires
summed-requires c =
    let w = cutting c.requires c.cut_all-cut.ensures in
    let e = c.steps_all-s3.ensures in
    let s3 : to_z w32 (of_z w32 c.steps_all-s3.result) ≡ c.steps_all-s3.result = search rules in
    summable w (e.0 ∙ left-is w c.direction-d.ensures) (s3 ∙ e.1) e.2

pub returns : goal.returns
returns c =
    let w = cutting c.requires c.cut_all-cut.ensures in
    let e = c.steps_all-s3.ensures in
    let s3 : to_z w32 (of_z w32 c.steps_all-s3.result) ≡ c.steps_all-s3.result = search rules in
    written w (e.0 ∙ left-is w c.direction-d.ensures) (s3 ∙ e.1) e.2 e.3 c.summed.ensures _ (refl, refl, refl, refl, refl) c.lay.ensures c.lay_group_result.ensures
