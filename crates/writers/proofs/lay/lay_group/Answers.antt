-- The group record: each part is laid where the one before ends.
use mathlib.Core.Path.{refl}
use native.Mathlib.Omega.{arith}
use Rattle.numbers.proofs.Laid.{laid_next}
use Rattle.numbers.specs.Bytes.{bytes16, bytes32}
use Rattle.records.specs.Layouts.{behind, group_bytes}
use Rattle.writers.proofs.lay.lay_group.Goals as goal

pub returns : goal.returns
unfolding group_bytes behind bytes32 bytes16
returns c =
    let h = c.requires in
    let l = c.args.room.now in
    let i = c.args.at in
    let e = laid_next l i _ _ _ c.lay_head.ensures c.lay_three.ensures refl (omega arith) in
    laid_next l i _ _ _ e c.lay.ensures refl (omega arith)
