-- Each turn lays the result of one unit more behind those laid so far; what no 03h is, where units are left, is an 04h.
use mathlib.Core.Path.{◌≡◌, sym}
use native.Mathlib.Omega.{arith}
use Rattle.numbers.specs.Bytes.{byte_at}
use Rattle.records.specs.Layouts.{unit_kind}
use Rattle.records.proofs.UnitHeads.{plain_end, interval-end}
use Rattle.blocks.proofs.Laying.{starts, lies, there, turns, ends}
use Rattle.blocks.proofs.columns.UnitColumns.lay.Goals as goal
use Rattle.blocks.proofs.columns.UnitColumns.lay.Goals.{else-loop-i-2-test, then-loop-i-2-test+else-s-here-eq-KIND}

pub loop-i-init : goal.loop-i-init
loop-i-init c = starts _ _ _ c.requires

pub lay_unit-requires : goal.lay_unit-requires
lay_unit-requires c = there _ _ _ c.requires c.loop-i-2.invariant.so_far c.loop-i-2-test.true

pub loop-i-2-preserved : goal.loop-i-2-preserved
loop-i-2-preserved c =
    let g = c.loop-i-2.invariant.so_far in
    let l = c.loop-i-2-test.true in
    let end = plain_end c.args.s.now c.loop-i-2.here (lies _ _ _ c.requires g l) c.if-s-here-eq-KIND.true in
    record { onward = omega (arith, c.loop-i-2.invariant.onward); so_far = turns _ _ _ c.requires g l (sym end) c.lay_unit.ensures }

pub lay_unit-requires-in-loop-i : goal.lay_unit-requires-in-loop-i
lay_unit-requires-in-loop-i c = there _ _ _ c.requires c.loop-i-2.invariant.so_far c.if-self-i.false

pub loop-i-preserved : goal.loop-i-preserved
loop-i-preserved c =
    let g = c.loop-i-2.invariant.so_far in
    let l = c.if-self-i.false in
    let other : byte_at c.args.s.now c.loop-i-2.here ≡ unit_kind → ⊥ = elim c.loop-i-2-test.branch [ then-loop-i-2-test+else-s-here-eq-KIND w ↦ w.if-s-here-eq-KIND.false | else-loop-i-2-test w ↦ λ e. omega (arith, l, w.loop-i-2-test.false) ] in
    let end = interval-end c.args.s.now c.loop-i-2.here (lies _ _ _ c.requires g l) other in
    turns _ _ _ c.requires g l (sym end) c.lay_unit-in-loop-i.ensures

pub returns : goal.returns
returns c = ends _ _ _ c.requires c.loop-i.invariant c.loop-i-test.false

pub overflow_add-to : goal.overflow_add-to
overflow_add-to c =
    let g = c.loop-i-2.invariant.so_far in
    omega (arith, (there _ _ _ c.requires g c.loop-i-2-test.true).enough, g.laid.kept)

pub overflow_add-to-in-loop-i : goal.overflow_add-to-in-loop-i
overflow_add-to-in-loop-i c =
    let g = c.loop-i-2.invariant.so_far in
    omega (arith, (there _ _ _ c.requires g c.if-self-i.false).enough, g.laid.kept)

pub returns-then-self-i : goal.returns-then-self-i
returns-then-self-i c = ends _ _ _ c.requires c.loop-i-2.invariant.so_far c.if-self-i.true
