-- The whole reading is what is left of it, from the unit here on. A unit read is a turn, a refusal a stop.
use Rattle.std.proofs.Common.{rules}
use mathlib.Core.Path.{sym, ap, ◌∙◌}
use native.Mathlib.Omega.{arith}
use Rattle.terms.specs.Refusals.{reply}
use Rattle.terms.proofs.FirstRefused.{turn, stop, end}
use Rattle.records.specs.Layouts.{length_of}
use Rattle.records.proofs.Turns.{units-steps}
use Rattle.records.proofs.UnitHeads.{unit-long}
use Rattle.records.proofs.Accepted.{unit-is}
use Rattle.records.proofs.units.units_from.Goals as goal

pub returns-in_err-u : goal.returns-in_err-u
returns-in_err-u c =
    let x = c.args in
    let s = stop (units-steps x.s.now x.day) x.count c.loop.counter c.loop.invariant c.loop-test.true (sym c.unit_at.ensures ∙ ap reply c.in_err-u.was) in
    search (rules, s)

pub overflow_add-here : goal.overflow_add-here
overflow_add-here c =
    let x = c.args in
    let e = sym c.unit_at.ensures ∙ ap reply c.in_ok-u.was in
    let is = ap length_of (unit-is x.s.now c.loop.here c.loop.floor x.day e).1 in
    omega (arith, c.length-here.ensures, is, unit-long x.s.now c.loop.here c.loop.floor x.day e, c.well_formed.0)

pub loop-preserved : goal.loop-preserved
loop-preserved c =
    let x = c.args in
    let e = sym c.unit_at.ensures ∙ ap reply c.in_ok-u.was in
    rw (c.from-floor.ensures, c.length-here.ensures ∙ ap length_of (unit-is x.s.now c.loop.here c.loop.floor x.day e).1)
    (turn (units-steps x.s.now x.day) x.count c.loop.counter c.loop.invariant c.loop-test.true e)

pub returns : goal.returns
returns c =
    let x = c.args in
    end (units-steps x.s.now x.day) x.count c.loop.counter c.loop.invariant c.loop-test.false
