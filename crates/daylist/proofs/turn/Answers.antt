-- One step of the list on what is at hand: what it used lies there, and its lines behind those that wait.
use Prim.Native.Nat.{◌-◌, ◌≤◌}
use mathlib.Core.Path.{refl}
use native.Mathlib.Omega.{arith}
use lib.ListN.{length, take, drop, length-take}
use Rattle.listing.proofs.Inside.{used-inside, written-inside}
use Rattle.daylist.specs.Works.{lists, stops, ends, writes, reads}
use Rattle.daylist.proofs.Filling.{answered, laid, silent, room-left}
use Rattle.daylist.proofs.turn.Goals as goal

pub advanced-requires : goal.advanced-requires
advanced-requires g c =
    let a = c.args in
    let p = c.requires.0 in
    let w = a.w in
    let o = c.in-Taken.ensures in
    let u : c.in-Taken.part.used ≤ length (take (w.end - w.from) (drop w.from a.input.now)) = used-inside _ _ _ _ o in
    let v : c.in-Taken.part.written ≤ length (take (65536 - w.full) (drop w.full a.output.now)) = written-inside _ _ _ _ o c.list_next.auto.room in
    (p, (omega (arith, p.order, length-take (w.end - w.from) (drop w.from a.input.now)), omega (arith, p.lines, c.told-output, length-take (65536 - w.full) (drop w.full a.output.now))))

pub refused-requires : goal.refused-requires
refused-requires g c =
    let a = c.args in
    let p = c.requires.0 in
    let w = a.w in
    let o = c.in-Refused.ensures in
    let v : c.in-Refused.stop.written ≤ length (take (65536 - w.full) (drop w.full a.output.now)) = written-inside _ _ _ _ o c.list_next.auto.room in
    (p, omega (arith, p.lines, c.told-output, length-take (65536 - w.full) (drop w.full a.output.now)))

pub waited-requires : goal.waited-requires
waited-requires g c =
    let a = c.args in
    let p = c.requires.0 in
    (p, (c.requires.1, room-left a.w a.input.now a.output.now p c.told-output c.in-Waits.ensures c.told-input refl))

pub returns-in-Taken : goal.returns-in-Taken
returns-in-Taken g c =
    let a = c.args in
    let p = c.requires.0 in
    let long = c.told-output in
    let o = c.in-Taken.ensures in
    (lists _ (answered a.w a.input.now a.output.now p long o) c.advanced.ensures.0 refl (laid a.w a.input.now a.output.now p long o), c.advanced.ensures.1)

pub returns-in-Refused : goal.returns-in-Refused
returns-in-Refused g c =
    let a = c.args in
    let p = c.requires.0 in
    let long = c.told-output in
    let o = c.in-Refused.ensures in
    (stops _ _ _ (answered a.w a.input.now a.output.now p long o) c.refused.ensures.0 refl (laid a.w a.input.now a.output.now p long o), c.refused.ensures.1)

pub returns-in-Waits : goal.returns-in-Waits
returns-in-Waits g c =
    let a = c.args in
    let p = c.requires.0 in
    let long = c.told-output in
    let o = c.in-Waits.ensures in
    (reads (answered a.w a.input.now a.output.now p long o) c.waited.ensures.0 (silent a.w a.input.now a.output.now p long o refl), c.waited.ensures.1)

pub returns-in-Full : goal.returns-in-Full
returns-in-Full g c =
    let a = c.args in
    let p = c.requires.0 in
    let long = c.told-output in
    let o = c.in-Full.ensures in
    (writes (answered a.w a.input.now a.output.now p long o) c.flushed.ensures.0 refl (silent a.w a.input.now a.output.now p long o refl), c.flushed.ensures.1)

pub returns-in-Done : goal.returns-in-Done
returns-in-Done g c =
    let a = c.args in
    let p = c.requires.0 in
    let long = c.told-output in
    let o = c.in-Done.ensures in
    (ends (answered a.w a.input.now a.output.now p long o) c.stopped.ensures.0 refl (silent a.w a.input.now a.output.now p long o refl), c.stopped.ensures.1)
