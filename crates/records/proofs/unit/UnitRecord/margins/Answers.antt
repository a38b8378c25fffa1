-- The library's max and min are the larger of two numbers and the smaller.
use Rattle.std.proofs.Common.{rules, ◌≡◌, w32, to_z, of_z}
use Rattle.records.specs.Layouts.{larger_of, smaller_of}
use Rattle.records.proofs.unit.UnitRecord.margins.Goals as goal

pub returns-then-self-eq-INTERVAL_KIND : goal.returns-then-self-eq-INTERVAL_KIND
returns-then-self-eq-INTERVAL_KIND c =
    let s = c.args.self in
    let a : to_z w32 (of_z w32 c.max.result) ≡ larger_of s.step_down s.lower = search rules in
    let b : to_z w32 (of_z w32 c.min.result) ≡ smaller_of s.step_up s.upper = search rules in
    rw (a, b) (search rules)
