-- `reason` meets its contract: each weight is the one of the rule.
use native.Mathlib.Omega.{arith}
use mir.Facts.{to_z-of_z}
use Rattle.group.specs.Steps.{reason_of}
use Rattle.group.proofs.unit.reason.Goals as goal

pub returns : goal.returns
unfolding reason_of
returns c =
    let d = simp (c.differ.ensures, to_z-of_z c.ranges.n0, to_z-of_z c.ranges.n1) at c.weight.ensures.0 in
    let e = simp (c.differ-2.ensures, to_z-of_z c.ranges.n1, to_z-of_z c.ranges.n2) at c.weight-2.ensures.0 in
    let f = simp (c.differ-3.ensures, to_z-of_z c.ranges.n2, to_z-of_z c.ranges.n3) at c.weight-3.ensures.0 in
    let o = simp (c.zero_outside.ensures, to_z-of_z c.ranges.n3) at c.weight-4.ensures.0 in
    rw (d, e, f, o) (omega arith)
