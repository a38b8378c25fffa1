use Rattle.std.proofs.Common.{arith}
use Rattle.quota.proofs.Spans.{tried-parted}
use Rattle.quota.proofs.Ties.{marks-first, just-parts, tie-of}
use Rattle.quota.proofs.bound.Goals as goal

pub narrowed-tried-requires : goal.narrowed-tried-requires
narrowed-tried-requires c = marks-first c.requires.0

pub returns-then-span : goal.returns-then-span
returns-then-span c = just-parts c.args.marks.now c.args.units.now.d c.args.units.now.n1.now (c.parted-span.ensures.spans.met c.if-span.true)

pub untied-requires : goal.untied-requires
untied-requires c =
    let p = tried-parted c.narrowed-tried.ensures c.narrowed-next.ensures c.parted-span.ensures in
    (c.requires.0, tie-of p (omega (arith, p.spans.order, c.if-span.false)), c.requires.2)
