use Rattle.std.proofs.Common.{sym, ap, ◌∙◌, arith}
use Rattle.quota.specs.Quota.{cuts_of}
use Rattle.quota.proofs.Marks.{total-small, sharing, all-cut, marked, places, none_left, all-dealt}
use Rattle.quota.proofs.cut.Goals as goal

pub returns-then-c-t : goal.returns-then-c-t
returns-then-c-t c = all-cut c.requires.0 c.if-c-t.true

pub of-ratio-requires : goal.of-ratio-requires
of-ratio-requires c = (omega (arith, c.requires.0.within, c.if-c-t.false), total-small c.requires.0)

pub returns-then-left-eq0 : goal.returns-then-left-eq0
returns-then-left-eq0 c =
    let m = c.marks_into-left.ensures in
    m.1 ∙ none_left (sharing c.of-ratio.result c.requires.0 c.of-ratio.ensures.1) (sym m.0 ∙ c.if-left-eq0.true) ∙ ap (cuts_of c.args.sizes.now) c.of-ratio.ensures.0

pub bound-x-requires : goal.bound-x-requires
bound-x-requires c =
    let m = c.marks_into-left.ensures in
    (marked (sharing c.of-ratio.result c.requires.0 c.of-ratio.ensures.1) m.1 m.0 (omega (arith, c.if-left-eq0.false)), total-small c.requires.0, places (sharing c.of-ratio.result c.requires.0 c.of-ratio.ensures.1) c.requires.1 m.1)

pub returns : goal.returns
returns c =
    let m = c.marks_into-left.ensures in
    c.deal.ensures ∙ all-dealt (sharing c.of-ratio.result c.requires.0 c.of-ratio.ensures.1) c.requires.1 _ m.1 m.0 c.bound-x.ensures ∙ ap (cuts_of c.args.sizes.now) c.of-ratio.ensures.0
