use Rattle.std.proofs.Common.{ℕ, List, sym, subst}
use Rattle.quota.specs.Inner.{tied, won, Spans, Parted, Parts}
use Rattle.quota.proofs.Spans.{tried-parted}
use Rattle.quota.proofs.Ties.{tied-first, tie_parts}
use Rattle.quota.proofs.untied.Goals as goal

pub narrowed-tried-requires : goal.narrowed-tried-requires
narrowed-tried-requires c =
    let a = c.args in
    let p = c.requires in
    let m = c.remark_all.ensures in
    subst (λ (l : List ℕ). Spans l a.left tied won) (sym m) (tied-first a.marks.now a.units.now.d a.units.now.n1.now p.0 p.1 a.units.now.small)

pub returns : goal.returns
returns c =
    let a = c.args in
    let p = c.requires in
    let m = c.remark_all.ensures in
    let q = tried-parted c.narrowed-tried.ensures c.narrowed-next.ensures c.parted.ensures in
    subst (λ (l : List ℕ). Parts a.marks.now a.left a.units.now.d a.units.now.n1.now l c.parted.result.low) (sym m)
    (tie_parts a.marks.now a.units.now.d a.units.now.n1.now p.0 p.1 a.units.now.small (subst (λ (l : List ℕ). Parted l a.left tied c.parted.result.low c.parted.result.high) m q))
