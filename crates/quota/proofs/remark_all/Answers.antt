use Rattle.std.proofs.Common.{ℕ, get_or, length, refl, arith, rules}
use Rattle.numbers.specs.Column.{at}
use Rattle.numbers.proofs.Updating.{updated}
use Rattle.terms.specs.Quantities.{size_in}
use Rattle.quota.specs.Inner.{remark_by, remarks_of}
use Rattle.quota.proofs.remark_all.Goals as goal

pub returns : goal.returns
unfolding remarks_of
returns c =
    updated _ (λ (i : ℕ). remark_by c.args.shared (get_or c.args.marks.now i 0) (size_in c.args.units.now.d (at c.args.units.now.n1.now i)) i) 0 (length c.args.marks.now) c.args.marks.now c.update.new.xs
    refl (omega arith) c.update.ensures
    (λ k y m p. search rules)
