use Rattle.std.proofs.Common.{ℕ, get_or, length, refl, arith, rules}
use Rattle.numbers.specs.Column.{at}
use Rattle.numbers.proofs.Updating.{updated}
use Rattle.quota.specs.Inner.{dealt_at}
use Rattle.quota.proofs.deal.Goals as goal

pub returns : goal.returns
returns c =
    updated _ (λ (i : ℕ). dealt_at c.args.units.now.d c.args.ratio.t c.args.ratio.c c.args.x (at c.args.units.now.n1.now i) (get_or c.args.cuts.now i 0)) 0 (length c.args.cuts.now) c.args.cuts.now c.update.new.xs
    refl (omega arith) c.update.ensures
    (λ k y m p. search rules)
