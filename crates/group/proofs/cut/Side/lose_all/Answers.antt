use Rattle.std.proofs.Common.{ℕ, true, get_or, length, arith, rules}
use Rattle.numbers.specs.Column.{at}
use Rattle.numbers.proofs.Updating.{updated}
use Rattle.group.specs.Inner.{loss_of}
use Rattle.group.proofs.cut.Side.lose_all.Goals as goal

pub returns : goal.returns
returns c =
    let s = c.args.self.now in
    updated _ (λ (i : ℕ). loss_of s.d true (get_or s.class.now i 0) (at s.n1.now i) (get_or c.args.losses.now i 0)) 0 (length s.n1.now) c.args.losses.now c.update.new.xs
    (omega arith) (omega arith) c.update.ensures
    (λ k y m p. search rules)
