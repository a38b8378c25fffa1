-- `copy` meets its contract: after i turns the first i places are those of the column copied.
use Rattle.std.proofs.Common.{sym, ◌∙◌, arith, rules, w32, SFits}
use Rattle.std.proofs.lemmas.Int.{to_z-of_z}
use lib.IntN.{pos}
use Rattle.numbers.specs.Column.{at}
use Rattle.numbers.proofs.Columns.{column-self}
use Rattle.numbers.proofs.Filling.{filled-start, filled-turn, filled-end}
use Rattle.group.proofs.judge.copy.Goals as goal

pub loop-i-init : goal.loop-i-init
loop-i-init c = filled-start _ _ _

pub loop-i-preserved : goal.loop-i-preserved
loop-i-preserved c =
    let f : SFits w32 (at c.args.from.now c.loop-i.i) = search rules in
    filled-turn c.loop-i.invariant c.requires (pos 0) (to_z-of_z w32 _ f) (omega arith)

pub returns : goal.returns
returns c = filled-end c.loop-i.invariant c.requires (omega arith) ∙ sym (column-self (pos 0) _)
