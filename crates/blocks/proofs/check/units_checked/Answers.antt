-- Units that were read to their end are a block.
use Rattle.std.proofs.Common.{sym, ap, ◌∙◌}
use Rattle.terms.specs.Reply.{is}
use Rattle.blocks.proofs.Telling.{read-block}
use Rattle.blocks.proofs.check.units_checked.Goals as goal

pub returns-in-Some : goal.returns-in-Some
returns-in-Some c = ap is c.of.ensures ∙ sym (read-block _ _ _ c.requires.0 c.requires.1 c.judged_by-by.ensures c.units_into-read.ensures c.in-Some.is)
