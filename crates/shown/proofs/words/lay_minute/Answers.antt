-- By whether the minute has a moment.
use Rattle.std.proofs.Common.{sym, ◌∙◌, arith}
use Rattle.shown.specs.Shown.{date_word, moment_word, minute_shown}
use Rattle.lines.specs.Lines.{u32_field}
use Rattle.lines.proofs.Parts.{within}
use Rattle.shown.proofs.Few.{few_shown}
use Rattle.shown.proofs.words.lay_minute.Goals as goal

pub moment_word-requires : goal.moment_word-requires
moment_word-requires c = few_shown c.args.minute c.in-Some.m (sym c.moment_of.ensures ∙ c.in-Some.is)

pub returns-in-Some : goal.returns-in-Some
unfolding minute_shown moment_word date_word
returns-in-Some c = rw (sym c.moment_of.ensures ∙ c.in-Some.is) (rw c.moment_word.ensures at c.lay_field.ensures)

pub returns-in-None : goal.returns-in-None
unfolding minute_shown
returns-in-None c = rw (sym c.moment_of.ensures ∙ c.in-None.is) (within c.args.out.now c.args.at u32_field 18 c.lay_u32_field.result (omega (arith, c.lay_u32_field.ensures.few)) c.lay_u32_field.ensures)
