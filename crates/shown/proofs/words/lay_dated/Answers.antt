-- The parts stand one behind another.
use Rattle.std.proofs.Common.{◌+◌, arith}
use Rattle.lines.specs.Lines.{spaced, u32_field}
use Rattle.lines.proofs.Parts.{then}
use Rattle.shown.specs.Shown.{date_word, day_shown, dated_line}
use Rattle.shown.proofs.Few.{few_date}
use Rattle.shown.proofs.words.lay_dated.Goals as goal

pub date_word-requires : goal.date_word-requires
date_word-requires c = rw c.date_of.ensures (few_date c.args.day (omega (arith, c.ranges.day)))

pub returns : goal.returns
unfolding dated_line day_shown date_word spaced
returns c =
    let out = c.args.out.now in
    let h = c.requires in
    let date = rw (c.date_word.ensures, c.date_of.ensures) at c.lay_field-date.ensures in
    let q1 = then out 0 3 11 c.lay_word-word.result c.lay_field-date.result (omega (arith, h)) c.lay_word-word.ensures date in
    let q2 = then out 0 14 u32_field c.lay_field-date.result c.lay_u32_field-counted.result (omega (arith, h)) q1 (rw c.from.ensures at c.lay_u32_field-counted.ensures) in
    then out 0 (14 + u32_field) 18 c.lay_u32_field-counted.result c.lay_minute.result (omega (arith, h)) q2 c.lay_minute.ensures
