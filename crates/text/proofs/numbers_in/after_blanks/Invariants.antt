use Rattle.std.proofs.Common.{◌≡◌, ◌+◌, drop}
use Rattle.text.specs.Numbers.{blanks}
use Rattle.text.proofs.numbers_in.after_blanks.Given as goal

abbrev pub invariant-loop-at : goal.invariant-loop-at
invariant-loop-at l = l.from + blanks (drop l.from l.text) ≡ l.at + blanks (drop l.at l.text)
