use Rattle.std.proofs.Common.{◌≡◌, ◌+◌, drop, length}
use Rattle.text.specs.Numbers.{field_of}
use Rattle.text.proofs.numbers_in.field_end.Given as goal

abbrev pub invariant-loop-at : goal.invariant-loop-at
invariant-loop-at l = l.from + length (field_of (drop l.from l.text)) ≡ l.at + length (field_of (drop l.at l.text))
