use Rattle.std.proofs.Common.{◌≡◌, ◌≤◌, drop}
use Rattle.text.specs.Numbers.{size_from}
use Rattle.text.proofs.numbers_in.size_of.Given as goal

abbrev pub invariant-loop-byte : goal.invariant-loop-byte
invariant-loop-byte l = (size_from 0 l.digits ≡ size_from l.size (drop l.byte-index l.digits)) × (l.size ≤ 4294967295)
