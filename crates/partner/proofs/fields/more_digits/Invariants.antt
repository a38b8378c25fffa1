use Rattle.partner.proofs.Capped.{Reading}
use Rattle.partner.proofs.fields.more_digits.Given as goal

abbrev pub invariant-loop-i : goal.invariant-loop-i
invariant-loop-i l = Reading l.s l.at l.first l.cap l.value l.i
