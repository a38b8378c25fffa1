use Rattle.std.proofs.Common.{◌≡◌}
use Rattle.calendar.specs.Calendar.{days_of_months}
use Rattle.calendar.proofs.days.days_of_months.Given as goal

abbrev pub invariant-loop-k : goal.invariant-loop-k
invariant-loop-k l = l.days ≡ days_of_months l.year l.k
