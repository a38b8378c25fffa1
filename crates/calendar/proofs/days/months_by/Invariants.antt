use Rattle.std.proofs.Common.{◌≡◌, ◌≤◌}
use Rattle.calendar.specs.Calendar.{days_of_months}
use Rattle.calendar.proofs.days.months_by.Given as goal

abbrev pub invariant-loop-months : goal.invariant-loop-months
invariant-loop-months l = (l.next ≡ days_of_months l.year l.months) × (l.next ≤ l.n)
