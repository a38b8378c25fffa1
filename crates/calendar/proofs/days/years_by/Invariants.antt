use Rattle.std.proofs.Common.{◌≡◌, ◌≤◌}
use Rattle.calendar.specs.Calendar.{days_of_years}
use Rattle.calendar.proofs.days.years_by.Given as goal

abbrev pub invariant-loop-years : goal.invariant-loop-years
invariant-loop-years l = (l.next ≡ days_of_years l.years) × (l.next ≤ l.n)
