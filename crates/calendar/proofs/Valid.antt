-- What a valid date and a valid moment say of each field, and that a valid date lies before the year 10000.
use Prim.Native.Nat.{suc, ◌+◌, ◌-◌, ◌≤◌, ◌<◌}
use mathlib.Core.Path.{◌≡◌}
use mathlib.Core.Bool.{true}
use native.Mathlib.Omega.{arith}
use Rattle.std.proofs.Common.{rules, tests}
use Rattle.calendar.specs.declared.date.Date.{Date}
use Rattle.calendar.specs.declared.moment.Moment.{Moment}
use Rattle.calendar.specs.Calendar.{days_of_year, days_of_month, days_of_years, days_of_months, is_date, day_number, is_moment}
use Rattle.calendar.proofs.Begun.{rise-to}
use Rattle.calendar.proofs.Lengths.{Range, month-range, years-suc, years-rise, years-all, months-suc, months-rise, months-all}

pub record Valid (d : Date) : Type 0 where
  pub year-from : 2000 ≤ d.year
  pub year-to : d.year ≤ 9999
  pub month-from : 1 ≤ d.month
  pub month-to : d.month ≤ 12
  pub day-from : 1 ≤ d.day
  pub day-to : d.day ≤ days_of_month d.year d.month

pub valid : (d : Date) → is_date d ≡ true → Valid d
unfolding is_date
valid d e = search (rules, tests)

pub valid-year : (d : Date) → is_date d ≡ true → Range 2000 9999 d.year
valid-year d e = record { from = (valid d e).year-from; to = (valid d e).year-to }

pub is-valid : (d : Date) → Valid d → is_date d ≡ true
unfolding is_date
is-valid d v = search (rules, tests)

-- the day of the year, and its number, lie before the next year
module _ (d : Date) (v : Valid d) where
  pub in-month : days_of_months d.year (d.month - 1) + (d.day - 1) < days_of_months d.year (suc (d.month - 1))
  in-month =
      let e : suc (d.month - 1) ≡ d.month = omega arith in
      let m : days_of_month d.year (suc (d.month - 1)) ≡ days_of_month d.year d.month = rw e in
      omega (arith, months-suc d.year (d.month - 1))

  pub in-year : days_of_months d.year (d.month - 1) + (d.day - 1) < days_of_year d.year
  in-year = omega (arith, in-month, months-all d.year, rise-to (days_of_months d.year) (months-rise d.year) (suc (d.month - 1)) 12 (omega arith))

  pub before-next : day_number d < days_of_years (suc (d.year - 2000))
  unfolding day_number
  before-next =
      let e : 2000 + (d.year - 2000) ≡ d.year = omega arith in
      let y : days_of_year (2000 + (d.year - 2000)) ≡ days_of_year d.year = rw e in
      omega (arith, in-year, years-suc (d.year - 2000))

  pub before-end : day_number d < 2921940
  before-end = omega (arith, before-next, years-all, rise-to days_of_years years-rise (suc (d.year - 2000)) 8000 (omega arith))

-- ---- moments
pub record ValidMoment (m : Moment) : Type 0 where
  pub on : is_date m.date ≡ true
  pub hour-to : m.hour < 24
  pub minute-to : m.minute < 60

pub valid-moment : (m : Moment) → is_moment m ≡ true → ValidMoment m
unfolding is_moment
valid-moment m e = search (rules, tests)

pub is-valid-moment : (m : Moment) → ValidMoment m → is_moment m ≡ true
unfolding is_moment
is-valid-moment m v = search (rules, tests)

-- what the numbers of dates and of moments ask
pub ruleset dates = (valid, valid-year, before-end, month-range, valid-moment)
