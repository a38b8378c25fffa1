-- Both ways round: the number of a number's date is that number, and the date of a valid date's number is that date; so for minutes.
use Prim.Native.Nat.{ℕ, suc, ◌+◌, ◌*◌, ◌-◌, ◌/◌, ◌%◌, ◌≤◌, ◌<◌}
use mathlib.Core.Path.{◌≡◌}
use mathlib.Core.Bool.{true}
use native.Mathlib.Numerals.{add-one}
use native.Mathlib.Omega.{arith}
use Rattle.calendar.specs.declared.date.Date.{Date}
use Rattle.std.specs.Prelude.{Some}
use Rattle.calendar.specs.declared.moment.Moment.{Moment}
use Rattle.calendar.specs.Calendar.{days_of_year, days_of_years, days_of_months, is_date, day_number, day_of, is_moment, minute_number, minute_of, years_by, months_by, date_in, date_of, moment_of, last_minute}
use Rattle.calendar.proofs.Begun.{Between, begun, begun-le, is-begun}
use Rattle.calendar.proofs.Lengths.{years-none, years-suc, years-range, years-rise, years-few, months-none, months-suc, months-rise, months-all}
use Rattle.calendar.proofs.Valid.{Valid, valid, is-valid, in-month, before-next, ValidMoment, valid-moment, is-valid-moment}

-- ---- what has begun by a day
module _ (n : ℕ) where
  pub years-between : Between days_of_years n (years_by n)
  years-between = begun days_of_years n n (omega (arith, years-none)) (omega (arith, (years-range (suc n)).from))

  pub year-begun : (k : ℕ) → Between days_of_years n k → years_by n ≡ k
  year-begun k b = is-begun days_of_years years-rise n k n (omega (arith, (years-range k).from)) b

module _ (year n : ℕ) (h : n < days_of_year year) where
  pub months-between : Between (days_of_months year) n (months_by year n)
  months-between = begun (days_of_months year) n 11 (omega (arith, months-none year)) (omega (arith, months-all year))

pub month-begun : (year n k : ℕ) → k ≤ 11 → Between (days_of_months year) n k → months_by year n ≡ k
month-begun year n k l b = is-begun (days_of_months year) (months-rise year) n k 11 l b

pub years_over : (n k : ℕ) → days_of_years k ≤ n → n < days_of_years (k + 1) → years_by n ≡ k
years_over n k low high = year-begun n k (record { low = low; high = rw (← (add-one k)) high })

pub months_over : (year n k : ℕ) → k < 12 → days_of_months year k ≤ n → n < days_of_months year (k + 1) → months_by year n ≡ k
months_over year n k few low high =
    month-begun year n k (omega arith) (record { low = low; high = rw (← (add-one k)) high })

-- ---- from a number to its date and back
module _ (n : ℕ) (h : n < 2921940) where
  pub date-valid : Valid (date_of n)
  unfolding date_of date_in
  date-valid =
      let y = years_by n in
      let b = years-between n in
      let few = years-few y n b.low h in
      let r = n - days_of_years y in
      let in-it : r < days_of_year (2000 + y) = omega (arith, years-suc y) in
      let m = months_by (2000 + y) r in
      let g = months-between (2000 + y) r in-it in
      let e : suc m ≡ m + 1 = omega arith in
      let s = rw e at (months-suc (2000 + y) m) in
      let t = rw e at g.high in
      record {
        year-from = omega arith;
        year-to = omega arith;
        month-from = omega arith;
        month-to = omega (arith, begun-le (days_of_months (2000 + y)) r 11);
        day-from = omega arith;
        day-to = omega arith;
      }

  pub number-date : day_number (date_of n) ≡ n
  unfolding day_number date_of date_in
  number-date =
      let y = years_by n in
      let b = years-between n in
      let r = n - days_of_years y in
      let in-it : r < days_of_year (2000 + y) = omega (arith, years-suc y) in
      let m = months_by (2000 + y) r in
      let g = months-between (2000 + y) r in-it in
      let e : 2000 + y - 2000 ≡ y = omega arith in
      let f : m + 1 - 1 ≡ m = omega arith in
      rw (e, f) (omega arith)

  pub day-date : day_of (date_of n) ≡ Some n
  unfolding day_of
  day-date = rw (is-valid (date_of n) date-valid, number-date)

-- ---- from a date to its number and back
module _ (d : Date) (valid-date : is_date d ≡ true) where
  pub date-number : date_of (day_number d) ≡ d
  unfolding day_number date_of date_in
  date-number =
      let v = valid d valid-date in
      let y = d.year - 2000 in
      let rest = days_of_months d.year (d.month - 1) + (d.day - 1) in
      let n = day_number d in
      let b : Between days_of_years n y = record { low = omega arith; high = before-next d v } in
      let w : Between (days_of_months d.year) rest (d.month - 1) = record { low = omega arith; high = in-month d v } in
      let e : 2000 + y ≡ d.year = omega arith in
      let f : days_of_years y + days_of_months d.year (d.month - 1) + (d.day - 1) - days_of_years y ≡ rest = omega arith in
      let g : d.month - 1 + 1 ≡ d.month = omega arith in
      let k : rest - days_of_months d.year (d.month - 1) + 1 ≡ d.day = omega arith in
      rw (year-begun n y b, e, f, month-begun d.year rest (d.month - 1) (omega arith) w, g, k)

-- ---- minutes
module _ (n : ℕ) (h : n ≤ last_minute) where
  pub moment-valid : ValidMoment (moment_of n)
  unfolding moment_of
  moment-valid =
      record
      { on = is-valid (date_of (n / 1440)) (date-valid (n / 1440) (omega arith)); hour-to = omega arith; minute-to = omega arith }

  pub number-moment : minute_number (moment_of n) ≡ n
  unfolding minute_number moment_of
  number-moment = rw (number-date (n / 1440) (omega arith)) (omega arith)

  pub minute-moment : minute_of (moment_of n) ≡ Some n
  unfolding minute_of
  minute-moment = rw (is-valid-moment (moment_of n) moment-valid, number-moment)

pub moment-number : (m : Moment) → is_moment m ≡ true → moment_of (minute_number m) ≡ m
unfolding minute_number moment_of
moment-number m valid-one =
    let v = valid-moment m valid-one in
    let n = day_number m.date * 1440 + (m.hour * 60 + m.minute) in
    let e : n / 1440 ≡ day_number m.date = omega arith in
    let f : n % 1440 / 60 ≡ m.hour = omega arith in
    let g : n % 60 ≡ m.minute = omega arith in
    rw (e, f, g, date-number m.date v.on)
