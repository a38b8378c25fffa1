-- The Gregorian calendar, days and minutes counted from 2000-01-01T00:00Z as 0.
use Rattle.std.specs.Prelude.{ℕ, zero, suc, ◌+◌, ◌*◌, ◌-◌, ◌/◌, ◌%◌, Bool, true, false, ◌&&◌, ◌||◌, leb, ltb, eqb, Option, Some, None}
use Rattle.numbers.specs.Choice.{pick}
use Rattle.calendar.specs.declared.date.Date.{Date}
use Rattle.calendar.specs.declared.moment.Moment.{Moment}

-- ---- a date and a moment, by their parts
abbrev pub date : ℕ → ℕ → ℕ → Date
date year month day = record { year = year; month = month; day = day }

abbrev pub moment : Date → ℕ → ℕ → Moment
moment d hour minute = record { date = d; hour = hour; minute = minute }

-- ---- years and months
-- every fourth year, but of the hundreds only every fourth
unfoldable pub is_leap : ℕ → Bool
is_leap year = pick (eqb (year % 400) 0) true (pick (eqb (year % 100) 0) false (eqb (year % 4) 0))

unfoldable pub days_of_year : ℕ → ℕ
days_of_year year = pick (is_leap year) 366 365

-- April, June, September and November
unfoldable pub has_thirty : ℕ → Bool
has_thirty month = eqb month 4 || (eqb month 6 || (eqb month 9 || eqb month 11))

unfoldable pub days_of_month : ℕ → ℕ → ℕ
days_of_month year month = pick (eqb month 2) (pick (is_leap year) 29 28) (pick (has_thirty month) 30 31)

-- ---- dates to numbers: the days before
-- the days of the first so many years from 2000 on
unfoldable pub days_of_years : ℕ → ℕ
days_of_years zero = 0
days_of_years (suc k) = days_of_years k + days_of_year (2000 + k)

-- the days of a year's first so many months
unfoldable pub days_of_months : ℕ → ℕ → ℕ
days_of_months year zero = 0
days_of_months year (suc k) = days_of_months year k + days_of_month year (suc k)

unfoldable pub is_date : Date → Bool
is_date d =
    leb 2000 d.year
    && (leb d.year 9999
    && (leb 1 d.month
    && (leb d.month 12
    && (leb 1 d.day
    && leb d.day (days_of_month d.year d.month)))))

-- the days before a date
unfoldable pub day_number : Date → ℕ
day_number d = days_of_years (d.year - 2000) + days_of_months d.year (d.month - 1) + (d.day - 1)

unfoldable pub day_of : Date → Option ℕ
day_of d = pick (is_date d) (Some (day_number d)) None

unfoldable pub is_moment : Moment → Bool
is_moment m = is_date m.date && (ltb m.hour 24 && ltb m.minute 60)

-- the minutes before a moment
unfoldable pub minute_number : Moment → ℕ
minute_number m = day_number m.date * 1440 + (m.hour * 60 + m.minute)

unfoldable pub minute_of : Moment → Option ℕ
minute_of m = pick (is_moment m) (Some (minute_number m)) None

-- ---- numbers to dates: what has begun by then
-- the last of starts, up to a bound, that is no later than a number
unfoldable pub last_begun : (ℕ → ℕ) → ℕ → ℕ → ℕ
last_begun start n zero = 0
last_begun start n (suc k) = pick (leb (start (suc k)) n) (suc k) (last_begun start n k)

-- the years that are over by a day: no more than its number
abbrev pub years_by : ℕ → ℕ
years_by n = last_begun days_of_years n n

-- the months of a year that are over by a day of it
abbrev pub months_by : ℕ → ℕ → ℕ
months_by year n = last_begun (days_of_months year) n 11

-- the date of a day of a year, the year's first day being 0
unfoldable pub date_in : ℕ → ℕ → Date
date_in year n = record { year = year; month = months_by year n + 1; day = n - days_of_months year (months_by year n) + 1 }

unfoldable pub date_of : ℕ → Date
date_of n = date_in (2000 + years_by n) (n - days_of_years (years_by n))

unfoldable pub moment_of : ℕ → Moment
moment_of n = record { date = date_of (n / 1440); hour = n % 1440 / 60; minute = n % 60 }

-- 9999-12-31T23:59Z
abbrev pub last_minute : ℕ
last_minute = 4207593599

-- a minute as a moment; later ones stay numbers
unfoldable pub shown_of : ℕ → Option Moment
shown_of n = pick (leb n last_minute) (Some (moment_of n)) None
