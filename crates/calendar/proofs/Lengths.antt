-- Years and months have their lengths, so their starts rise; the months of a year come to the year, and 8,000 years to 2,921,940 days.
use Prim.Native.Nat.{ℕ, zero, suc, ◌+◌, ◌*◌, ◌≤◌, ◌<◌}
use mathlib.Core.Path.{◌≡◌, refl}
use Rattle.std.proofs.Common.{rules}
use native.Mathlib.Numerals.{add-one}
use native.Mathlib.Omega.{arith}
use Rattle.calendar.specs.Calendar.{is_leap, days_of_year, has_thirty, days_of_month, days_of_years, days_of_months}
use Rattle.calendar.proofs.Begun.{rise-to}

pub record Range (low high n : ℕ) : Type 0 where
  pub from : low ≤ n
  pub to : n ≤ high

pub year-range : (year : ℕ) → Range 365 366 (days_of_year year)
unfolding days_of_year
year-range year = search rules

pub month-range : (year month : ℕ) → Range 28 31 (days_of_month year month)
unfolding days_of_month
month-range year month = search rules

-- ---- years
pub years-suc : (k : ℕ) → days_of_years (suc k) ≡ days_of_years k + days_of_year (2000 + k)
unfolding days_of_years
years-suc k = refl

pub years-more : (k : ℕ) → days_of_years (k + 1) ≡ days_of_years k + days_of_year (2000 + k)
years-more k = rw add-one (years-suc k)

pub years-none : days_of_years 0 ≡ 0
unfolding days_of_years
years-none = refl

pub years-range : (k : ℕ) → Range (365 * k) (366 * k) (days_of_years k)
years-range zero = record { from = omega arith; to = omega (arith, years-none) }
years-range (suc k) =
    let r = years-range k in
    let y = year-range (2000 + k) in
    record { from = omega (arith, years-suc k); to = omega (arith, years-suc k) }

pub years-rise : (a : ℕ) → days_of_years a ≤ days_of_years (suc a)
years-rise a = omega (arith, years-suc a)

pub years-all : days_of_years 8000 ≡ 2921940
unfolding days_of_years days_of_year is_leap
years-all = refl

-- the years that are over by a day up to 9999-12-31
pub years-few : (k n : ℕ) → days_of_years k ≤ n → n < 2921940 → k < 8000
years-few k n l h = grind (arith, years-all, rise-to days_of_years years-rise 8000 k)

-- ---- months
pub months-suc : (year k : ℕ) → days_of_months year (suc k) ≡ days_of_months year k + days_of_month year (suc k)
unfolding days_of_months
months-suc year k = refl

pub months-more : (year k : ℕ) → days_of_months year (k + 1) ≡ days_of_months year k + days_of_month year (k + 1)
months-more year k = rw (add-one k) (months-suc year k)

pub months-none : (year : ℕ) → days_of_months year 0 ≡ 0
unfolding days_of_months
months-none year = refl

pub months-range : (year k : ℕ) → Range (28 * k) (31 * k) (days_of_months year k)
months-range year zero = record { from = omega arith; to = omega (arith, months-none year) }
months-range year (suc k) =
    let r = months-range year k in
    let m = month-range year (suc k) in
    record { from = omega (arith, months-suc year k); to = omega (arith, months-suc year k) }

pub months-rise : (year a : ℕ) → days_of_months year a ≤ days_of_months year (suc a)
months-rise year a = omega (arith, months-suc year a)

pub months-all : (year : ℕ) → days_of_months year 12 ≡ days_of_year year
unfolding days_of_months days_of_month has_thirty days_of_year
months-all year = search rules

pub months-whole : (year k : ℕ) → k ≡ 12 → days_of_months year k ≡ days_of_year year
months-whole year k e = rw e (months-all year)

-- what the sums of years and of months ask
pub ruleset spans = (year-range, years-none, years-more, years-range, years-all, month-range, months-none, months-more, months-range, months-whole)
