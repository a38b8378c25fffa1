-- Dates that a reader can hold against a wall calendar, by computation from the definitions.
use mathlib.Core.Path.{◌≡◌, refl}
use Rattle.std.specs.Prelude.{Some, None}
use Rattle.calendar.specs.Calendar.{date, moment, is_leap, days_of_year, has_thirty, days_of_month, days_of_years, days_of_months, is_date, day_number, day_of, is_moment, minute_number, minute_of}

pub first-day : day_of (date 2000 1 1) ≡ Some 0
unfolding is_leap days_of_year has_thirty days_of_month days_of_years days_of_months is_date day_number day_of
first-day = refl

pub sample-day : day_of (date 2026 1 14) ≡ Some 9510
unfolding is_leap days_of_year has_thirty days_of_month days_of_years days_of_months is_date day_number day_of
sample-day = refl

pub sample-minute : minute_of (moment (date 2026 1 13) 14 0) ≡ Some 13693800
unfolding is_leap days_of_year has_thirty days_of_month days_of_years days_of_months is_date day_number is_moment minute_number minute_of
sample-minute = refl

pub leap-day : day_of (date 2000 2 29) ≡ Some 59
unfolding is_leap days_of_year has_thirty days_of_month days_of_years days_of_months is_date day_number day_of
leap-day = refl

pub leap-day-none : day_of (date 2100 2 29) ≡ None
unfolding is_leap days_of_year has_thirty days_of_month days_of_years days_of_months is_date day_number day_of
leap-day-none = refl

pub month-13-none : day_of (date 2026 13 1) ≡ None
unfolding is_leap days_of_year has_thirty days_of_month days_of_years days_of_months is_date day_number day_of
month-13-none = refl

pub hour-24-none : minute_of (moment (date 2026 1 14) 24 0) ≡ None
unfolding is_leap days_of_year has_thirty days_of_month days_of_years days_of_months is_date day_number is_moment minute_number minute_of
hour-24-none = refl
