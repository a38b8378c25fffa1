-- Days and minutes as words: 2026-01-14, and 2026-01-14T13:20Z.
use Rattle.std.specs.Prelude.{ℕ, ◌-◌, Bool, ◌&&◌, List, ℤ, pos, Option, is_some, unwrap_or, option_map, eqb, length, get_or, take, drop}
use Rattle.numbers.specs.Choice.{pick}
use Rattle.calendar.specs.declared.date.Date.{Date}
use Rattle.calendar.specs.declared.moment.Moment.{Moment}
use Rattle.calendar.specs.Calendar.{day_of, minute_of}
use Rattle.text.specs.declared.values_in.Form.{Form}
use Rattle.text.specs.declared.values_in.Form.TheVariants as F
use Rattle.text.specs.Numbers.{size_of, number_in, field_of}

-- the digits from a place up to another
abbrev pub is_part : List ℕ → ℕ → ℕ → Bool
is_part s from to = is_some (size_of (take (to - from) (drop from s)))

abbrev pub part_of : List ℕ → ℕ → ℕ → ℕ
part_of s from to = unwrap_or (size_of (take (to - from) (drop from s))) 0

-- ---- dates: four digits, '-', two, '-', two
unfoldable pub has_date : List ℕ → Bool
has_date s = is_part s 0 4 && (eqb (get_or s 4 0) 45 && (is_part s 5 7 && (eqb (get_or s 7 0) 45 && is_part s 8 10)))

unfoldable pub date_spelled : List ℕ → Date
date_spelled s = record { year = part_of s 0 4; month = part_of s 5 7; day = part_of s 8 10 }

-- ---- moments: a date, 'T', two digits, ':', two, 'Z'
unfoldable pub has_time : List ℕ → Bool
has_time s = eqb (get_or s 10 0) 84 && (is_part s 11 13 && (eqb (get_or s 13 0) 58 && (is_part s 14 16 && eqb (get_or s 16 0) 90)))

unfoldable pub moment_in : List ℕ → Moment
moment_in s = record { date = date_spelled s; hour = part_of s 11 13; minute = part_of s 14 16 }

-- ---- fields
abbrev pub whole_by : Option ℕ → Option ℤ
whole_by n = option_map (λ m. pos m) n

-- a date or a number
unfoldable pub day_in : List ℕ → Option ℤ
day_in s = pick (eqb (length s) 10 && has_date s) (whole_by (day_of (date_spelled s))) (number_in s)

-- a moment or a number
unfoldable pub minute_in : List ℕ → Option ℤ
minute_in s = pick (eqb (length s) 17 && (has_date s && has_time s)) (whole_by (minute_of (moment_in s))) (number_in s)

abbrev pub value_in : Form → List ℕ → Option ℤ
value_in F.Number s = number_in s
value_in F.Day s = day_in s
value_in F.Minute s = minute_in s

-- the value of the field that starts at a place
unfoldable pub whole_at : Form → List ℕ → ℕ → Option ℤ
whole_at form text start = value_in form (field_of (drop start text))
