-- `daylist --dates`: the DAY line with dates, `DAY 2026-01-14 96 2026-01-13T14:00Z`, and any other line as it is. A line is its bytes without the line feed.
use Rattle.std.specs.Prelude.{ℕ, ◌+◌, ◌/◌, ◌%◌, ◌≤◌, ◌≡◌, List, [], ◌∷◌, ◌++◌, ℤ, pos, Option, Some, None, ltb, length}
use Rattle.numbers.specs.Bytes.{laid_at}
use Rattle.numbers.specs.Choice.{pick}
use Rattle.numbers.specs.Decimal.{digit, decimal}
use Rattle.calendar.specs.declared.date.Date.{Date}
use Rattle.calendar.specs.declared.moment.Moment.{Moment}
use Rattle.calendar.specs.Calendar.{date_of, shown_of}
use Rattle.lines.specs.Lines.{spaced, line, day_line, u32_field}
use Rattle.records.specs.declared.day.DayRecord.{DayRecord}
use Rattle.text.specs.declared.line.Listed.{Listed}
use Rattle.text.specs.Line.{day_word, listed_of}

-- ---- words
abbrev pub two_digits : ℕ → List ℕ
two_digits n = digit (n / 10) ∷ digit (n % 10) ∷ []

-- 2026-01-14
unfoldable pub date_word : Date → List ℕ
date_word d = two_digits (d.year / 100) ++ (two_digits (d.year % 100) ++ ((45 ∷ two_digits d.month) ++ (45 ∷ two_digits d.day)))

-- 2026-01-13T14:00Z
unfoldable pub moment_word : Moment → List ℕ
moment_word m = date_word m.date ++ ((84 ∷ two_digits m.hour) ++ ((58 ∷ two_digits m.minute) ++ (90 ∷ [])))

-- a day as its date
unfoldable pub day_shown : ℕ → List ℕ
day_shown n = date_word (date_of n)

-- a minute as its moment; one that is later than all of them stays a number
abbrev pub shown_as : ℕ → Option Moment → List ℕ
shown_as n (Some m) = moment_word m
shown_as n None = decimal n

unfoldable pub minute_shown : ℕ → List ℕ
minute_shown n = shown_as n (shown_of n)

-- what a word reads as that stands for a number
abbrev pub whole : ℕ → Option ℤ
whole n = Some (pos n)

-- ---- the line
-- DAY day quarters run
unfoldable pub dated_line : ℕ → ℕ → ℕ → List ℕ
dated_line day quarters run = spaced day_word (day_shown day ∷ decimal quarters ∷ minute_shown run ∷ [])

abbrev pub shown_by : Option Listed → List ℕ → List ℕ
shown_by (Some told) s = dated_line told.day told.quarters told.run
shown_by None s = s

unfoldable pub shown_line : List ℕ → List ℕ
shown_line s = shown_by (listed_of s) s

-- ---- the contract
-- how long a DAY line can be: its word, a date, the quarters and a moment, each after a space
abbrev pub longest_dated : ℕ
longest_dated = 3 + (1 + 10) + u32_field + (1 + 17)

-- the room that a line asks for
abbrev pub room_by : Option Listed → List ℕ → ℕ
room_by (Some told) s = longest_dated
room_by None s = length s

-- a room that is too small stays as it was
unfoldable pub shown_in : List ℕ → List ℕ → List ℕ
shown_in s room = pick (ltb (length room) (room_by (listed_of s) s)) [] (shown_line s)

-- the bytes stand at the front of the room, which is else as it was, and n is how many they are
pub record Fronts (bytes entry : List ℕ) (n : ℕ) (exit : List ℕ) : Type 0 where
  pub written : n ≡ length bytes
  pub room : exit ≡ laid_at entry 0 bytes

-- ---- the list's own line
-- a day record whose values the bits of its fields hold
pub record HeldDay (d : DayRecord) : Type 0 where
  pub day : d.day ≤ 65535
  pub quarters : d.quarters ≤ 255
  pub run : d.run ≤ 4294967295

-- the list's DAY line of a day record, its line feed taken off and put back, is shown with the record's date and minute
pub record DayShown (d : DayRecord) : Type 0 where
  pub bare : List ℕ
  pub listed : day_line d ≡ bare ++ (10 ∷ [])
  pub shown : shown_line bare ++ (10 ∷ []) ≡ line day_word (day_shown d.day ∷ decimal d.quarters ∷ minute_shown d.run ∷ [])
