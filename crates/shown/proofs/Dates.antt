-- The word that is shown for a day or a minute is read as that day or minute, by mkday's own reading.
use Prim.Native.Nat.{ℕ, ◌/◌, ◌%◌, ◌≤◌, ◌<◌}
use mathlib.Core.Path.{◌≡◌, refl}
use mathlib.Core.Bool.{Bool, true, false}
use mathlib.Core.List.{List, [], ◌∷◌, ◌++◌, append-nil}
use native.Mathlib.Omega.{arith}
use borrow.Author.Tests.{leb-true}
use lib.Dec.{leb}
use lib.ListN.{length}
use Rattle.numbers.specs.Choice.{pick}
use Rattle.numbers.specs.Decimal.{digit, all_digits, number_from}
use Rattle.calendar.specs.declared.date.Date.{Date}
use Rattle.calendar.specs.declared.moment.Moment.{Moment}
use Rattle.std.specs.Prelude.{Some, None}
use Rattle.calendar.specs.Calendar.{date_of, moment_of, shown_of, last_minute}
use Rattle.calendar.proofs.Trips.{day-date, minute-moment}
use Rattle.numbers.proofs.Digits.{some-digit}
use Rattle.numbers.proofs.ReadBack.{digit-is}
use Rattle.text.specs.Numbers.{size_of, field_of}
use Rattle.text.specs.Dates.{has_date, date_spelled, has_time, moment_in, day_in, minute_in}
use Rattle.shown.specs.Inner.{Few, FewMoment}
use Rattle.shown.specs.Shown.{two_digits, date_word, moment_word, day_shown, minute_shown, shown_as, whole}
use Rattle.shown.proofs.Few.{few_date, few-moment}
use Rattle.shown.proofs.Figures.{size_is, minute-read, solid-more, solid-decimal}

two_size : (n : ℕ) → n < 100 → size_of (two_digits n) ≡ Some n
unfolding all_digits number_from
two_size n h =
    size_is (two_digits n) n (omega arith) (rw (digit-is (n / 10) (omega arith), digit-is (n % 10) (omega arith))) (omega arith) (omega arith)

four-size : (n : ℕ) → n < 10000 → size_of (two_digits (n / 100) ++ two_digits (n % 100)) ≡ Some n
unfolding all_digits number_from
four-size n h =
    size_is (two_digits (n / 100) ++ two_digits (n % 100)) n (omega arith)
    (rw (digit-is (n / 100 / 10) (omega arith), digit-is (n / 100 % 10) (omega arith), digit-is (n % 100 / 10) (omega arith), digit-is (n % 100 % 10) (omega arith)))
    (omega arith) (omega arith)

-- ---- dates
module _ (d : Date) (f : Few d) (rest : List ℕ) where
  date-form : has_date (date_word d ++ rest) ≡ true
  unfolding has_date date_word
  date-form = rw (four-size d.year f.year, two_size d.month f.month, two_size d.day f.day)

  date-back : date_spelled (date_word d ++ rest) ≡ d
  unfolding date_spelled date_word
  date-back = rw (four-size d.year f.year, two_size d.month f.month, two_size d.day f.day)

-- ---- moments
module _ (m : Moment) (f : FewMoment m) where
  time-form : has_time (moment_word m) ≡ true
  unfolding has_time moment_word date_word
  time-form = rw (two_size m.hour f.hour, two_size m.minute f.minute)

  moment-back : moment_in (moment_word m) ≡ m
  unfolding moment_in date_spelled moment_word date_word
  moment-back =
      rw
      (four-size m.date.year f.date.year, two_size m.date.month f.date.month, two_size m.date.day f.date.day, two_size m.hour f.hour, two_size m.minute f.minute)

  moment-form : has_date (moment_word m) ≡ true
  unfolding moment_word
  moment-form = date-form m.date f.date ((84 ∷ two_digits m.hour) ++ ((58 ∷ two_digits m.minute) ++ (90 ∷ [])))

moment-length : (m : Moment) → length (moment_word m) ≡ 17
unfolding moment_word date_word
moment-length m = refl

date-length : (d : Date) → length (date_word d) ≡ 10
unfolding date_word
date-length d = refl

-- ---- read back
pub shown-day-back : (n : ℕ) → n < 2921940 → day_in (day_shown n) ≡ whole n
unfolding day_in day_shown
shown-day-back n h =
    let d = date_of n in
    let f = few_date n h in
    let form = rw append-nil at (date-form d f []) in
    let back = rw append-nil at (date-back d f []) in
    rw (date-length d, form, back, day-date n h)

at_back : (n : ℕ) → n ≤ last_minute → minute_in (moment_word (moment_of n)) ≡ whole n
unfolding minute_in
at_back n h =
    let m = moment_of n in
    let f = few-moment n h in
    rw (moment-length m, moment-form m f, time-form m f, moment-back m f, minute-moment n h)

pub shown-minute-back : (n : ℕ) → n ≤ 4294967295 → minute_in (minute_shown n) ≡ whole n
unfolding minute_shown shown_of
shown-minute-back n h = go (leb n last_minute) refl
  where
    go : (t : Bool) → leb n last_minute ≡ t → minute_in (shown_as n (pick t (Some (moment_of n)) None)) ≡ whole n
    go true e = at_back n (leb-true n last_minute e)
    go false e = minute-read n h

-- ---- each is one field
two-solid : (n : ℕ) (s : List ℕ) → field_of s ≡ s → field_of (two_digits n ++ s) ≡ two_digits n ++ s
two-solid n s e = solid-more (digit (n / 10)) (digit (n % 10) ∷ s) (omega arith) (solid-more (digit (n % 10)) s (omega arith) e)

date-solid : (d : Date) (s : List ℕ) → field_of s ≡ s → field_of (date_word d ++ s) ≡ date_word d ++ s
unfolding date_word
date-solid d s e =
    two-solid (d.year / 100) (two_digits (d.year % 100) ++ (45 ∷ two_digits d.month ++ (45 ∷ two_digits d.day ++ s)))
    (two-solid (d.year % 100) (45 ∷ two_digits d.month ++ (45 ∷ two_digits d.day ++ s))
    (solid-more 45 (two_digits d.month ++ (45 ∷ two_digits d.day ++ s)) (omega arith)
    (two-solid d.month (45 ∷ two_digits d.day ++ s)
    (solid-more 45 (two_digits d.day ++ s) (omega arith)
    (two-solid d.day s e)))))

none-solid : field_of [] ≡ []
unfolding field_of
none-solid = refl

moment-solid : (m : Moment) → field_of (moment_word m) ≡ moment_word m
unfolding moment_word
moment-solid m =
    date-solid m.date (84 ∷ two_digits m.hour ++ (58 ∷ two_digits m.minute ++ (90 ∷ [])))
    (solid-more 84 (two_digits m.hour ++ (58 ∷ two_digits m.minute ++ (90 ∷ []))) (omega arith)
    (two-solid m.hour (58 ∷ two_digits m.minute ++ (90 ∷ []))
    (solid-more 58 (two_digits m.minute ++ (90 ∷ [])) (omega arith)
    (two-solid m.minute (90 ∷ [])
    (solid-more 90 [] (omega arith) none-solid)))))

pub solid-day : (n : ℕ) → field_of (day_shown n) ≡ day_shown n
unfolding day_shown
solid-day n = rw append-nil at (date-solid (date_of n) [] none-solid)

pub long-day : (n : ℕ) → 0 < length (day_shown n)
unfolding day_shown
long-day n = omega (arith, date-length (date_of n))

pub solid-minute : (n : ℕ) → field_of (minute_shown n) ≡ minute_shown n
unfolding minute_shown shown_of
solid-minute n = go (leb n last_minute)
  where
    go : (t : Bool) → field_of (shown_as n (pick t (Some (moment_of n)) None)) ≡ shown_as n (pick t (Some (moment_of n)) None)
    go true = moment-solid (moment_of n)
    go false = solid-decimal n

pub long-minute : (n : ℕ) → 0 < length (minute_shown n)
unfolding minute_shown shown_of
long-minute n = go (leb n last_minute)
  where
    go : (t : Bool) → 0 < length (shown_as n (pick t (Some (moment_of n)) None))
    go true = omega (arith, moment-length (moment_of n))
    go false = omega (arith, some-digit n)
