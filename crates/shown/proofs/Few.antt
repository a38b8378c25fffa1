-- The dates and moments of numbers have four digits of a year, and two of each other part.
use Prim.Native.Nat.{ℕ, ◌≤◌, ◌<◌}
use mathlib.Core.Path.{◌≡◌, refl}
use mathlib.Core.Bool.{Bool, true, false}
use native.Mathlib.Omega.{arith}
use borrow.Author.Tests.{leb-true}
use lib.Dec.{leb}
use Rattle.numbers.specs.Choice.{pick}
use Rattle.calendar.specs.declared.date.Date.{Date}
use Rattle.calendar.specs.declared.moment.Moment.{Moment}
use Rattle.std.specs.Prelude.{Some, None}
use Rattle.calendar.specs.Calendar.{date_of, moment_of, shown_of, last_minute}
use Rattle.calendar.proofs.Lengths.{month-range}
use Rattle.calendar.proofs.Valid.{Valid, valid}
use Rattle.calendar.proofs.Trips.{date-valid, moment-valid}
use Rattle.shown.specs.Inner.{Few, FewMoment}

few-valid : (d : Date) → Valid d → Few d
few-valid d v =
    let m = month-range d.year d.month in
    record { year = omega (arith, v.year-to); month = omega (arith, v.month-to); day = omega (arith, v.day-to, m.to) }

pub few_date : (n : ℕ) → n < 2921940 → Few (date_of n)
few_date n h = few-valid (date_of n) (date-valid n h)

pub few-moment : (n : ℕ) → n ≤ last_minute → FewMoment (moment_of n)
few-moment n h =
    let v = moment-valid n h in
    record {
      date = few-valid (moment_of n).date (valid (moment_of n).date v.on);
      hour = omega (arith, v.hour-to);
      minute = omega (arith, v.minute-to);
    }

pub few_shown : (n : ℕ) (m : Moment) → shown_of n ≡ Some m → FewMoment m
unfolding shown_of
few_shown n m e = go (leb n last_minute) refl e
  where
    go : (t : Bool) → leb n last_minute ≡ t → pick t (Some (moment_of n)) None ≡ Some m → FewMoment m
    go true l e =
        let z : moment_of n ≡ m = cc in
        rw (← z) (few-moment n (leb-true n last_minute l))
    go false l e = let z : ◌≡◌ {A = ℕ} 0 1 = cc in absurd (omega arith)
