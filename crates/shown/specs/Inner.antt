-- What inner functions ask of each other: no promise rests on it.
use Rattle.std.specs.Prelude.{◌<◌}
use Rattle.calendar.specs.declared.date.Date.{Date}
use Rattle.calendar.specs.declared.moment.Moment.{Moment}

-- each part of a date has no more digits than are written
pub record Few (d : Date) : Type 0 where
  pub year : d.year < 10000
  pub month : d.month < 100
  pub day : d.day < 100

pub record FewMoment (m : Moment) : Type 0 where
  pub date : Few m.date
  pub hour : m.hour < 100
  pub minute : m.minute < 100
