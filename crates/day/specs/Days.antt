-- "Ways in" and "House records": a day that goes in and comes back as a value, and which records may come.
use Rattle.std.specs.Prelude.{◌+◌, Bool, true, not, ◌&&◌, eqb, Some, None}
use Rattle.records.specs.declared.day.DayRecord.{DayRecord}
use Rattle.records.specs.declared.key.Key.{Key}
use Rattle.records.specs.Layouts.{day_with}
use Rattle.records.specs.Reading.{permitted}
use Rattle.walk.specs.declared.table.State.{State}
use Rattle.walk.specs.declared.table.State.TheVariants.{Fresh, Open, Closed}
use Rattle.day.specs.declared.value.Day.{Day}

-- a day to which nothing was offered yet; its day record stands for nothing
abbrev pub fresh : Day
fresh =
    record {
      state = Fresh;
      «record» = day_with 0 0 0 0 0;
      groups = 0;
      last = None;
    }

-- a day record opens a day, a block is one group more and the last one accepted, an end record closes the day
abbrev pub opened : DayRecord → Day
opened d = record { state = Open; «record» = d; groups = 0; last = None }

abbrev pub counted : Day → Key → Day
counted day key = record { state = day.state; «record» = day.«record»; groups = day.groups + 1; last = Some key }

abbrev pub closed : Day → Day
closed day = record { state = Closed; «record» = day.«record»; groups = day.groups; last = day.last }

-- no run of calls gives an open value with 4,294,967,295 groups or with quarters not 92, 96 or 100; fresh and closed values are judged by the table alone
abbrev pub could_be_open : Day → Bool
could_be_open day = not (eqb day.groups 4294967295) && permitted day.«record».quarters

abbrev pub possible_in : State → Day → Bool
possible_in Fresh day = true
possible_in Open day = could_be_open day
possible_in Closed day = true

abbrev pub possible : Day → Bool
possible day = possible_in day.state day
