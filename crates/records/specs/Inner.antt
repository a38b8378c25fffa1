-- What inner functions ask of each other: no promise rests on it.
use Rattle.std.specs.Prelude.{ℕ, ◌+◌, Bool, true, false, ◌&&◌, ◌||◌, List, eqb, leb, ℤ, length, Result, Ok, Err}
use Rattle.std.specs.Int.Signed.{le_z}
use Rattle.numbers.specs.Bytes.{byte_at}
use Rattle.numbers.specs.Choice.{pick}
use Rattle.terms.specs.Checks.{in_range}
use Rattle.records.specs.declared.day.DayRecord.{DayRecord}
use Rattle.records.specs.declared.unit.UnitRecord.{UnitRecord}
use Rattle.records.specs.Layouts.{unit_kind, interval_kind, unit_length, interval_length, full_lower, full_upper, margins_of}
use Rattle.records.specs.Reading.{aged, ends_fit, mark_faults}
use Rattle.terms.specs.declared.refusal.Fault.{Fault}
use Rattle.terms.specs.declared.refusal.Fault.TheVariants as F
use Rattle.terms.specs.Refusals.{check}

-- a record of a kind and a length begins at a place, and lies there whole
abbrev pub is_there : List ℕ → ℕ → ℕ → ℕ → Bool
is_there s at kind len = leb (at + len) (length s) && eqb (byte_at s at) kind

-- a 03h does, an 04h, a unit record of either kind
abbrev pub is_plain : List ℕ → ℕ → Bool
is_plain s at = is_there s at unit_kind unit_length

abbrev pub is_interval : List ℕ → ℕ → Bool
is_interval s at = is_there s at interval_kind interval_length

abbrev pub is_whole : List ℕ → ℕ → Bool
is_whole s at = is_plain s at || is_interval s at

-- 9 of margins and of ends; 9 of a 03h with ends of its own, and 19
unfoldable pub pair_faults : UnitRecord → Result Unit Fault
pair_faults u = check (le_z u.step_down u.step_up) F.Crossed (check (le_z u.lower u.upper) F.EndsCrossed (Ok tt))

unfoldable pub working_faults : UnitRecord → Result Unit Fault
working_faults u =
    check (ends_fit u) F.NotFull (check (le_z (margins_of u).step_down (margins_of u).step_up) F.WorkingCrossed (Ok tt))

unfoldable pub is_fine : Result Unit Fault → Bool
is_fine (Ok tt) = true
is_fine (Err fault) = false

-- two margins, or two ends, lie in their ranges and do not cross
abbrev pub is_pair : ℤ → ℤ → Bool
is_pair low high = le_z full_lower low && (le_z low high && le_z high full_upper)

-- margins and ends of an 04h do; of a 03h nothing is asked, whose margins are the working ones
abbrev pub ends_pass : UnitRecord → Bool
ends_pass u = pick (eqb u.kind interval_kind) (is_pair u.step_down u.step_up && is_pair u.lower u.upper) true

-- a unit passes in all but the range of N and its working margins
unfoldable pub marks_pass : UnitRecord → ℕ → DayRecord → Bool
marks_pass u floor day =
    is_fine (mark_faults u floor) && (in_range u.pc.0 && (aged day.run u.made day.margin_limit && ends_pass u))
