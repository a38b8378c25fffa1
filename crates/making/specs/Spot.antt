-- What of a line was refused: of a value that the writers refuse its field and the value, of a word what is shown.
use Rattle.std.specs.Prelude.{ℕ, min, ◌≡◌, ◌&&◌, List, ◌++◌, leb, length, get_or, drop, pos}
use Rattle.numbers.specs.Choice.{pick}
use Rattle.numbers.specs.Column.{column}
use Rattle.terms.specs.declared.refusal.Fault.{Fault}
use Rattle.terms.specs.declared.refusal.Fault.TheVariants as F
use Rattle.records.specs.declared.day.DayRecord.{DayRecord}
use Rattle.records.specs.declared.group.GroupRecord.{GroupRecord}
use Rattle.records.specs.declared.unit.UnitRecord.{UnitRecord}
use Rattle.records.specs.Layouts.{day_kind, group_kind, unit_kind}
use Rattle.making.specs.declared.spot.Spot.{Spot}
use Rattle.making.specs.declared.spot.Spot.TheVariants.{Value}

-- ---- a value that the writers refuse: the record's kind, the field's index in the line, from 1 (docs/TEXT.md), and the value there
-- 3 is told of a DAY's quarters
abbrev pub quarters_spot : DayRecord → Spot
quarters_spot d = Value day_kind 2 (pos d.quarters)

-- 4 of a GROUP's quarter, 5 of its unit count
abbrev pub quarter_spot : GroupRecord → Spot
quarter_spot g = Value group_kind 3 (pos g.quarter)

abbrev pub count_spot : GroupRecord → Spot
count_spot g = Value group_kind 4 (pos g.count)

-- 6 to 9 and 19 of the field of a UNIT's fault: N where it is not 0 though not nominated, M- of crossed margins, the lower end of crossed ends and of an interval that leaves no room; no unit of a text has the faults of kind, of a 03h's ends and of age
abbrev pub fault_spot : UnitRecord → Fault → Spot
fault_spot u F.Kind = Value unit_kind 0 (pos 0)
fault_spot u F.Number = Value unit_kind 1 (pos u.number)
fault_spot u F.Class = Value unit_kind 2 (pos u.class)
fault_spot u F.Coincide = Value unit_kind 3 (pos u.coincide)
fault_spot u F.Nominated = Value unit_kind 4 (pos u.nominated)
fault_spot u F.NotNominated = Value unit_kind 5 u.n.0
fault_spot u F.N = Value unit_kind 5 u.n.0
fault_spot u F.Pc = Value unit_kind 6 u.pc.0
fault_spot u F.StepDown = Value unit_kind 7 u.step_down
fault_spot u F.StepUp = Value unit_kind 8 u.step_up
fault_spot u F.Lower = Value unit_kind 10 u.lower
fault_spot u F.Upper = Value unit_kind 11 u.upper
fault_spot u F.Crossed = Value unit_kind 7 u.step_down
fault_spot u F.EndsCrossed = Value unit_kind 10 u.lower
fault_spot u F.NotFull = Value unit_kind 10 (pos 0)
fault_spot u F.WorkingCrossed = Value unit_kind 10 u.lower
fault_spot u F.Ahead = Value unit_kind 9 (pos 0)
fault_spot u F.Age = Value unit_kind 9 (pos 0)

-- ---- the word as it was found, for a person to read: at most 40 bytes, and '?' for what is not printable
abbrev pub shown_byte : ℕ → ℕ
shown_byte b = pick (leb 32 b && leb b 126) b 63

abbrev pub shown_at : List ℕ → ℕ → ℕ
shown_at word i = shown_byte (get_or word i 0)

abbrev pub shown_length : ℕ → ℕ → ℕ
shown_length word room = min 40 (min word room)

-- the word stands at the front of the room, which is else as it was
pub record Shows (word room : List ℕ) (r : ℕ) (exit : List ℕ) : Type 0 where
  pub long : r ≡ shown_length (length word) (length room)
  pub bytes : exit ≡ column r (shown_at word) ++ drop r room
