-- The making of a day, line by line (docs/TEXT.md): what a line makes where it comes, and what lies in the room then.
use Rattle.std.specs.Prelude.{ℕ, ◌+◌, ◌-◌, ◌≡◌, Bool, true, false, not, ◌||◌, List, eqb, leb, ltb, length, Option, Some, None, Result, Ok, Err}
use Rattle.numbers.specs.Bytes.{laid_at}
use Rattle.numbers.specs.Choice.{pick}
use Rattle.terms.specs.Reply.{Reply, is, refused}
use Rattle.terms.specs.Refusals.{number_of, why_of}
use Rattle.terms.specs.declared.refusal.Why.{Why}
use Rattle.terms.specs.declared.refusal.Why.TheVariants as W
use Rattle.terms.specs.declared.refusal.Fault.{Fault}
use Rattle.records.specs.declared.day.DayRecord.{DayRecord}
use Rattle.records.specs.declared.group.GroupRecord.{GroupRecord}
use Rattle.records.specs.declared.unit.UnitRecord.{UnitRecord}
use Rattle.records.specs.declared.end.EndRecord.{EndRecord}
use Rattle.records.specs.Layouts.{day_kind, day_bytes, group_kind, group_length, group_bytes, unit_kind, unit_bytes, length_of, end_kind, end_bytes}
use Rattle.terms.specs.Checks.{unit_count}
use Rattle.records.specs.Reading.{value_faults}
use Rattle.writers.specs.Writing.{laid, write_day_of, write_end_of}
use Rattle.text.specs.declared.line.Line.{Line}
use Rattle.text.specs.declared.line.Line.TheVariants as L
use Rattle.text.specs.declared.fields.Field.{Field}
use Rattle.making.specs.declared.spot.Spot.{Spot}
use Rattle.making.specs.declared.spot.Spot.TheVariants.{Nowhere, Came, Word}
use Rattle.making.specs.Spot.{quarters_spot, quarter_spot, count_spot, fault_spot}
use Rattle.making.specs.declared.making.Refused.{Refused}
use Rattle.making.specs.declared.making.Block.{Block}
use Rattle.making.specs.declared.making.Making.{Making}
use Rattle.making.specs.declared.making.Making.TheVariants.{Opening, Between, Within, Over}
use Rattle.making.specs.declared.making.Made.{Made}

-- what a line makes: what is due then, and how many bytes of the room are a record or a block that is whole; or a number, at a line, and what of the line
pub data Told : Type 0 where
  on : Making → Told
  whole : Making → ℕ → Told
  refuses : ℕ → ℕ → Spot → Told

abbrev pub told_made : Making → Option ℕ → Told
told_made next None = on next
told_made next (Some bytes) = whole next bytes

-- what an answer tells
abbrev pub told : Result Made Refused → Told
told (Ok m) = told_made m.next m.whole
told (Err r) = refuses r.number r.line r.spot

-- a refusal with the paper's number of a reason
abbrev pub by : Why → ℕ → Spot → Refused
by why line spot = record { number = number_of why; line = line; spot = spot }

-- what a line makes, and the room then
pub record Turn : Type 0 where
  pub made : Told
  pub room : List ℕ

abbrev pub turn : Told → List ℕ → Turn
turn made room = record { made = made; room = room }

-- a call's answer and its room are the right ones
pub record Turns (right : Turn) (r : Result Made Refused) (exit : List ℕ) : Type 0 where
  pub answered : told r ≡ right.made
  pub left : exit ≡ right.room

-- ---- single records: as their writers answer
abbrev pub written_made : Reply ℕ → Making → ℕ → Spot → Told
written_made (is bytes) next line spot = whole next bytes
written_made (refused number place) next line spot = refuses number line spot

unfoldable pub day_turn : DayRecord → ℕ → List ℕ → Turn
day_turn d line room =
    turn (written_made (write_day_of d (length room)) Between line (quarters_spot d)) (laid (write_day_of d (length room)) (day_bytes d) room)

unfoldable pub end_turn : EndRecord → ℕ → List ℕ → Turn
end_turn e line room =
    turn (written_made (write_end_of (length room)) Over line Nowhere) (laid (write_end_of (length room)) (end_bytes e) room)

-- ---- blocks: 5 at once; 4 and the units' faults, the first of them, when all lines are read
abbrev pub open_found : GroupRecord → ℕ → Option Refused
open_found g line = pick (ltb g.quarter 100) None (Some (by W.Quarter line (quarter_spot g)))

unfoldable pub group_turn : GroupRecord → ℕ → List ℕ → Turn
group_turn g line room =
    pick (unit_count g.count)
    (pick (leb group_length (length room))
    (turn
    (on (Within (record { left = g.count; here = group_length; floor = 0; found = open_found g line })))
    (laid_at room 0 (group_bytes g)))
    (turn (refuses 12 line Nowhere) room))
    (turn (refuses 5 line (count_spot g)) room)

-- the fault of a unit, unless one was found before
abbrev pub found_of : Option Refused → Result Unit Fault → UnitRecord → ℕ → Option Refused
found_of None (Ok tt) u line = None
found_of None (Err fault) u line = Some (by (why_of fault) line (fault_spot u fault))
found_of (Some first) checked u line = Some first

abbrev pub whole_made : Option Refused → ℕ → Told
whole_made None bytes = whole Between bytes
whole_made (Some r) bytes = refuses r.number r.line r.spot

-- a unit lies where the one before ends, and its number is above that of the one before
unfoldable pub made_by_unit : Block → UnitRecord → Option Refused → Told
made_by_unit b u found =
    pick (leb b.left 1) (whole_made found (b.here + length_of u))
    (on (Within (record { left = b.left - 1; here = b.here + length_of u; floor = u.number + 1; found = found })))

unfoldable pub unit_turn : Block → UnitRecord → ℕ → List ℕ → Turn
unit_turn b u line room =
    pick (leb (b.here + length_of u) (length room))
    (turn (made_by_unit b u (found_of b.found (value_faults u b.floor) u line)) (laid_at room b.here (unit_bytes u)))
    (turn (refuses 12 line Nowhere) room)

-- where no unit is due none may come
abbrev pub unit_next : Making → UnitRecord → ℕ → List ℕ → Turn
unit_next Opening u line room = turn (refuses 2 line (Came unit_kind)) room
unit_next Between u line room = turn (refuses 2 line (Came unit_kind)) room
unit_next (Within b) u line room = unit_turn b u line room
unit_next Over u line room = turn (refuses 2 line (Came unit_kind)) room

-- ---- lines: a DAY first and only first, a UNIT where one is due and nowhere else, nothing after END
abbrev pub is_due : Making → ℕ → Bool
is_due Opening kind = eqb kind day_kind
is_due Between kind = eqb kind group_kind || eqb kind end_kind
is_due (Within b) kind = eqb kind unit_kind
is_due Over kind = false

-- whether the text may end
abbrev pub is_over : Making → Bool
is_over Opening = false
is_over Between = false
is_over (Within b) = false
is_over Over = true

abbrev pub may_come : Making → Line → Bool
may_come m (L.Day d) = is_due m day_kind
may_come m (L.Group g) = is_due m group_kind
may_come m (L.Unit u) = is_due m unit_kind
may_come m (L.End e) = is_due m end_kind
may_come m L.Passed = true
may_come m L.TooLong = not (is_over m)
may_come m (L.Not kind field) = is_due m kind

-- a field that is not in the form
abbrev pub word_of : ℕ → Field → Spot
word_of kind field = Word kind field

-- what a line makes that may come; 0 where it is not in the form
abbrev pub line_turn : Making → Line → ℕ → List ℕ → Turn
line_turn m (L.Day d) line room = day_turn d line room
line_turn m (L.Group g) line room = group_turn g line room
line_turn m (L.Unit u) line room = unit_next m u line room
line_turn m (L.End e) line room = end_turn e line room
line_turn m L.Passed line room = turn (on m) room
line_turn m L.TooLong line room = turn (refuses 0 line Nowhere) room
line_turn m (L.Not kind field) line room = turn (refuses 0 line (word_of kind field)) room

-- the word of a line that may not come
abbrev pub came_of : Line → Spot
came_of (L.Day d) = Came day_kind
came_of (L.Group g) = Came group_kind
came_of (L.Unit u) = Came unit_kind
came_of (L.End e) = Came end_kind
came_of L.Passed = Nowhere
came_of L.TooLong = Nowhere
came_of (L.Not kind field) = word_of kind field

-- 2 comes before 0
unfoldable pub turn_of : Making → Line → ℕ → List ℕ → Turn
turn_of m l line room = pick (may_come m l) (line_turn m l line room) (turn (refuses 2 line (came_of l)) room)
