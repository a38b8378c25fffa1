-- "Numbers given back", for records that are read. Each record: 1 if empty, 2, 1, then fields; the first refused field ends the reading.
use Rattle.std.specs.Prelude.{ℕ, zero, suc, ◌+◌, ◌-◌, Bool, true, ◌&&◌, ◌||◌, List, eqb, leb, ltb, pos, length, Result, Ok, Err, Option, Some, None}
use Rattle.std.specs.Int.Signed.{le_z}
use Rattle.numbers.specs.Bytes.{byte_at}
use Rattle.numbers.specs.Choice.{pick, eq_z}
use Rattle.terms.specs.Reply.{Reply, is, need, next}
use Rattle.terms.specs.Refusals.{number_of, check, passed}
use Rattle.terms.specs.Quantities.{known_class}
use Rattle.terms.specs.Checks.{is_flag, unit_count, in_range}
use Rattle.terms.specs.declared.refusal.Why.{Why}
use Rattle.terms.specs.declared.refusal.Why.TheVariants as W
use Rattle.terms.specs.declared.refusal.Fault.{Fault}
use Rattle.terms.specs.declared.refusal.Fault.TheVariants as F
use Rattle.records.specs.declared.day.DayRecord.{DayRecord}
use Rattle.records.specs.declared.group.GroupRecord.{GroupRecord}
use Rattle.records.specs.declared.unit.UnitRecord.{UnitRecord}
use Rattle.records.specs.declared.end.EndRecord.{EndRecord}
use Rattle.records.specs.declared.key.Key.{Key}
use Rattle.records.specs.Layouts.{day_kind, day_length, day_quarters, day_at, day_length_of}
use Rattle.records.specs.Layouts.{group_kind, group_length, group_brp, group_quarter, group_count, group_made, group_at}
use Rattle.records.specs.Layouts.{interval_kind, is_unit, unit_at, length_of, full_lower, full_upper, margins_of}
use Rattle.records.specs.Layouts.{unit_number, unit_class, unit_coincide, unit_nominated, unit_n, unit_pc, unit_step_down, unit_step_up, unit_made, unit_lower, unit_upper}
use Rattle.records.specs.Layouts.{end_kind, end_length, end_groups, end_at}

-- the head of a record of a kind and a length that is to begin at a place; where it ends
unfoldable pub head_of : List ℕ → ℕ → ℕ → ℕ → Reply ℕ
head_of s at kind len =
    need (ltb at (length s)) 1 (length s)
    (need (eqb (byte_at s at) kind) 2 at
    (need (leb (at + len) (length s)) 1 (length s)
    (is (at + len))))

-- an age is run minute less made minute; it must be 0 up to the limit
abbrev pub aged : ℕ → ℕ → ℕ → Bool
aged run made limit = leb made run && leb (run - made) limit

-- made after the run: a clock is wrong
abbrev pub made_after : ℕ → ℕ → Bool
made_after run made = ltb run made

-- what is not aged was made after the run, or else is stale: 17 or 10 of positions, 18 or 11 of margins
abbrev pub position_why : ℕ → ℕ → Why
position_why run made = pick (made_after run made) W.PositionAhead W.PositionAge

abbrev pub margin_fault : ℕ → ℕ → Fault
margin_fault run made = pick (made_after run made) F.Ahead F.Age

-- ---- the day record
-- the quarters of a day
abbrev pub permitted : ℕ → Bool
permitted quarters = eqb quarters 92 || (eqb quarters 96 || eqb quarters 100)

unfoldable pub day_fields_of : List ℕ → Reply DayRecord
day_fields_of s = need (permitted (day_at s 0).quarters) 3 day_quarters.place (is (day_at s 0))

-- the head of the day record at the front, and where that record ends
abbrev pub day_head_of : List ℕ → Reply ℕ
day_head_of s = head_of s 0 day_kind day_length

abbrev pub day_end : List ℕ → ℕ
day_end s = day_length_of (day_at s 0)

unfoldable pub day_of : List ℕ → Reply DayRecord
day_of s = next (day_head_of s) λ _. day_fields_of s

-- ---- the group record
-- blocks rise strictly by (BRP, zone, quarter)
abbrev pub below : Key → Key → Bool
below a b =
    pick (eqb a.brp b.brp)
    (pick (eqb a.zone b.zone)
    (ltb a.quarter b.quarter)
    (ltb a.zone b.zone))
    (ltb a.brp b.brp)

abbrev pub follows : Option Key → Key → Bool
follows None key = true
follows (Some last) key = below last key

abbrev pub key_of : GroupRecord → Key
key_of g = record { brp = g.brp; zone = g.zone; quarter = g.quarter }

unfoldable pub group_fields_of : List ℕ → DayRecord → Option Key → Reply GroupRecord
group_fields_of s day last =
    need (ltb (group_at s 0).quarter day.quarters) 4 group_quarter.place
    (need (unit_count (group_at s 0).count) 5 group_count.place
    (need (follows last (key_of (group_at s 0))) 13 group_brp.place
    (need (aged day.run (group_at s 0).made day.position_limit) (number_of (position_why day.run (group_at s 0).made)) group_made.place
    (is (group_at s 0)))))

abbrev pub group_head_of : List ℕ → Reply ℕ
group_head_of s = head_of s 0 group_kind group_length

unfoldable pub group_of : List ℕ → DayRecord → Option Key → Reply GroupRecord
group_of s day last = next (group_head_of s) λ _. group_fields_of s day last

-- the day record that a group's units are judged by: the day's own
abbrev pub judged_by : GroupRecord → DayRecord → DayRecord
judged_by group day = day

-- ---- the end record
unfoldable pub end_fields_of : List ℕ → ℕ → Reply EndRecord
end_fields_of s groups = need (eqb (end_at s 0).groups groups) 14 end_groups.place (is (end_at s 0))

abbrev pub end_head_of : List ℕ → Reply ℕ
end_head_of s = head_of s 0 end_kind end_length

unfoldable pub end_of : List ℕ → ℕ → Reply EndRecord
end_of s groups = next (end_head_of s) λ _. end_fields_of s groups

-- ---- the unit records of a block
-- the kind of unit record that is due at a place: 04h where one begins there, and else 03h
abbrev pub kind_due : List ℕ → ℕ → ℕ
kind_due s at = (unit_at s at).kind

-- the head of the unit record that is to begin at a place
abbrev pub unit_head_of : List ℕ → ℕ → Reply ℕ
unit_head_of s at = head_of s at (kind_due s at) (length_of (unit_at s at))

-- where the unit record that begins at a place ends
abbrev pub unit_end : List ℕ → ℕ → ℕ
unit_end s at = at + length_of (unit_at s at)

-- the place of the unit of index i, the first of which begins at a place: each begins where the one before ends
unfoldable pub place_from : List ℕ → ℕ → ℕ → ℕ
place_from s at zero = at
place_from s at (suc i) = unit_end s (place_from s at i)

-- in a block the first begins behind the group record
abbrev pub unit_place : List ℕ → ℕ → ℕ
unit_place s i = place_from s group_length i

-- the unit of index i in a block
abbrev pub unit_in : List ℕ → ℕ → UnitRecord
unit_in s i = unit_at s (unit_place s i)

-- the checks that come after others, where those pass
unfoldable pub also : Result Unit Fault → Result Unit Fault → Result Unit Fault
also (Ok tt) rest = rest
also (Err fault) rest = Err fault

-- 6 and 7; the floor is 0 for the first unit of a block, and then the number before plus 1
unfoldable pub mark_faults : UnitRecord → ℕ → Result Unit Fault
mark_faults u floor =
    check (leb floor u.number) F.Number
    (check (known_class u.class) F.Class
    (check (is_flag u.coincide) F.Coincide
    (check (is_flag u.nominated) F.Nominated
    (check (eqb u.nominated 1 || eq_z u.n.0 (pos 0)) F.NotNominated
    (Ok tt)))))

-- 8 for each quantity in turn
unfoldable pub range_faults : UnitRecord → Result Unit Fault
range_faults u =
    check (in_range u.n.0) F.N
    (check (in_range u.pc.0) F.Pc
    (check (in_range u.step_down) F.StepDown
    (check (in_range u.step_up) F.StepUp
    (check (in_range u.lower) F.Lower
    (check (in_range u.upper) F.Upper
    (Ok tt))))))

-- a 03h has the full ends
abbrev pub ends_fit : UnitRecord → Bool
ends_fit u = eqb u.kind interval_kind || (eq_z u.lower full_lower && eq_z u.upper full_upper)

-- 9 of margins, of ends and of a 03h with ends of its own, then 19
unfoldable pub order_faults : UnitRecord → Result Unit Fault
order_faults u =
    check (le_z u.step_down u.step_up) F.Crossed
    (check (le_z u.lower u.upper) F.EndsCrossed
    (check (ends_fit u) F.NotFull
    (check (le_z (margins_of u).step_down (margins_of u).step_up) F.WorkingCrossed
    (Ok tt))))

unfoldable pub quantity_faults : UnitRecord → Result Unit Fault
quantity_faults u = also (range_faults u) (order_faults u)

-- what a unit's values can have wrong; 2 is of those given as columns, whose kind no head told
unfoldable pub value_faults : UnitRecord → ℕ → Result Unit Fault
value_faults u floor = check (is_unit u.kind) F.Kind (also (mark_faults u floor) (quantity_faults u))

-- the same, and then the age of its margins, by the day
unfoldable pub unit_faults : UnitRecord → ℕ → DayRecord → Result Unit Fault
unit_faults u floor day =
    also (value_faults u floor) (check (aged day.run u.made day.margin_limit) (margin_fault day.run u.made) (Ok tt))

-- the place in the record of what is at fault
abbrev pub fault_place : Fault → ℕ
fault_place F.Kind = 0
fault_place F.Number = unit_number.place
fault_place F.Class = unit_class.place
fault_place F.Coincide = unit_coincide.place
fault_place F.Nominated = unit_nominated.place
fault_place F.NotNominated = unit_n.place
fault_place F.N = unit_n.place
fault_place F.Pc = unit_pc.place
fault_place F.StepDown = unit_step_down.place
fault_place F.StepUp = unit_step_up.place
fault_place F.Lower = unit_lower.place
fault_place F.Upper = unit_upper.place
fault_place F.Crossed = unit_step_up.place
fault_place F.EndsCrossed = unit_upper.place
fault_place F.NotFull = unit_upper.place
fault_place F.WorkingCrossed = unit_lower.place
fault_place F.Ahead = unit_made.place
fault_place F.Age = unit_made.place

unfoldable pub unit_fields_of : List ℕ → ℕ → ℕ → DayRecord → Reply UnitRecord
unit_fields_of s at floor day =
    passed (λ fault. at + fault_place fault) (unit_faults (unit_at s at) floor day) (is (unit_at s at))

unfoldable pub unit_of : List ℕ → ℕ → ℕ → DayRecord → Reply UnitRecord
unit_of s at floor day = next (unit_head_of s at) λ _. unit_fields_of s at floor day

-- so many units from a place on; where they end
unfoldable pub units_of : List ℕ → ℕ → ℕ → DayRecord → ℕ → Reply ℕ
units_of s at floor day zero = is at
units_of s at floor day (suc left) =
    next (unit_of s at floor day) λ u. units_of s (unit_end s at) (u.number + 1) day left
