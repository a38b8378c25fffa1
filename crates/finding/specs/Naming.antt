-- What a refusal names, from the day before the offer, the bytes offered, and its number and place.
use Rattle.std.specs.Prelude.{ℕ, ◌+◌, ◌-◌, Bool, ◌&&◌, ◌||◌, List, Option, Some, None, leb, ltb, length}
use Rattle.std.specs.Int.Signed.{le_z}
use Rattle.numbers.specs.Bytes.{byte_at}
use Rattle.numbers.specs.Choice.{pick}
use Rattle.terms.specs.declared.refusal.Why.{Why}
use Rattle.terms.specs.declared.refusal.Why.TheVariants as W
use Rattle.terms.specs.declared.refusal.Refusal.{Refusal}
use Rattle.records.specs.declared.day.DayRecord.{DayRecord}
use Rattle.records.specs.declared.key.Key.{Key}
use Rattle.records.specs.Layouts as L
use Rattle.records.specs.Reading.{key_of}
use Rattle.walk.specs.declared.table.State.TheVariants.{Fresh, Open}
use Rattle.walk.specs.declared.table.Role.{Role}
use Rattle.walk.specs.declared.table.Role.TheVariants.{Opens, Block, Closes}
use Rattle.walk.specs.Table.{may_come, role_of}
use Rattle.day.specs.declared.value.Day.{Day}
use Rattle.finding.specs.declared.spot.UnitSpot.{UnitSpot}
use Rattle.finding.specs.declared.named.Subject.{Subject}
use Rattle.finding.specs.declared.named.Subject.TheVariants as S
use Rattle.finding.specs.declared.named.UnitField.{UnitField}
use Rattle.finding.specs.declared.named.UnitField.TheVariants as U
use Rattle.finding.specs.declared.named.Field.{Field}
use Rattle.finding.specs.declared.named.Field.TheVariants as F
use Rattle.finding.specs.declared.named.Value.{Value}
use Rattle.finding.specs.declared.named.Value.TheVariants.{Plain, Signed}
use Rattle.finding.specs.declared.named.Held.{Held}
use Rattle.finding.specs.declared.named.Held.TheVariants as H
use Rattle.finding.specs.declared.named.Finding.{Finding}
use Rattle.finding.specs.declared.named.Finding.TheVariants as N
use Rattle.finding.specs.declared.named.Named.{Named}
use Rattle.finding.specs.Spots.{group_whole, spot_of, record_at, before_at}

-- ---- whose record it is
-- BRP, zone and quarter of the group record in front
abbrev pub key_in : List ℕ → Key
key_in s = key_of (L.group_at s 0)

-- what a record is to a day names it
abbrev pub role_subject : Role → Subject
role_subject Opens = S.Day
role_subject Block = S.Group
role_subject Closes = S.End

-- some state takes a record of this kind
abbrev pub is_taken : ℕ → Bool
is_taken kind = may_come Fresh kind || may_come Open kind

abbrev pub kind_subject : ℕ → Subject
kind_subject kind = pick (is_taken kind) (role_subject (role_of kind)) S.Record

-- a group record that lies whole in front names the group; any other record is named by its kind
abbrev pub front_subject : List ℕ → Subject
front_subject s = pick (group_whole s) (S.Block (key_in s)) (kind_subject (byte_at s 0))

-- a unit record whose number is at hand names the unit; else its index does
abbrev pub number_at_hand : List ℕ → ℕ → Bool
number_at_hand s at = leb (at + (L.unit_class).place) (length s) && L.is_unit (byte_at s at)

abbrev pub unit_subject : List ℕ → UnitSpot → Subject
unit_subject s u =
    pick (number_at_hand s u.at) (S.Unit (key_in s) (L.value_at s u.at L.unit_number)) (S.UnitAt (key_in s) u.index)

abbrev pub subject_of : List ℕ → Option UnitSpot → Subject
subject_of s None = front_subject s
subject_of s (Some u) = unit_subject s u

-- ---- the field, and the value read there
-- the layout of a unit's field, and of any
abbrev pub unit_layout : UnitField → L.Field
unit_layout U.Number = L.unit_number
unit_layout U.Class = L.unit_class
unit_layout U.Coincide = L.unit_coincide
unit_layout U.Nominated = L.unit_nominated
unit_layout U.N = L.unit_n
unit_layout U.Pc = L.unit_pc
unit_layout U.StepDown = L.unit_step_down
unit_layout U.StepUp = L.unit_step_up
unit_layout U.Made = L.unit_made
unit_layout U.Lower = L.unit_lower
unit_layout U.Upper = L.unit_upper

abbrev pub layout : Field → L.Field
layout F.Kind = L.field 0 L.u8
layout F.Quarters = L.day_quarters
layout F.Quarter = L.group_quarter
layout F.UnitCount = L.group_count
layout F.PositionsMade = L.group_made
layout F.Groups = L.end_groups
layout (F.Unit f) = unit_layout f

-- signed or not, as the layout says
abbrev pub of_width : (w : L.Width) → L.Value w → Value
of_width L.u8 x = Plain x
of_width L.u16 x = Plain x
of_width L.u32 x = Plain x
of_width L.i32 z = Signed z

abbrev pub read_at : List ℕ → ℕ → L.Field → Value
read_at s at f = of_width f.width (L.value_at s at f)

abbrev pub unit_value_at : List ℕ → ℕ → UnitField → Value
unit_value_at s at f = read_at s at (unit_layout f)

abbrev pub value_in : List ℕ → ℕ → Field → Value
value_in s at f = read_at s at (layout f)

-- an offset lies in a field or in front of its end
abbrev pub up_to : UnitField → ℕ → Bool
up_to f offset = ltb offset ((unit_layout f).place + L.size (unit_layout f).width)

-- the field of a unit record in which an offset lies
unfoldable pub unit_field_at : ℕ → UnitField
unit_field_at offset =
    pick (up_to U.Number offset) U.Number
    (pick (up_to U.Class offset) U.Class
    (pick (up_to U.Coincide offset) U.Coincide
    (pick (up_to U.Nominated offset) U.Nominated
    (pick (up_to U.N offset) U.N
    (pick (up_to U.Pc offset) U.Pc
    (pick (up_to U.StepDown offset) U.StepDown
    (pick (up_to U.StepUp offset) U.StepUp
    (pick (up_to U.Made offset) U.Made
    (pick (up_to U.Lower offset) U.Lower
    U.Upper)))))))))

-- ---- what it was held against
-- a flag is 0 or 1, and N is 0 where it is not nominated
abbrev pub flag_held : ℕ → Held
flag_held offset = pick (ltb offset (L.unit_n).place) H.Flag H.NotNominated

-- run minute, limit and age, or that it was made after the run
abbrev pub age_held : ℕ → ℕ → ℕ → Held
age_held run made limit = pick (leb made run) (H.Old run limit (run - made)) (H.Ahead run limit)

-- ---- one row for each number; the record begins at a place, and the unit record before it at another
abbrev pub told_of : List ℕ → ℕ → Field → Held → Finding
told_of s at field held = N.Told (record { field = field; value = value_in s at field; held = held })

abbrev pub number_finding : List ℕ → ℕ → ℕ → Finding
number_finding s at before = told_of s at (F.Unit U.Number) (H.Above (L.value_at s before L.unit_number))

abbrev pub flag_finding : List ℕ → ℕ → ℕ → Finding
flag_finding s at offset = told_of s at (F.Unit (unit_field_at offset)) (flag_held offset)

abbrev pub range_finding : List ℕ → ℕ → ℕ → Finding
range_finding s at offset = told_of s at (F.Unit (unit_field_at offset)) H.Range

-- a field that lies below another, or above it
abbrev pub least_finding : List ℕ → ℕ → UnitField → UnitField → Finding
least_finding s at field other = told_of s at (F.Unit field) (H.AtLeast other (unit_value_at s at other))

abbrev pub most_finding : List ℕ → ℕ → UnitField → UnitField → Finding
most_finding s at field other = told_of s at (F.Unit field) (H.AtMost other (unit_value_at s at other))

-- the pair of margins, or of ends, by the place
abbrev pub crossed_finding : List ℕ → ℕ → ℕ → Finding
crossed_finding s at offset = pick (up_to U.StepUp offset) (least_finding s at U.StepUp U.StepDown) (least_finding s at U.Upper U.Lower)

-- the lower end does not lie above M+
abbrev pub lower_meets : List ℕ → ℕ → Bool
lower_meets s at = le_z (L.value_at s at L.unit_lower) (L.value_at s at L.unit_step_up)

-- an interval that leaves no room lies above the margins or below them: its lower end is above M+, or its upper end below M-
abbrev pub working_finding : List ℕ → ℕ → Finding
working_finding s at = pick (lower_meets s at) (least_finding s at U.Upper U.StepDown) (most_finding s at U.Lower U.StepUp)

abbrev pub positions_finding : List ℕ → ℕ → DayRecord → Finding
positions_finding s at d = told_of s at F.PositionsMade (age_held d.run (L.value_at s at L.group_made) d.position_limit)

abbrev pub margins_finding : List ℕ → ℕ → DayRecord → Finding
margins_finding s at d = told_of s at (F.Unit U.Made) (age_held d.run (L.value_at s at L.unit_made) d.margin_limit)

unfoldable pub finding_of : Day → List ℕ → Why → ℕ → ℕ → ℕ → Finding
finding_of day s W.CutShort place at before = N.CutShort place
finding_of day s W.Kind place at before = told_of s at F.Kind H.NotPermitted
finding_of day s W.Quarters place at before = told_of s at F.Quarters H.Quarters
finding_of day s W.Quarter place at before = told_of s at F.Quarter (H.Below day.«record».quarters)
finding_of day s W.UnitCount place at before = told_of s at F.UnitCount H.UnitCount
finding_of day s W.UnitNumber place at before = number_finding s at before
finding_of day s W.Flag place at before = flag_finding s at (place - at)
finding_of day s W.Range place at before = range_finding s at (place - at)
finding_of day s W.Crossed place at before = crossed_finding s at (place - at)
finding_of day s W.PositionAge place at before = positions_finding s at day.«record»
finding_of day s W.MarginAge place at before = margins_finding s at day.«record»
finding_of day s W.Room place at before = N.Room
finding_of day s W.BlockOrder place at before = N.NotAfter day.last
finding_of day s W.EndCount place at before = told_of s at F.Groups (H.Accepted day.groups)
finding_of day s W.Columns place at before = N.OtherCall
finding_of day s W.PositionAhead place at before = positions_finding s at day.«record»
finding_of day s W.MarginAhead place at before = margins_finding s at day.«record»
finding_of day s W.WorkingCrossed place at before = working_finding s at
finding_of day s W.Line place at before = N.OtherCall

-- the refusal of bytes that were offered to a day
unfoldable pub named_of : Day → List ℕ → Refusal → Named
named_of day s r =
    let spot = spot_of s r.place in
    record { subject = subject_of s spot; finding = finding_of day s r.why r.place (record_at spot) (before_at spot) }
