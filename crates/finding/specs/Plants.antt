-- A refusal of a unit's field names the right plant: the first unit of the block that does not pass.
use Rattle.std.specs.Prelude.{ℕ, suc, ◌+◌, ◌-◌, ◌<◌, ◌≡◌, Bool, true, false, ◌&&◌, List}
use Rattle.std.specs.Int.Signed.{le_z}
use Rattle.numbers.specs.Choice.{pick}
use Rattle.terms.specs.Reply.{is}
use Rattle.terms.specs.Refusals.{why_of, refusal}
use Rattle.terms.specs.declared.refusal.Why.{Why}
use Rattle.terms.specs.declared.refusal.Why.TheVariants as W
use Rattle.terms.specs.declared.refusal.Fault.{Fault}
use Rattle.terms.specs.declared.refusal.Fault.TheVariants as A
use Rattle.terms.specs.declared.refusal.Refusal.{Refusal}
use Rattle.records.specs.declared.day.DayRecord.{DayRecord}
use Rattle.records.specs.Layouts as L
use Rattle.records.specs.Reading.{fault_place, unit_place, unit_in, judged_by, units_of}
use Rattle.day.specs.declared.value.Day.{Day}
use Rattle.finding.specs.declared.named.Subject.TheVariants as S
use Rattle.finding.specs.declared.named.UnitField.TheVariants as U
use Rattle.finding.specs.declared.named.Field.{Field}
use Rattle.finding.specs.declared.named.Field.TheVariants as F
use Rattle.finding.specs.declared.named.Held.{Held}
use Rattle.finding.specs.declared.named.Held.TheVariants as H
use Rattle.finding.specs.Naming.{key_in, layout, unit_value_at, age_held, told_of, lower_meets, named_of}

-- the refusals that speak of one unit: those that docs/refusals.txt marks `unit`, to which tests/refusals holds this table
abbrev pub of_unit : Why → Bool
of_unit W.CutShort = false
of_unit W.Kind = false
of_unit W.Quarters = false
of_unit W.Quarter = false
of_unit W.UnitCount = false
of_unit W.UnitNumber = true
of_unit W.Flag = true
of_unit W.Range = true
of_unit W.Crossed = true
of_unit W.PositionAge = false
of_unit W.MarginAge = true
of_unit W.Room = false
of_unit W.BlockOrder = false
of_unit W.EndCount = false
of_unit W.Columns = false
of_unit W.PositionAhead = false
of_unit W.MarginAhead = true
of_unit W.WorkingCrossed = true
of_unit W.Line = false

-- the field told, and what it is held against: the unit's record begins at a place, and the one before it at another
abbrev pub fault_field : List ℕ → ℕ → Fault → Field
fault_field s at A.Kind = F.Kind
fault_field s at A.Number = F.Unit U.Number
fault_field s at A.Class = F.Unit U.Class
fault_field s at A.Coincide = F.Unit U.Coincide
fault_field s at A.Nominated = F.Unit U.Nominated
fault_field s at A.NotNominated = F.Unit U.N
fault_field s at A.N = F.Unit U.N
fault_field s at A.Pc = F.Unit U.Pc
fault_field s at A.StepDown = F.Unit U.StepDown
fault_field s at A.StepUp = F.Unit U.StepUp
fault_field s at A.Lower = F.Unit U.Lower
fault_field s at A.Upper = F.Unit U.Upper
fault_field s at A.Crossed = F.Unit U.StepUp
fault_field s at A.EndsCrossed = F.Unit U.Upper
fault_field s at A.NotFull = F.Unit U.Upper
fault_field s at A.WorkingCrossed = F.Unit (pick (lower_meets s at) U.Upper U.Lower)
fault_field s at A.Ahead = F.Unit U.Made
fault_field s at A.Age = F.Unit U.Made

abbrev pub fault_held : DayRecord → List ℕ → ℕ → ℕ → Fault → Held
fault_held d s at before A.Kind = H.NotPermitted
fault_held d s at before A.Number = H.Above (L.value_at s before L.unit_number)
fault_held d s at before A.Class = H.Flag
fault_held d s at before A.Coincide = H.Flag
fault_held d s at before A.Nominated = H.Flag
fault_held d s at before A.NotNominated = H.NotNominated
fault_held d s at before A.N = H.Range
fault_held d s at before A.Pc = H.Range
fault_held d s at before A.StepDown = H.Range
fault_held d s at before A.StepUp = H.Range
fault_held d s at before A.Lower = H.Range
fault_held d s at before A.Upper = H.Range
fault_held d s at before A.Crossed = H.AtLeast U.StepDown (unit_value_at s at U.StepDown)
fault_held d s at before A.EndsCrossed = H.AtLeast U.Lower (unit_value_at s at U.Lower)
fault_held d s at before A.NotFull = H.AtLeast U.Lower (unit_value_at s at U.Lower)
fault_held d s at before A.WorkingCrossed = pick (lower_meets s at) (H.AtLeast U.StepDown (unit_value_at s at U.StepDown)) (H.AtMost U.StepUp (unit_value_at s at U.StepUp))
fault_held d s at before A.Ahead = age_held d.run (L.value_at s at L.unit_made) d.margin_limit
fault_held d s at before A.Age = age_held d.run (L.value_at s at L.unit_made) d.margin_limit

-- the interval lies above the margins, or below them
abbrev pub Apart : List ℕ → ℕ → Type 0
Apart s at = lower_meets s at && le_z (L.value_at s at L.unit_step_down) (L.value_at s at L.unit_upper) ≡ false

-- The units before it pass, it does not, and the place is its own record's and then the field's; BRP, zone and quarter are the block's own, the number is its own. Of an interval that leaves no room the place is that of the lower end, and the end told lies beyond the margin told.
pub record Plant (day : Day) (s : List ℕ) (r : Refusal) : Type 0 where
  pub index : ℕ
  pub fault : Fault
  pub counted : index < (L.group_at s 0).count
  pub pass : units_of s L.group_length 0 (judged_by (L.group_at s 0) day.«record») index ≡ is (unit_place s index)
  pub fails : units_of s L.group_length 0 (judged_by (L.group_at s 0) day.«record») (suc index) ≡ refusal r
  pub why : r.why ≡ why_of fault
  pub place : r.place ≡ unit_place s index + fault_place fault
  pub field : (fault ≡ A.WorkingCrossed → ⊥) → (layout (fault_field s (unit_place s index) fault)).place ≡ fault_place fault
  pub apart : fault ≡ A.WorkingCrossed → Apart s (unit_place s index)
  pub named : named_of day s r
      ≡ record {
        subject = S.Unit (key_in s) (unit_in s index).number;
        finding = told_of s (unit_place s index) (fault_field s (unit_place s index) fault) (fault_held day.«record» s (unit_place s index) (unit_place s (index - 1)) fault);
      }
