-- The units of a block one after another are a reading by steps, which the first refusal ends; what is at fault lies within the record.
use Rattle.std.specs.Prelude.{Ok}
use Prim.Native.Nat.{ℕ, ◌+◌, ◌<◌}
use mathlib.Core.Path.{refl}
use mathlib.Core.Bool.{Bool, true, false}
use mathlib.Core.List.{List}
use native.Mathlib.Omega.{arith}
use lib.Dec.{eqb}
use lib.IntN.{ℤ}
use Rattle.numbers.specs.Bytes.{byte_at}
use Rattle.numbers.specs.Choice.{pick}
use Rattle.terms.specs.Reply.{Reply}
use Rattle.terms.specs.Refusals.{check}
use Rattle.terms.specs.declared.refusal.Fault.{Fault}
use Rattle.terms.specs.declared.refusal.Fault.TheVariants as F
use Rattle.terms.proofs.FirstRefused.{Steps}
use Rattle.records.specs.declared.day.DayRecord.{DayRecord}
use Rattle.records.specs.declared.unit.UnitRecord.{UnitRecord}
use Rattle.records.specs.Layouts.{unit_kind, interval_kind, unit_length, full_lower, full_upper, with_ends, unit_lower, unit_upper, value_at, body_at, unit_at, length_of, longest_unit}
use Rattle.records.specs.Reading.{made_after, margin_fault, mark_faults, range_faults, order_faults, quantity_faults, value_faults, fault_place, unit_end, unit_faults, unit_of, units_of}
use Rattle.records.proofs.Checks.{Only, only-fine, only-check, only-sure, only-also}

-- what is at fault stands within the longest record
pub place-within : (fault : Fault) → fault_place fault < longest_unit
place-within F.Kind = omega arith
place-within F.Number = omega arith
place-within F.Class = omega arith
place-within F.Coincide = omega arith
place-within F.Nominated = omega arith
place-within F.NotNominated = omega arith
place-within F.N = omega arith
place-within F.Pc = omega arith
place-within F.StepDown = omega arith
place-within F.StepUp = omega arith
place-within F.Lower = omega arith
place-within F.Upper = omega arith
place-within F.Crossed = omega arith
place-within F.EndsCrossed = omega arith
place-within F.NotFull = omega arith
place-within F.WorkingCrossed = omega arith
place-within F.Ahead = omega arith
place-within F.Age = omega arith

-- the place lies within a 03h
abbrev Inside : Fault → Type 0
Inside fault = fault_place fault < unit_length

age-inside : (run made : ℕ) → Inside (margin_fault run made)
age-inside run made = go (made_after run made)
  where
    go : (t : Bool) → Inside (pick t F.Ahead F.Age)
    go true = omega arith
    go false = omega arith

-- the margins of a 03h are the working ones, which cross no more than they do
crossed-inside : (t : Bool) → Only Inside (check t F.Crossed (check true F.EndsCrossed (check true F.NotFull (check t F.WorkingCrossed (Ok tt)))))
unfolding check
crossed-inside true = only-fine Inside
crossed-inside false = only-check Inside false F.Crossed (Ok tt) (omega arith) (only-fine Inside)

-- a 03h has no fault of ends
plain-inside : (s : List ℕ) (at floor : ℕ) (day : DayRecord) → Only Inside (unit_faults (body_at s at) floor day)
unfolding unit_faults value_faults mark_faults quantity_faults range_faults order_faults
plain-inside s at floor day =
    only-also Inside _ _
    (only-check Inside _ F.Kind _ (omega arith)
    (only-also Inside _ _
    (only-check Inside _ F.Number _ (omega arith) (only-check Inside _ F.Class _ (omega arith) (only-check Inside _ F.Coincide _ (omega arith)
    (only-check Inside _ F.Nominated _ (omega arith) (only-check Inside _ F.NotNominated _ (omega arith) (only-fine Inside))))))
    (only-also Inside _ _
    (only-check Inside _ F.N _ (omega arith) (only-check Inside _ F.Pc _ (omega arith) (only-check Inside _ F.StepDown _ (omega arith)
    (only-check Inside _ F.StepUp _ (omega arith) (only-sure Inside _ F.Lower _ refl (only-sure Inside _ F.Upper _ refl (only-fine Inside)))))))
    (crossed-inside _))))
    (only-check Inside _ _ _ (age-inside day.run (body_at s at).made) (only-fine Inside))

-- so what a unit that stands at a place has wrong stands within its own record
pub place_inside : (s : List ℕ) (at floor : ℕ) (day : DayRecord) → Only (λ fault. fault_place fault < length_of (unit_at s at)) (unit_faults (unit_at s at) floor day)
unfolding unit_at
place_inside s at floor day = go (eqb (byte_at s at) interval_kind) (value_at s at unit_lower) (value_at s at unit_upper)
  where
    unit : Bool → ℤ → ℤ → UnitRecord
    unit t lower upper = with_ends (body_at s at) (pick t interval_kind unit_kind) (pick t lower full_lower) (pick t upper full_upper)

    go : (t : Bool) (lower upper : ℤ) → Only (λ fault. fault_place fault < length_of (unit t lower upper)) (unit_faults (unit t lower upper) floor day)
    go true lower upper = λ fault e. place-within fault
    go false lower upper = plain-inside s at floor day

-- so many units from a place and a least number on
abbrev pub units_after : List ℕ → DayRecord → ℕ × ℕ → ℕ → Reply ℕ
units_after s day p = units_of s p.0 p.1 day

-- each unit is a step, and the next is read where it ends, with a number above its own
pub units-steps : (s : List ℕ) (day : DayRecord)
    → Steps (λ (p : ℕ × ℕ). unit_of s p.0 p.1 day) (λ p u. (unit_end s p.0, u.number + 1)) (λ p. p.0) (units_after s day)
unfolding units_of
units-steps s day = record { none = λ p. refl; more = λ p left. refl }
