-- "Numbers given back": the paper's number of each reason, and of each fault of a unit.
use Rattle.std.specs.Prelude.{ℕ, zero, suc, Bool, true, false, Result, Ok, Err}
use Rattle.terms.specs.Reply.{Reply, is, refused}
use Rattle.terms.specs.declared.refusal.Why.{Why}
use Rattle.terms.specs.declared.refusal.Why.TheVariants as W
use Rattle.terms.specs.declared.refusal.Refusal.{Refusal}
use Rattle.terms.specs.declared.refusal.Fault.{Fault}
use Rattle.terms.specs.declared.refusal.Fault.TheVariants as F

abbrev pub number_of : Why → ℕ
number_of W.CutShort = 1
number_of W.Kind = 2
number_of W.Quarters = 3
number_of W.Quarter = 4
number_of W.UnitCount = 5
number_of W.UnitNumber = 6
number_of W.Flag = 7
number_of W.Range = 8
number_of W.Crossed = 9
number_of W.PositionAge = 10
number_of W.MarginAge = 11
number_of W.Room = 12
number_of W.BlockOrder = 13
number_of W.EndCount = 14
number_of W.Columns = 15
number_of W.PositionAhead = 17
number_of W.MarginAhead = 18
number_of W.WorkingCrossed = 19
number_of W.Line = 20

-- a refusal as a reply
abbrev pub refusal : {A : Type 0} → Refusal → Reply A
refusal r = refused (number_of r.why) r.place

-- what a call answers, as a reply: the value, or the number of the reason and the place
abbrev pub reply : {A : Type 0} → Result A Refusal → Reply A
reply (Ok a) = is a
reply (Err r) = refusal r

-- what an answer that is none hands out in place of a refusal
abbrev pub no_refusal : Refusal
no_refusal = record { why = W.Kind; place = 0 }

-- the refusal of an answer that is one
abbrev pub refusal_of : {A : Type 0} → Result A Refusal → Refusal
refusal_of (Ok a) = no_refusal
refusal_of (Err r) = r

-- why a fault of a unit is refused
abbrev pub why_of : Fault → Why
why_of F.Kind = W.Kind
why_of F.Number = W.UnitNumber
why_of F.Class = W.Flag
why_of F.Coincide = W.Flag
why_of F.Nominated = W.Flag
why_of F.NotNominated = W.Flag
why_of F.N = W.Range
why_of F.Pc = W.Range
why_of F.StepDown = W.Range
why_of F.StepUp = W.Range
why_of F.Lower = W.Range
why_of F.Upper = W.Range
why_of F.Crossed = W.Crossed
why_of F.EndsCrossed = W.Crossed
why_of F.NotFull = W.Crossed
why_of F.WorkingCrossed = W.WorkingCrossed
why_of F.Ahead = W.MarginAhead
why_of F.Age = W.MarginAge

-- a fault's refusal at a place
abbrev pub refused_at : ℕ → Fault → Refusal
refused_at place fault = record { why = why_of fault; place = place }

-- the fault, unless the test holds: the first test that fails ends the checks of a unit
unfoldable pub check : Bool → Fault → Result Unit Fault → Result Unit Fault
check true fault rest = rest
check false fault rest = Err fault

-- what comes after a unit that passes; the refusal of one that does not, at the place of its fault
unfoldable pub passed : {A : Type 0} → (Fault → ℕ) → Result Unit Fault → Reply A → Reply A
passed place (Ok tt) rest = rest
passed place (Err fault) rest = refused (number_of (why_of fault)) (place fault)

-- units given as columns, from the one of index i on: the first fault is refused at its unit's index, and else the index after the last is told, which from 0 on is their count
unfoldable pub first_fault : (ℕ → Result Unit Fault) → ℕ → ℕ → Reply ℕ
first_fault checks i zero = is i
first_fault checks i (suc left) = passed (λ _. i) (checks i) (first_fault checks (suc i) left)
