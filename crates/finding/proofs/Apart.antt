-- A unit of which only the working margins cross has its interval above its margins or below them: the larger of M- and the lower end above the smaller of M+ and the upper end leaves two of four cases, as each pair is in order.
use Rattle.std.specs.Prelude.{Result, Ok, Err}
use Prim.Native.Nat.{ℕ}
use mathlib.Core.Path.{◌≡◌, refl, sym, ap, ◌∙◌}
use mathlib.Core.Bool.{Bool, true, false, ◌&&◌, false≢true, and-false}
use mathlib.Core.List.{List}
use lib.Dec.{eqb}
use lib.IntN.{ℤ}
use lib.Signed.{le_z}
use Rattle.numbers.specs.Bytes.{byte_at}
use Rattle.numbers.specs.Choice.{pick}
use Rattle.terms.specs.Refusals.{number_of, why_of, check}
use Rattle.terms.specs.declared.refusal.Fault.{Fault}
use Rattle.terms.specs.declared.refusal.Fault.TheVariants as F
use Rattle.records.specs.declared.day.DayRecord.{DayRecord}
use Rattle.records.specs.declared.unit.UnitRecord.{UnitRecord}
use Rattle.records.specs.Layouts.{unit_kind, interval_kind, full_lower, full_upper, with_ends, unit_step_down, unit_step_up, unit_lower, unit_upper, value_at, body_at, unit_at, larger_of, smaller_of}
use Rattle.records.specs.Reading.{made_after, margin_fault, mark_faults, range_faults, order_faults, quantity_faults, value_faults, unit_faults}
use Rattle.records.proofs.Checks.{Only, only-fine, only-check, only-also}
use Rattle.finding.specs.Plants.{Apart}

no_room : (a b : Bool) (down up lower upper : ℤ) → le_z down up ≡ true → le_z lower upper ≡ true → le_z (pick a lower down) (pick b up upper) ≡ false → le_z lower up && le_z down upper ≡ false
no_room true true down up lower upper m i e = rw e
no_room true false down up lower upper m i e = absurd (false≢true (sym e ∙ i))
no_room false true down up lower upper m i e = absurd (false≢true (sym e ∙ m))
no_room false false down up lower upper m i e = rw e (and-false (le_z lower up))

module _ (s : List ℕ) (at floor : ℕ) (day : DayRecord) where
  -- a fault that is refused by 19 says so
  abbrev Telling : Fault → Type 0
  Telling fault = number_of (why_of fault) ≡ 19 → Apart s at

  silent : (fault : Fault) → eqb (number_of (why_of fault)) 19 ≡ false → Telling fault
  silent fault other e = absurd (false≢true (sym other ∙ ap (λ n. eqb n 19) e))

  past : (t : Bool) (fault : Fault) (rest : Result Unit Fault) → eqb (number_of (why_of fault)) 19 ≡ false → Only Telling rest → Only Telling (check t fault rest)
  past t fault rest other = only-check Telling t fault rest (silent fault other)

  age : (run made : ℕ) → Telling (margin_fault run made)
  age run made = go (made_after run made)
    where
      go : (t : Bool) → Telling (pick t F.Ahead F.Age)
      go true = silent F.Ahead refl
      go false = silent F.Age refl

  abbrev down : ℤ
  down = value_at s at unit_step_down

  abbrev up : ℤ
  up = value_at s at unit_step_up

  abbrev lower : ℤ
  lower = value_at s at unit_lower

  abbrev upper : ℤ
  upper = value_at s at unit_upper

  -- the checks of order, of an 04h and of a 03h
  ends : Only Telling (check (le_z down up) F.Crossed (check (le_z lower upper) F.EndsCrossed (check (le_z (larger_of down lower) (smaller_of up upper)) F.WorkingCrossed (Ok tt))))
  unfolding check
  ends = go (le_z down up) (le_z lower upper) (le_z (larger_of down lower) (smaller_of up upper)) refl refl refl
    where
      go : (m i w : Bool) → le_z down up ≡ m → le_z lower upper ≡ i → le_z (larger_of down lower) (smaller_of up upper) ≡ w
          → Only Telling (check m F.Crossed (check i F.EndsCrossed (check w F.WorkingCrossed (Ok tt))))
      go true true true x y z = only-fine Telling
      go true true false x y z = only-check Telling false F.WorkingCrossed (Ok tt) (λ e. no_room (le_z down lower) (le_z up upper) down up lower upper x y z) (only-fine Telling)
      go true false w x y z = past false F.EndsCrossed (Ok tt) refl (only-fine Telling)
      go false i w x y z = past false F.Crossed (Ok tt) refl (only-fine Telling)

  margins : (t : Bool) → Only Telling (check t F.Crossed (check t F.WorkingCrossed (Ok tt)))
  unfolding check
  margins true = only-fine Telling
  margins false = past false F.Crossed (Ok tt) refl (only-fine Telling)

  abbrev unit : Bool → UnitRecord
  unit t = with_ends (body_at s at) (pick t interval_kind unit_kind) (pick t lower full_lower) (pick t upper full_upper)

  marks : (u : UnitRecord) → Only Telling (mark_faults u floor)
  unfolding mark_faults
  marks u = past _ F.Number _ refl (past _ F.Class _ refl (past _ F.Coincide _ refl (past _ F.Nominated _ refl (past _ F.NotNominated _ refl (only-fine Telling)))))

  ranges : (u : UnitRecord) → Only Telling (range_faults u)
  unfolding range_faults
  ranges u =
      past _ F.N _ refl (past _ F.Pc _ refl (past _ F.StepDown _ refl (past _ F.StepUp _ refl (past _ F.Lower _ refl (past _ F.Upper _ refl (only-fine Telling))))))

  orders : (t : Bool) → Only Telling (order_faults (unit t))
  unfolding order_faults check
  orders true = ends
  orders false = margins (le_z down up)

  told : (t : Bool) → Only Telling (unit_faults (unit t) floor day)
  unfolding unit_faults value_faults quantity_faults
  told t =
      only-also Telling _ _
      (past _ F.Kind _ refl (only-also Telling _ _ (marks _) (only-also Telling _ _ (ranges _) (orders t))))
      (only-check Telling _ _ _ (age day.run (unit t).made) (only-fine Telling))

  pub ends-apart : unit_faults (unit_at s at) floor day ≡ Err F.WorkingCrossed → Apart s at
  unfolding unit_at
  ends-apart e = told (eqb (byte_at s at) interval_kind) F.WorkingCrossed e refl
