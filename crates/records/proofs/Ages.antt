-- Late or early: what is not aged was made after the run or is stale, never both, and its number tells which.
use Rattle.std.specs.Prelude.{Result, Ok, Err, Option}
use Prim.Native.Nat.{ℕ, ◌-◌, ◌≤◌, ◌<◌}
use mathlib.Core.Path.{◌≡◌, refl, sym, ◌∙◌}
use mathlib.Core.Bool.{Bool, true, false, not, false≢true}
use mathlib.Core.List.{List, [], ◌∷◌}
use native.Mathlib.Omega.{arith}
use borrow.Author.Tests.{ltb-true, ltb-false, leb-false, lt-leb, le-leb}
use Rattle.numbers.specs.Choice.{pick}
use Rattle.terms.specs.Reply.{Reply, is, refused, need}
use Rattle.terms.specs.Refusals.{number_of, why_of, check}
use Rattle.terms.specs.declared.refusal.Why.TheVariants as W
use Rattle.terms.specs.declared.refusal.Fault.{Fault}
use Rattle.terms.specs.declared.refusal.Fault.TheVariants as F
use Rattle.terms.proofs.Replies.{never, need-past}
use Rattle.terms.proofs.Numbers.{is_of}
use Rattle.records.specs.declared.key.Key.{Key}
use Rattle.records.specs.declared.day.DayRecord.{DayRecord}
use Rattle.records.specs.declared.unit.UnitRecord.{UnitRecord}
use Rattle.records.specs.Layouts.{group_at}
use Rattle.records.specs.Reading.{aged, made_after, position_why, margin_fault, also, mark_faults, range_faults, order_faults, quantity_faults, value_faults, unit_faults, group_fields_of}
use Rattle.records.proofs.Checks.{Only, only-fine, only-check, only-also}

module _ (run made limit : ℕ) where
  -- what was made after the run is not aged
  ahead-not-aged : made_after run made ≡ true → aged run made limit ≡ false
  ahead-not-aged e = simp (lt-leb made run (ltb-true run made e))

  -- what is not aged and was not made after the run is older than the limit
  stale : made_after run made ≡ false → aged run made limit ≡ false → (made ≤ run) × (limit < run - made)
  stale e h =
      let m : made ≤ run = ltb-false run made e in
      (m, leb-false (run - made) limit (sym (rw (le-leb made run m)) ∙ h))

  -- one test and its number are two tests in turn: 17 and then 10
  pub position-in-turn : {A : Type 0} (place : ℕ) (rest : Reply A)
      → need (aged run made limit) (number_of (position_why run made)) place rest
      ≡ need (not (made_after run made)) 17 place (need (aged run made limit) 10 place rest)
  unfolding need
  position-in-turn place rest = go (made_after run made) refl
    where
      go : (t : Bool) → made_after run made ≡ t
          → need (aged run made limit) (number_of (pick t W.PositionAhead W.PositionAge)) place rest ≡ need (not t) 17 place (need (aged run made limit) 10 place rest)
      go true e = rw (ahead-not-aged e)
      go false e = refl

  -- and so of margins: 18 and then 11
  pub margin-in-turn : check (aged run made limit) (margin_fault run made) (Ok tt) ≡ check (not (made_after run made)) F.Ahead (check (aged run made limit) F.Age (Ok tt))
  unfolding check
  margin-in-turn = go (made_after run made) refl
    where
      go : (t : Bool) → made_after run made ≡ t
          → check (aged run made limit) (pick t F.Ahead F.Age) (Ok tt) ≡ check (not t) F.Ahead (check (aged run made limit) F.Age (Ok tt))
      go true e = rw (ahead-not-aged e)
      go false e = refl

-- what holds of 17 and of 10 holds of the number of positions that are not aged
pub of-position : (P : ℕ → Type 0) → P 17 → P 10 → (run made : ℕ) → P (number_of (position_why run made))
of-position P ahead old run made = go (made_after run made)
  where
    go : (t : Bool) → P (number_of (pick t W.PositionAhead W.PositionAge))
    go true = ahead
    go false = old

-- ---- what a refusal of positions by 10 or 17 tells
ends : {A : Type 0} (t : Bool) (m q : ℕ) (a : A) {n p : ℕ} → need t m q (is a) ≡ refused n p → (t ≡ false) × (m ≡ n)
unfolding need
ends true m q a e = never (sym e)
ends false m q a e = (refl, cc)

is-stale : (t : Bool) → number_of (pick t W.PositionAhead W.PositionAge) ≡ 10 → t ≡ false
is-stale true e = absurd (omega (arith, e))
is-stale false e = refl

is-ahead : (t : Bool) → number_of (pick t W.PositionAhead W.PositionAge) ≡ 17 → t ≡ true
is-ahead true e = refl
is-ahead false e = absurd (omega (arith, e))

module _ (s : List ℕ) (day : DayRecord) (last : Option Key) {p : ℕ} where
  -- the tests before the age's have other numbers
  by-age : (n : ℕ) → (n ≡ 4 → ⊥) → (n ≡ 5 → ⊥) → (n ≡ 13 → ⊥) → group_fields_of s day last ≡ refused n p
      → (aged day.run (group_at s 0).made day.position_limit ≡ false) × (number_of (position_why day.run (group_at s 0).made) ≡ n)
  unfolding group_fields_of
  by-age n quarter count key e = ends _ _ _ _ (need-past _ 13 _ _ (need-past _ 5 _ _ (need-past _ 4 _ _ e quarter) count) key)

  pub positions-stale : group_fields_of s day last ≡ refused 10 p
      → ((group_at s 0).made ≤ day.run) × (day.position_limit < day.run - (group_at s 0).made)
  positions-stale e =
      let h = by-age 10 (λ z. omega arith) (λ z. omega arith) (λ z. omega arith) e in
      stale _ _ _ (is-stale _ h.1) h.0

  pub positions-ahead : group_fields_of s day last ≡ refused 17 p → day.run < (group_at s 0).made
  positions-ahead e =
      let h = by-age 17 (λ z. omega arith) (λ z. omega arith) (λ z. omega arith) e in
      ltb-true _ _ (is-ahead _ h.1)

-- ---- what a fault of margins, 11 or 18, tells
abbrev of_age : Fault → Bool
of_age fault = is_of (11 ∷ 18 ∷ []) (number_of (why_of fault))

abbrev NotOfAge : Fault → Type 0
NotOfAge fault = of_age fault ≡ false

-- no fault of these checks is one of age
abbrev Early : Result Unit Fault → Type 0
Early = Only NotOfAge

module _ (u : UnitRecord) (floor : ℕ) (day : DayRecord) where
  values-early : Early (value_faults u floor)
  unfolding value_faults mark_faults quantity_faults range_faults order_faults
  values-early =
      only-check NotOfAge _ F.Kind _ refl
      (only-also NotOfAge _ _
      (only-check NotOfAge _ F.Number _ refl (only-check NotOfAge _ F.Class _ refl (only-check NotOfAge _ F.Coincide _ refl
      (only-check NotOfAge _ F.Nominated _ refl (only-check NotOfAge _ F.NotNominated _ refl (only-fine NotOfAge))))))
      (only-also NotOfAge _ _
      (only-check NotOfAge _ F.N _ refl (only-check NotOfAge _ F.Pc _ refl (only-check NotOfAge _ F.StepDown _ refl
      (only-check NotOfAge _ F.StepUp _ refl (only-check NotOfAge _ F.Lower _ refl (only-check NotOfAge _ F.Upper _ refl (only-fine NotOfAge)))))))
      (only-check NotOfAge _ F.Crossed _ refl (only-check NotOfAge _ F.EndsCrossed _ refl (only-check NotOfAge _ F.NotFull _ refl
      (only-check NotOfAge _ F.WorkingCrossed _ refl (only-fine NotOfAge)))))))

  by-margins : (fault : Fault) → of_age fault ≡ true → unit_faults u floor day ≡ Err fault
      → (aged day.run u.made day.margin_limit ≡ false) × (margin_fault day.run u.made ≡ fault)
  unfolding unit_faults also check
  by-margins fault late = go (value_faults u floor) values-early
    where
      tested : (t : Bool) → check t (margin_fault day.run u.made) (Ok tt) ≡ Err fault → (t ≡ false) × (margin_fault day.run u.made ≡ fault)
      tested true e = absurd (false≢true (sym (only-fine NotOfAge fault e) ∙ late))
      tested false e = (refl, cc)

      go : (c : Result Unit Fault) → Early c → also c (check (aged day.run u.made day.margin_limit) (margin_fault day.run u.made) (Ok tt)) ≡ Err fault
          → (aged day.run u.made day.margin_limit ≡ false) × (margin_fault day.run u.made ≡ fault)
      go (Ok tt) h e = tested _ e
      go (Err other) h e = absurd (false≢true (sym (h fault e) ∙ late))

  pub margins-stale : unit_faults u floor day ≡ Err F.Age → (u.made ≤ day.run) × (day.margin_limit < day.run - u.made)
  margins-stale e =
      let h = by-margins F.Age refl e in
      stale day.run u.made day.margin_limit (go (made_after day.run u.made) h.1) h.0
    where
      go : (t : Bool) → pick t F.Ahead F.Age ≡ F.Age → t ≡ false
      go true e = cc
      go false e = refl

  pub margins-ahead : unit_faults u floor day ≡ Err F.Ahead → day.run < u.made
  margins-ahead e = ltb-true day.run u.made (go (made_after day.run u.made) (by-margins F.Ahead refl e).1)
    where
      go : (t : Bool) → pick t F.Ahead F.Age ≡ F.Ahead → t ≡ true
      go true e = refl
      go false e = cc
