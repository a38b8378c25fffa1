-- A unit that passes in all but N's range and its margins, and what is still to ask of it.
use Rattle.std.specs.Prelude.{Result, Ok, Err}
use Prim.Native.Nat.{ℕ, ◌≤◌}
use mathlib.Core.Path.{◌≡◌, refl}
use mathlib.Core.Bool.{Bool, true, false, ◌&&◌, ◌||◌}
use mathlib.Core.List.{List}
use native.Mathlib.Omega.{arith}
use borrow.Author.Tests.{leb-true}
use lib.Dec.{eqb}
use lib.IntN.{ℤ, pos, neg_ℤ}
use lib.Signed.{le_z}
use Rattle.numbers.specs.Choice.{pick, eq_z}
use Rattle.numbers.specs.Range.{Within}
use Rattle.numbers.proofs.Choices.{and_both}
use Rattle.numbers.proofs.Integers.{zarith}
use Rattle.terms.specs.Reply.{is, next}
use Rattle.terms.specs.Quantities.{known_class, takes_sold}
use Rattle.terms.specs.Refusals.{check, passed}
use Rattle.terms.specs.Checks.{in_range}
use Rattle.terms.specs.declared.refusal.Fault.TheVariants as F
use Rattle.terms.proofs.Passing.{passes, range-within}
use Rattle.records.specs.declared.day.DayRecord.{DayRecord}
use Rattle.records.specs.declared.unit.UnitRecord.{UnitRecord}
use Rattle.records.specs.Layouts.{interval_kind, is_unit, full_lower, full_upper, unit_at, larger_of, smaller_of, margins_of}
use Rattle.records.specs.Reading.{aged, also, mark_faults, range_faults, ends_fit, order_faults, quantity_faults, value_faults, unit_faults, unit_fields_of, unit_of}
use Rattle.records.specs.Decoding.{unit_n0}
use Rattle.records.specs.Inner.{is_whole, is_fine, is_pair, ends_pass, marks_pass}
use Rattle.records.proofs.Checks.{also-fine}
use Rattle.records.proofs.Accepted.{unit-is}
use Rattle.records.proofs.UnitHeads.{whole-read}
use Rattle.terms.specs.declared.refusal.Fault.{Fault}

fine-is : (r : Result Unit Fault) → is_fine r ≡ true → r ≡ Ok tt
unfolding is_fine
fine-is (Ok tt) e = refl
fine-is (Err fault) e =
    let z : ◌≡◌ {A = ℕ} 0 1 = cc in
    absurd (omega arith)

-- two quantities in their ranges that do not cross are a pair, and no others
pairs : (low high : ℤ) → in_range low ≡ true → in_range high ≡ true → le_z low high ≡ true → is_pair low high ≡ true
pairs low high a b e =
    let x = and_both (le_z full_lower low) (le_z low full_upper) a in
    let y = and_both (le_z full_lower high) (le_z high full_upper) b in
    rw (x.0, e, y.1)

paired : (low high : ℤ) → is_pair low high ≡ true → (in_range low ≡ true) × ((in_range high ≡ true) × (le_z low high ≡ true))
paired low high e =
    let x = and_both (le_z full_lower low) (le_z low high && le_z high full_upper) e in
    let y = and_both (le_z low high) (le_z high full_upper) x.1 in
    let a = x.0 in
    let b = y.0 in
    let c = y.1 in
    let l : le_z low full_upper ≡ true = omega zarith in
    let h : le_z full_lower high ≡ true = omega zarith in
    (rw (a, l), (rw (h, c), b))

pub equal : (a b : ℤ) → eq_z a b ≡ true → a ≡ b
equal a b e =
    let x = and_both (le_z a b) (le_z b a) e in
    let l = x.0 in
    let h = x.1 in
    omega zarith

either : (t : Bool) → pick t true true ≡ true
either true = refl
either false = refl

-- what the marks say of a unit
pub record Marked (u : UnitRecord) : Type 0 where
  pub stated : eqb u.nominated 1 || eq_z u.n.0 (pos 0) ≡ true
  pub pc : Within 1000000 u.pc.0
  pub flags : (known_class u.class ≡ true) × ((u.nominated ≤ 1) × (u.coincide ≤ 1))

module _ (u : UnitRecord) (floor : ℕ) (day : DayRecord) where
  abbrev fresh : Bool
  fresh = aged day.run u.made day.margin_limit

  parts : marks_pass u floor day ≡ true → (mark_faults u floor ≡ Ok tt) × ((in_range u.pc.0 ≡ true) × ((fresh ≡ true) × (ends_pass u ≡ true)))
  unfolding marks_pass
  parts e =
      let a = and_both (is_fine (mark_faults u floor)) (in_range u.pc.0 && (fresh && ends_pass u)) e in
      let b = and_both (in_range u.pc.0) (fresh && ends_pass u) a.1 in
      (fine-is _ a.0, (b.0, and_both fresh (ends_pass u) b.1))

  pub marked : marks_pass u floor day ≡ true → Marked u
  unfolding mark_faults
  marked e =
      let p = parts e in
      let number = passes _ _ _ p.0 in
      let class = passes _ _ _ number.1 in
      let coincide = passes _ _ _ class.1 in
      let nominated = passes _ _ _ coincide.1 in
      let stated = passes _ _ _ nominated.1 in
      record { stated = stated.0; pc = range-within _ p.1.0; flags = (class.0, (leb-true _ _ nominated.0, leb-true _ _ coincide.0)) }

  -- a unit without a fault has these marks
  pub marks-needed : unit_faults u floor day ≡ Ok tt → marks_pass u floor day ≡ true
  unfolding unit_faults value_faults quantity_faults range_faults order_faults marks_pass is_fine
  marks-needed e =
      let a = also-fine _ _ e in
      let v = also-fine _ _ (passes _ _ _ a.0).1 in
      let q = also-fine _ _ v.1 in
      let n = passes _ _ _ q.0 in
      let pc = passes _ _ _ n.1 in
      let down = passes _ _ _ pc.1 in
      let up = passes _ _ _ down.1 in
      let lower = passes _ _ _ up.1 in
      let upper = passes _ _ _ lower.1 in
      let crossed = passes _ _ _ q.1 in
      let ends = passes _ _ _ crossed.1 in
      let age = passes _ _ _ a.1 in
      let pair = pairs u.step_down u.step_up down.0 up.0 crossed.0 in
      let own = pairs u.lower u.upper lower.0 upper.0 ends.0 in
      rw (v.0, pc.0, age.0, pair, own) (either (eqb u.kind interval_kind))

  -- N lies in its range where n0 does: it is n0, or 0
  n-in-range : eqb u.nominated 1 || eq_z u.n.0 (pos 0) ≡ true → in_range (unit_n0 u) ≡ true → in_range u.n.0 ≡ true
  n-in-range = go (eqb u.nominated 1) (takes_sold u.class u.coincide) u.n.0 u.pc.0
    where
      go : (t i : Bool) (n pc : ℤ) → t || eq_z n (pos 0) ≡ true → in_range (pick t n (pick i (neg_ℤ pc) (pos 0))) ≡ true → in_range n ≡ true
      go true i n pc e h = h
      go false i n pc e h =
          let b = and_both (le_z n (pos 0)) (le_z (pos 0) n) e in
          let low = b.0 in
          let high = b.1 in
          let z : n ≡ pos 0 = omega zarith in
          rw z

  -- margins and ends are in their ranges and do not cross where the working margins do not: of an 04h both were asked, of a 03h the margins are the working ones and the ends are full
  quantities-enough : ends_fit u ≡ true → ends_pass u ≡ true → in_range u.n.0 ≡ true → in_range u.pc.0 ≡ true → in_range (margins_of u).step_down ≡ true
      → in_range (margins_of u).step_up ≡ true → le_z (margins_of u).step_down (margins_of u).step_up ≡ true → quantity_faults u ≡ Ok tt
  unfolding quantity_faults range_faults order_faults also check
  quantities-enough fit ends n pc down up ordered = go (eqb u.kind interval_kind) fit ends down up ordered
    where
      d : ℤ
      d = u.step_down

      h : ℤ
      h = u.step_up

      go : (own : Bool) → own || (eq_z u.lower full_lower && eq_z u.upper full_upper) ≡ true → pick own (is_pair d h && is_pair u.lower u.upper) true ≡ true
          → in_range (pick own (larger_of d u.lower) d) ≡ true → in_range (pick own (smaller_of h u.upper) h) ≡ true
          → le_z (pick own (larger_of d u.lower) d) (pick own (smaller_of h u.upper) h) ≡ true
          → also (range_faults u)
          (check (le_z d h) F.Crossed
          (check (le_z u.lower u.upper) F.EndsCrossed
          (check (own || (eq_z u.lower full_lower && eq_z u.upper full_upper)) F.NotFull
          (check (le_z (pick own (larger_of d u.lower) d) (pick own (smaller_of h u.upper) h)) F.WorkingCrossed (Ok tt))))) ≡ Ok tt
      go true fit ends down up ordered =
          let b = and_both (is_pair d h) (is_pair u.lower u.upper) ends in
          let m = paired d h b.0 in
          let o = paired u.lower u.upper b.1 in
          rw (n, pc, m.0, m.1.0, o.0, o.1.0, m.1.1, o.1.1, ordered)
      go false fit ends down up ordered =
          let b = and_both (eq_z u.lower full_lower) (eq_z u.upper full_upper) fit in
          let l : u.lower ≡ full_lower = equal _ _ b.0 in
          let k : u.upper ≡ full_upper = equal _ _ b.1 in
          rw (n, pc, down, up, l, k, ordered)

  -- and with its quantities in their ranges it has none
  pub marks-enough : is_unit u.kind ≡ true → ends_fit u ≡ true → marks_pass u floor day ≡ true
      → in_range (unit_n0 u) ≡ true → in_range (margins_of u).step_down ≡ true → in_range (margins_of u).step_up ≡ true
      → le_z (margins_of u).step_down (margins_of u).step_up ≡ true → unit_faults u floor day ≡ Ok tt
  unfolding unit_faults value_faults also check
  marks-enough known fit e n0 down up ordered =
      let p = parts e in
      let q = quantities-enough fit p.1.1.1 (n-in-range (marked e).stated n0) p.1.0 down up ordered in
      rw (known, p.0, q, p.1.1.0)

-- a unit that lies whole at a place and has no fault is read; what was read has these marks
module _ (s : List ℕ) (at floor : ℕ) (day : DayRecord) where
  pub unit-read : is_whole s at ≡ true → unit_faults (unit_at s at) floor day ≡ Ok tt → unit_of s at floor day ≡ is (unit_at s at)
  unfolding unit_of unit_fields_of next passed
  unit-read w e = rw (whole-read s at w, e)

  pub read-marked : {u : UnitRecord} → unit_of s at floor day ≡ is u → marks_pass (unit_at s at) floor day ≡ true
  read-marked e = marks-needed _ floor day (unit-is s at floor day e).0
