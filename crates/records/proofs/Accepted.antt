-- What holds of the units of a block that was accepted: each passed its checks, and they lie one after another.
use Rattle.std.specs.Prelude.{Ok}
use Prim.Native.Nat.{ℕ, zero, suc, ◌+◌, ◌≤◌, ◌<◌}
use native.Mathlib.Nat.{not-suc-le-zero}
use native.Mathlib.Omega.{arith}
use mathlib.Core.Path.{◌≡◌, ◌∙◌}
use mathlib.Core.Bool.{Bool, true, false, ◌||◌}
use mathlib.Core.List.{List}
use lib.Dec.{eqb}
use lib.IntN.{ℤ, pos, neg_ℤ}
use lib.ListN.{length}
use lib.Signed.{le_z}
use borrow.Author.Tests.{leb-true}
use Rattle.numbers.specs.Range.{Within}
use Rattle.numbers.specs.Choice.{pick, eq_z}
use Rattle.numbers.proofs.Integers.{zarith, neg, by-test}
use Rattle.terms.specs.Reply.{is}
use Rattle.terms.specs.Quantities.{known_class, takes_sold, considered_of}
use Rattle.terms.proofs.Replies.{next-is}
use Rattle.terms.proofs.Passing.{passes, range-within}
use Rattle.terms.proofs.Scan.{passed_is}
use Rattle.records.specs.declared.day.DayRecord.{DayRecord}
use Rattle.records.specs.declared.unit.UnitRecord.{UnitRecord}
use Rattle.records.specs.Layouts.{group_length, smaller_of, larger_of, interval_kind, is_unit, unit_at, margins_of}
use Rattle.records.specs.Reading.{unit_end, place_from, unit_place, unit_in, unit_fields_of, unit_of, units_of, unit_faults, value_faults, mark_faults, range_faults, ends_fit, order_faults, quantity_faults}
use Rattle.records.specs.Decoding.{unit_n0}
use Rattle.records.specs.Inner.{is_whole}
use Rattle.records.proofs.Checks.{also-fine}
use Rattle.records.proofs.Places.{place-later}
use Rattle.records.proofs.UnitHeads.{unit-lies, unit-long}

-- the considered nomination is N, -PC or 0
pub n0-within : (class nominated coincide : ℕ) (n pc : ℤ) → Within 1000000 n → Within 1000000 pc → Within 1000000 (considered_of class nominated coincide n pc)
n0-within class nominated coincide n pc hn hp =
    by-test (eqb nominated 1) (λ t. Within 1000000 (pick t n (pick (takes_sold class coincide) (neg_ℤ pc) (pos 0))))
    (λ h. hn)
    (λ h. by-test (takes_sold class coincide) (λ t. Within 1000000 (pick t (neg_ℤ pc) (pos 0))) (λ k. omega (zarith, neg pc)) (λ k. omega zarith))

-- what the checks leave of a unit's values
pub record Sound (u : UnitRecord) : Type 0 where
  pub known : is_unit u.kind ≡ true
  pub class : known_class u.class ≡ true
  pub coincide : u.coincide ≤ 1
  pub nominated : u.nominated ≤ 1
  pub stated : eqb u.nominated 1 || eq_z u.n.0 (pos 0) ≡ true
  pub n : Within 1000000 u.n.0
  pub pc : Within 1000000 u.pc.0
  pub down : Within 1000000 u.step_down
  pub up : Within 1000000 u.step_up
  pub lower : Within 1000000 u.lower
  pub upper : Within 1000000 u.upper
  pub fit : ends_fit u ≡ true
  pub step_down : Within 1000000 (margins_of u).step_down
  pub step-up : Within 1000000 (margins_of u).step_up
  pub n0 : Within 1000000 (unit_n0 u)
  pub ordered : le_z (margins_of u).step_down (margins_of u).step_up ≡ true

-- of two quantities in their ranges the larger, the smaller and either is
picked : (t : Bool) (a b : ℤ) → Within 1000000 a → Within 1000000 b → Within 1000000 (pick t a b)
picked true a b ha hb = ha
picked false a b ha hb = hb

pub sound : (u : UnitRecord) (floor : ℕ) → value_faults u floor ≡ Ok tt → Sound u
unfolding value_faults mark_faults quantity_faults range_faults order_faults
sound u floor e =
    let own = eqb u.kind interval_kind in
    let kind = passes _ _ _ e in
    let a = also-fine _ _ kind.1 in
    let q = also-fine _ _ a.1 in
    let number = passes _ _ _ a.0 in
    let class = passes _ _ _ number.1 in
    let coincide = passes _ _ _ class.1 in
    let nominated = passes _ _ _ coincide.1 in
    let stated = passes _ _ _ nominated.1 in
    let n = passes _ _ _ q.0 in
    let pc = passes _ _ _ n.1 in
    let down = passes _ _ _ pc.1 in
    let up = passes _ _ _ down.1 in
    let lower = passes _ _ _ up.1 in
    let upper = passes _ _ _ lower.1 in
    let crossed = passes _ _ _ q.1 in
    let ends = passes _ _ _ crossed.1 in
    let full = passes _ _ _ ends.1 in
    let hd = range-within _ down.0 in
    let hu = range-within _ up.0 in
    let hl = range-within _ lower.0 in
    let hh = range-within _ upper.0 in
    let hn = range-within _ n.0 in
    let hp = range-within _ pc.0 in
    record {
      known = kind.0;
      class = class.0;
      coincide = leb-true _ _ coincide.0;
      nominated = leb-true _ _ nominated.0;
      stated = stated.0;
      n = hn;
      pc = hp;
      down = hd;
      up = hu;
      lower = hl;
      upper = hh;
      fit = full.0;
      step_down = picked own (larger_of u.step_down u.lower) u.step_down (picked (le_z u.step_down u.lower) u.lower u.step_down hl hd) hd;
      step-up = picked own (smaller_of u.step_up u.upper) u.step_up (picked (le_z u.step_up u.upper) u.step_up u.upper hu hh) hu;
      n0 = n0-within u.class u.nominated u.coincide _ _ hn hp;
      ordered = (passes _ _ _ full.1).0;
    }

-- a unit that was read is that of the layout, and passed
pub unit-is : (s : List ℕ) (at floor : ℕ) (day : DayRecord) {u : UnitRecord} → unit_of s at floor day ≡ is u
    → (unit_faults (unit_at s at) floor day ≡ Ok tt) × (u ≡ unit_at s at)
unfolding unit_of unit_fields_of
unit-is s at floor day e =
    let p = passed_is _ _ _ (next-is _ _ e).1.1 in
    (p.0, cc p.1)

pub unit-sound : (s : List ℕ) (at floor : ℕ) (day : DayRecord) {u : UnitRecord} → unit_of s at floor day ≡ is u → Sound (unit_at s at)
unfolding unit_faults
unit-sound s at floor day e = sound _ floor (also-fine _ _ (unit-is s at floor day e).0).0

-- units that were accepted from a place on
pub record Accepted (s : List ℕ) (at count end : ℕ) : Type 0 where
  pub ends : end ≡ place_from s at count
  pub within : end ≤ length s
  pub each : (i : ℕ) → i < count → Sound (unit_at s (place_from s at i))
  pub there : (i : ℕ) → i < count → is_whole s (place_from s at i) ≡ true

pub units-accepted : (s : List ℕ) (at floor : ℕ) (day : DayRecord) (count : ℕ) {end : ℕ} → at ≤ length s → units_of s at floor day count ≡ is end → Accepted s at count end
unfolding units_of place_from
units-accepted s at floor day zero {end} l e =
    let h : at ≡ end = cc in
    record { ends = rw h; within = rw (← h) l; each = λ i l. absurd (not-suc-le-zero l); there = λ i l. absurd (not-suc-le-zero l) }
units-accepted s at floor day (suc count) {end} l e =
    let a = next-is _ _ e in
    let rest = units-accepted s (unit_end s at) (a.0.number + 1) day count (unit-long s at floor day a.1.0) a.1.1 in
    record {
      ends = rest.ends ∙ place-later s at count;
      within = rest.within;
      each = each (unit-sound s at floor day a.1.0) rest.each;
      there = there (unit-lies s at floor day a.1.0) rest.there;
    }
  where
    there : is_whole s at ≡ true → ((i : ℕ) → i < count → is_whole s (place_from s (unit_end s at) i) ≡ true) → (i : ℕ) → i < suc count → is_whole s (place_from s at i) ≡ true
    there first rest zero l = first
    there first rest (suc i) l = rw (← (place-later s at i)) (rest i (omega arith))

    each : Sound (unit_at s at) → ((i : ℕ) → i < count → Sound (unit_at s (place_from s (unit_end s at) i))) → (i : ℕ) → i < suc count → Sound (unit_at s (place_from s at i))
    each first rest zero l = first
    each first rest (suc i) l = rw (← (place-later s at i)) (rest i (omega arith))

-- a block whose units were accepted
module _ (s : List ℕ) (day : DayRecord) (count : ℕ) {end : ℕ} (long : group_length ≤ length s) (e : units_of s group_length 0 day count ≡ is end) where
  all : Accepted s group_length count end
  all = units-accepted s group_length 0 day count long e

  pub unit-in : (i : ℕ) → i < count → Sound (unit_in s i)
  unit-in = all.each

  pub block-end : end ≡ unit_place s count
  block-end = all.ends

  -- each unit lies whole in the block, by its own kind
  pub unit-there : (i : ℕ) → i < count → is_whole s (unit_place s i) ≡ true
  unit-there = all.there
