-- The first of some units that does not pass: those before it do, and the refusal is its own. By induction over the units, each read from where the one before ends.
use Rattle.std.specs.Prelude.{Result, Ok, Err}
use Prim.Native.Nat.{ℕ, zero, suc, ◌+◌, ◌<◌}
use mathlib.Core.Path.{◌≡◌, refl, sym, ap, ◌∙◌}
use mathlib.Core.Bool.{true}
use mathlib.Core.List.{List}
use native.Mathlib.Omega.{arith}
use Rattle.terms.specs.Reply.{Reply, is, refused, next}
use Rattle.terms.specs.Refusals.{number_of, why_of, passed}
use Rattle.terms.specs.declared.refusal.Fault.{Fault}
use Rattle.terms.proofs.Replies.{never, From, front, after, next-from}
use Rattle.terms.proofs.Numbers.{is_of, by-each}
use Rattle.records.specs.declared.day.DayRecord.{DayRecord}
use Rattle.records.specs.declared.unit.UnitRecord.{UnitRecord}
use Rattle.records.specs.Layouts.{unit_at}
use Rattle.records.specs.Reading.{unit_head_of, unit_end, place_from, fault_place, unit_faults, unit_fields_of, unit_of, units_of}
use Rattle.records.proofs.Places.{place-later}
use Rattle.records.proofs.Numbers.{head_numbers, by-unit-head}

-- a refusal of a unit's field: no head has its number
module _ (n p : ℕ) (other : is_of head_numbers n ≡ true → ⊥) where
  pub record Faulted (s : List ℕ) (at floor : ℕ) (d : DayRecord) : Type 0 where
    pub fault : Fault
    pub end : ℕ
    pub head : unit_head_of s at ≡ is end
    pub faulty : unit_faults (unit_at s at) floor d ≡ Err fault
    pub number : n ≡ number_of (why_of fault)
    pub place : p ≡ at + fault_place fault

  checks-no : (s : List ℕ) (at floor : ℕ) (d : DayRecord) (end : ℕ) → unit_head_of s at ≡ is end → (checks : Result Unit Fault) → unit_faults (unit_at s at) floor d ≡ checks
      → ◌≡◌ {A = Reply UnitRecord} (passed (λ fault. at + fault_place fault) checks (is (unit_at s at))) (refused n p) → Faulted s at floor d
  unfolding passed
  checks-no s at floor d end h (Ok tt) c e = never (sym e)
  checks-no s at floor d end h (Err fault) c e =
      let a : number_of (why_of fault) ≡ n = cc in
      let b : at + fault_place fault ≡ p = cc in
      record { fault = fault; end = end; head = h; faulty = c; number = sym a; place = sym b }

  unit-no : (s : List ℕ) (at floor : ℕ) (d : DayRecord) → unit_of s at floor d ≡ refused n p → Faulted s at floor d
  unfolding unit_of unit_fields_of
  unit-no s at floor d e = go (next-from (unit_head_of s at) (λ _. unit_fields_of s at floor d) e)
    where
      go : From (unit_head_of s at) (λ _. unit_fields_of s at floor d) n p → Faulted s at floor d
      go (front h) = absurd (other (by-each (is_of head_numbers) head_numbers refl (by-unit-head s at) h))
      go (after end h f) = checks-no s at floor d end h (unit_faults (unit_at s at) floor d) refl f

  -- the first that fails, of units that are not all accepted
  pub record First (s : List ℕ) (at floor : ℕ) (d : DayRecord) (left : ℕ) : Type 0 where
    pub index : ℕ
    pub fault : Fault
    pub end : ℕ
    pub counted : index < left
    pub pass : units_of s at floor d index ≡ is (place_from s at index)
    pub fails : units_of s at floor d (suc index) ≡ refused n p
    pub head : unit_head_of s (place_from s at index) ≡ is end
    pub least : ℕ
    pub faulty : unit_faults (unit_at s (place_from s at index)) least d ≡ Err fault
    pub number : n ≡ number_of (why_of fault)
    pub place : p ≡ place_from s at index + fault_place fault

  pub first : (s : List ℕ) (at floor : ℕ) (d : DayRecord) (left : ℕ) → units_of s at floor d left ≡ refused n p → First s at floor d left
  unfolding units_of place_from next
  first s at floor d zero e = never (sym e)
  first s at floor d (suc left) e =
      go (next-from (unit_of s at floor d) (λ u. units_of s (unit_end s at) (u.number + 1) d left) e) (λ u. first s (unit_end s at) (u.number + 1) d left)
    where
      go : From (unit_of s at floor d) (λ u. units_of s (unit_end s at) (u.number + 1) d left) n p
          → ((u : UnitRecord) → units_of s (unit_end s at) (u.number + 1) d left ≡ refused n p → First s (unit_end s at) (u.number + 1) d left)
          → First s at floor d (suc left)
      go (front h) rest =
          let f = unit-no s at floor d h in
          record {
            index = 0;
            fault = f.fault;
            end = f.end;
            counted = omega arith;
            pass = refl;
            fails = rw h;
            head = f.head;
            least = floor;
            faulty = f.faulty;
            number = f.number;
            place = f.place;
          }
      go (after u h f) rest =
          let r = rest u f in
          let later = place-later s at r.index in
          record {
            index = suc r.index;
            fault = r.fault;
            end = r.end;
            counted = omega (arith, r.counted);
            pass = rw h (r.pass ∙ ap is later);
            fails = rw h r.fails;
            head = rw later at r.head;
            least = r.least;
            faulty = rw later at r.faulty;
            number = r.number;
            place = rw later at r.place;
          }
