-- A refusal of a unit's field names the first unit that does not pass: the offer's checks lead to its units, and the walk over them to its record.
use Rattle.std.specs.Prelude.{Err}
use Prim.Native.Nat.{ℕ, zero, suc, ◌+◌, ◌-◌, ◌≤◌, ◌<◌}
use mathlib.Core.Path.{◌≡◌, refl, sym, ap, ◌∙◌}
use mathlib.Core.Bool.{Bool, true, false, not, false≢true}
use mathlib.Core.List.{List, [], ◌∷◌}
use native.Mathlib.Omega.{arith}
use borrow.Author.Tests.{lt-ltb, le-ltb, le-leb}
use lib.ListN.{length}
use Rattle.numbers.specs.Choice.{pick}
use Rattle.terms.specs.Reply.{Reply, is, refused}
use Rattle.terms.specs.Refusals.{number_of, why_of, refusal}
use Rattle.terms.specs.declared.refusal.Fault.{Fault}
use Rattle.terms.specs.declared.refusal.Fault.TheVariants as A
use Rattle.terms.specs.declared.refusal.Refusal.{Refusal}
use Rattle.terms.proofs.Replies.{next-from, from_either}
use Rattle.terms.proofs.Same.{why_by, why-back, why-same}
use Rattle.terms.proofs.Numbers.{is_of, all_of, By, value, number, by-each, by-need}
use Rattle.records.specs.Layouts as L
use Rattle.records.specs.Reading.{unit_end, place_from, unit_place, unit_in, unit_head_of, fault_place, group_fields_of, judged_by, units_of}
use Rattle.records.proofs.UnitHeads.{length-least, read-kind, read-long}
use Rattle.records.proofs.Numbers.{head_numbers, day_numbers, group_numbers, end_numbers, by-group}
use Rattle.records.proofs.Read.{group-passed}
use Rattle.records.proofs.Places.{place-later, place-from}
use Rattle.records.proofs.Turns.{place_inside}
use Rattle.walk.specs.declared.table.Role.{Role}
use Rattle.walk.specs.declared.table.Role.TheVariants.{Opens, Block, Closes}
use Rattle.walk.specs.declared.table.Head.{Head}
use Rattle.walk.specs.Table.{is_block}
use Rattle.blocks.proofs.ByUnits.{after_units, unmade}
use Rattle.day.specs.declared.value.Day.{Day}
use Rattle.day.specs.Checking.{block_fields_of}
use Rattle.day.specs.Offers.{head_for, block_taken, taken, offer_of}
use Rattle.day.proofs.ByKind.{head-came, group-long}
use Rattle.day.proofs.Numbers.{by-head-for, by-opens, by-closes}
use Rattle.std.specs.Prelude.{Some}
use Rattle.finding.specs.declared.named.UnitField.TheVariants as U
use Rattle.finding.specs.declared.named.Field.TheVariants as F
use Rattle.finding.specs.declared.named.Held.TheVariants as H
use Rattle.finding.specs.declared.named.Subject.TheVariants as S
use Rattle.finding.specs.Spots.{group_whole, spot_from, spot_of}
use Rattle.finding.specs.Naming.{key_in, number_at_hand, layout, unit_value_at, unit_field_at, told_of, least_finding, most_finding, lower_meets, finding_of, named_of}
use Rattle.finding.specs.Plants.{of_unit, fault_field, fault_held, Plant}
use Rattle.finding.proofs.Failing.{First, first}
use Rattle.finding.proofs.Apart.{ends-apart}

-- ---- the walk finds the record of the unit of an index
abbrev before_from : List ℕ → ℕ → ℕ → ℕ → ℕ
before_from s at before zero = before
before_from s at before (suc k) = place_from s at k

-- counted from the second unit record on
before-later : (s : List ℕ) (at k : ℕ) → before_from s (unit_end s at) at k ≡ place_from s at k
unfolding place_from
before-later s at zero = refl
before-later s at (suc k) = place-later s at k

spot-at : (s : List ℕ) (place index at before k left : ℕ) → k < left → place_from s at k ≤ place → place < unit_end s (place_from s at k)
    → spot_from s place index at before left ≡ Some (record { index = index + k; at = place_from s at k; before = before_from s at before k })
unfolding spot_from place_from
spot-at s place index at before k zero l low high = absurd (omega arith)
spot-at s place index at before zero (suc left) l low high =
    let z : index + 0 ≡ index = omega arith in
    rw (lt-ltb place (unit_end s at) high, z)
spot-at s place index at before (suc k) (suc left) l low high =
    let later = place-later s at k in
    let past : unit_end s at ≤ place = omega (arith, later, place-from s (unit_end s at) k) in
    let z : index + 1 + k ≡ index + suc k = omega arith in
    rw (le-ltb place (unit_end s at) past)
    (spot-at s place (index + 1) (unit_end s at) at k left (omega arith) (rw later low) (rw later high)
    ∙ rw (z, later, before-later s at k))

-- ---- the rows of a unit's faults
row : (day : Day) (s : List ℕ) (at before : ℕ) (fault : Fault) (p : ℕ) → p - at ≡ fault_place fault
    → finding_of day s (why_of fault) p at before ≡ told_of s at (fault_field s at fault) (fault_held day.«record» s at before fault)
unfolding finding_of unit_field_at
row day s at before A.Kind p e = refl
row day s at before A.Number p e = refl
row day s at before A.Class p e = rw e
row day s at before A.Coincide p e = rw e
row day s at before A.Nominated p e = rw e
row day s at before A.NotNominated p e = rw e
row day s at before A.N p e = rw e
row day s at before A.Pc p e = rw e
row day s at before A.StepDown p e = rw e
row day s at before A.StepUp p e = rw e
row day s at before A.Lower p e = rw e
row day s at before A.Upper p e = rw e
row day s at before A.Crossed p e = rw e
row day s at before A.EndsCrossed p e = rw e
row day s at before A.NotFull p e = rw e
row day s at before A.WorkingCrossed p e = told (lower_meets s at)
  where
    told : (t : Bool) → pick t (least_finding s at U.Upper U.StepDown) (most_finding s at U.Lower U.StepUp)
        ≡ told_of s at (F.Unit (pick t U.Upper U.Lower)) (pick t (H.AtLeast U.StepDown (unit_value_at s at U.StepDown)) (H.AtMost U.StepUp (unit_value_at s at U.StepUp)))
    told true = refl
    told false = refl
row day s at before A.Ahead p e = refl
row day s at before A.Age p e = refl

field-at : (s : List ℕ) (at : ℕ) (fault : Fault) → (fault ≡ A.WorkingCrossed → ⊥) → (layout (fault_field s at fault)).place ≡ fault_place fault
field-at s at A.Kind other = refl
field-at s at A.Number other = refl
field-at s at A.Class other = refl
field-at s at A.Coincide other = refl
field-at s at A.Nominated other = refl
field-at s at A.NotNominated other = refl
field-at s at A.N other = refl
field-at s at A.Pc other = refl
field-at s at A.StepDown other = refl
field-at s at A.StepUp other = refl
field-at s at A.Lower other = refl
field-at s at A.Upper other = refl
field-at s at A.Crossed other = refl
field-at s at A.EndsCrossed other = refl
field-at s at A.NotFull other = refl
field-at s at A.WorkingCrossed other = absurd (other refl)
field-at s at A.Ahead other = refl
field-at s at A.Age other = refl

-- the number is at hand in a unit record that lies there whole
number-at-hand : (s : List ℕ) (at : ℕ) {end : ℕ} → unit_head_of s at ≡ is end → number_at_hand s at ≡ true
number-at-hand s at h =
    let long : at + (L.unit_class).place ≤ length s = omega (arith, read-long s at h, length-least (L.unit_at s at)) in
    rw (le-leb _ _ long, read-kind s at h)

-- ---- from the offer to the block's units
module _ (day : Day) (s : List ℕ) (n p : ℕ) (own : of_unit (why_by n) ≡ true) where
  -- a number of a unit's field is that of no other check
  no : {A : Type 0} {x : Reply A} (l : List ℕ) → all_of (λ m. not (of_unit (why_by m))) l ≡ true → By l x → x ≡ refused n p → ⊥
  no l e b h = false≢true (sym (ap not own) ∙ by-each (λ m. not (of_unit (why_by m))) l e b h)

  not-of : (l : List ℕ) → all_of (λ m. not (of_unit (why_by m))) l ≡ true → is_of l n ≡ true → ⊥
  not-of l e k = no {A = ℕ} l e (number n p k) refl

  abbrev units : Reply ℕ
  units = units_of s L.group_length 0 (judged_by (L.group_at s 0) day.«record») (L.group_at s 0).count

  fields-first : block_fields_of day s ≡ refused n p → units ≡ refused n p
  unfolding block_fields_of
  fields-first e =
      from_either (next-from (group_fields_of s day.«record» day.last) _ e) (λ h. absurd (no group_numbers refl (by-group s _ _) h))
      (λ g h f. unmade s (L.group_at s 0) _ (not-of after_units refl) (rw (group-passed s day.«record» day.last h).value at f))

  block-first : (room : ℕ) → block_taken day s room ≡ refused n p → units ≡ refused n p
  unfolding block_taken
  block-first room e =
      from_either (next-from (block_fields_of day s) _ e) (λ h. fields-first h) (λ b h f. absurd (no (12 ∷ []) refl (by-need _ 12 _ refl (value _)) f))

  -- the block lies whole in front as far as its group record goes, and its units are refused
  record Reached : Type 0 where
    whole : group_whole s ≡ true
    refusing : units ≡ refused n p

  by-role : (room : ℕ) (head : Head) → head_for day s ≡ is head → (role : Role) → head.role ≡ role → taken day s room role head.end ≡ refused n p → Reached
  by-role room head h Opens k f = absurd (no day_numbers refl (by-opens day s head.end) f)
  by-role room head h Block k f =
      let long = le-leb L.group_length (length s) (group-long day s head h k) in
      let block = ap is_block ((head-came day s head h).first ∙ k) in
      record { whole = rw (long, block); refusing = block-first room f }
  by-role room head h Closes k f = absurd (no end_numbers refl (by-closes day s head.end) f)

  reached : (room : ℕ) → offer_of day s room ≡ refused n p → Reached
  unfolding offer_of
  reached room e = from_either (next-from (head_for day s) _ e) (λ h. absurd (no head_numbers refl (by-head-for day s) h)) (λ head h f. by-role room head h head.role refl f)

-- ---- the theorem
module _ (day : Day) (s : List ℕ) (r : Refusal) where
  before-one : (k : ℕ) → before_from s L.group_length L.group_length k ≡ unit_place s (k - 1)
  unfolding place_from
  before-one zero = refl
  before-one (suc k) =
      let z : suc k - 1 ≡ k = omega arith in
      rw z

  spot-found : group_whole s ≡ true → L.group_length ≤ r.place → spot_of s r.place ≡ spot_from s r.place 0 L.group_length L.group_length (L.group_at s 0).count
  unfolding spot_of
  spot-found w l = simp (w, le-leb L.group_length r.place l)

  named-at : (i : ℕ) (fault : Fault) → r.why ≡ why_of fault → spot_of s r.place ≡ Some (record { index = 0 + i; at = unit_place s i; before = unit_place s (i - 1) })
      → r.place ≡ unit_place s i + fault_place fault → number_at_hand s (unit_place s i) ≡ true
      → named_of day s r
      ≡ record {
        subject = S.Unit (key_in s) (unit_in s i).number;
        finding = told_of s (unit_place s i) (fault_field s (unit_place s i) fault) (fault_held day.«record» s (unit_place s i) (unit_place s (i - 1)) fault);
      }
  unfolding named_of L.unit_at
  named-at i fault why spot place hand =
      let e = row day s (unit_place s i) (unit_place s (i - 1)) fault r.place (omega (arith, place)) in
      rw (spot, why, e, hand)

  by_first : (other : is_of head_numbers (number_of r.why) ≡ true → ⊥) → group_whole s ≡ true → First (number_of r.why) r.place other s L.group_length 0 (judged_by (L.group_at s 0) day.«record») (L.group_at s 0).count → Plant day s r
  by_first other whole f =
      let i = f.index in
      let at = unit_place s i in
      let fault = f.fault in
      let why : r.why ≡ why_of fault = why-same r.why (why_of fault) f.number in
      let low : at ≤ r.place = omega (arith, f.place) in
      let within : r.place < unit_end s at = omega (arith, f.place, place_inside s at f.least _ fault f.faulty) in
      let behind : L.group_length ≤ r.place = omega (arith, place-from s L.group_length i) in
      let spot : spot_of s r.place ≡ Some (record { index = 0 + i; at = at; before = unit_place s (i - 1) }) =
      spot-found whole behind ∙ spot-at s r.place 0 L.group_length L.group_length i (L.group_at s 0).count f.counted low within ∙ rw (before-one i) in
      record {
        index = i;
        fault = fault;
        counted = f.counted;
        pass = f.pass;
        fails = f.fails;
        why = why;
        place = f.place;
        field = field-at s at fault;
        apart = λ w. ends-apart s at f.least _ (f.faulty ∙ ap Err w);
        named = named-at i fault why spot f.place (number-at-hand s at f.head);
      }

  pub plant-named : (room : ℕ) → offer_of day s room ≡ refusal r → of_unit r.why ≡ true → Plant day s r
  plant-named room e u =
      let own = ap of_unit (why-back r.why) ∙ u in
      let f = reached day s (number_of r.why) r.place own room e in
      let other = not-of day s (number_of r.why) r.place own head_numbers refl in
      by_first other f.whole (first (number_of r.why) r.place other s L.group_length 0 _ (L.group_at s 0).count f.refusing)
