-- A reply that is not 1 stands whatever bytes come behind: each test reads only bytes that are there, and only those of the length can turn out otherwise.
use Prim.Native.Nat.{ℕ, zero, suc, ◌+◌, ◌*◌, ◌≤◌, ◌<◌}
use mathlib.Core.Path.{◌≡◌, refl, sym, ap, ◌∙◌}
use mathlib.Core.Bool.{Bool, true, false, not, false≢true}
use mathlib.Core.List.{List, [], ◌∷◌, ◌++◌}
use native.Mathlib.Omega.{arith}
use borrow.Author.Tests.{ltb-true, ltb-false, leb-true, lt-ltb, le-leb}
use lib.Dec.{eqb, ltb}
use lib.ListN.{length}
use lib.Seq.{take-append-le}
use Rattle.numbers.specs.Bytes.{byte_at}
use Rattle.terms.specs.Reply.{Reply, is, refused, need, next}
use Rattle.terms.proofs.Numbers.{each, By, value, number, by-more, by-without, by-need, by-sure, by_next}
use Rattle.records.specs.declared.day.DayRecord.{DayRecord}
use Rattle.records.specs.declared.group.GroupRecord.{GroupRecord}
use Rattle.records.specs.declared.unit.UnitRecord.{UnitRecord}
use Rattle.records.specs.Layouts.{group_length, unit_at, length_of, longest_unit}
use Rattle.records.specs.Reading.{unit_head_of, unit_end, place_from, unit_fields_of, unit_of, judged_by, units_of}
use Rattle.records.specs.Longest.{longest_block}
use Rattle.records.proofs.Alike.{Agree, agree, day-kept, group-kept, end_kept, units-same}
use Rattle.records.proofs.Accepted.{units-accepted}
use Rattle.records.proofs.UnitHeads.{unit-most, unit-there, unit-longer, read-long, unit-long}
use Rattle.records.proofs.Read.{group-passed}
use Rattle.records.proofs.Numbers.{day_numbers, group_numbers, end_numbers, by-unit-head, by-group, by-unit}
use Rattle.walk.specs.declared.table.State.{State}
use Rattle.walk.specs.declared.table.Role.{Role}
use Rattle.walk.specs.declared.table.Role.TheVariants as R
use Rattle.walk.specs.Table.{head_at, head_in}
use Rattle.walk.proofs.Bodies.{body-short}
use Rattle.walk.proofs.Coming.{length_in}
use Rattle.day.specs.declared.value.Day.{Day}
use Rattle.blocks.specs.Checking.{block_units_of}
use Rattle.blocks.proofs.ByUnits.{units-refuse, block-alike}
use Rattle.day.specs.Checking.{block_fields_of}
use Rattle.day.specs.Offers.{head_for, day_taken, block_taken, end_taken, taken, offer_of, is_cut_short}
use Rattle.day.proofs.ByKind.{head-came}
use Rattle.day.proofs.Numbers.{uncut_numbers, by-opens, by-taken, by-closes}

-- the first reply, unless it is 1, is the second
abbrev Stands : {A : Type 0} → Reply A → Reply A → Type 0
Stands x y = is_cut_short x ≡ false → y ≡ x

-- what is not cut short is not refused by 1
not-by-1 : {A : Type 0} (x : Reply A) → is_cut_short x ≡ false → (p : ℕ) → x ≡ refused 1 p → ⊥
not-by-1 {A} x c p e = false≢true (sym c ∙ ap (λ (r : Reply A). is_cut_short r) e)

-- ---- reply by reply
module _ {A B : Type 0} where
  then : (x y : Reply A) (f g : A → Reply B) → Stands x y → ((a : A) → x ≡ is a → Stands (f a) (g a)) → Stands (next x f) (next y g)
  unfolding next
  then (is a) y f g h k c = rw (h refl) (k a refl c)
  then (refused n p) y f g h k c = rw (h c)

module _ {A : Type 0} (x y : Reply A) where
  -- a test that comes out alike
  tested : (t : Bool) (n p : ℕ) → Stands x y → Stands (need t n p x) (need t n p y)
  unfolding need
  tested true n p h c = h c
  tested false n p h c = refl

  -- a test whether bytes are there: more of them do no harm
  there : (t u : Bool) (p q : ℕ) → (t ≡ true → u ≡ true) → (t ≡ true → Stands x y) → Stands (need t 1 p x) (need u 1 q y)
  unfolding need
  there true u p q m h c = rw (m refl) (h refl c)
  there false u p q m h c =
      let z : ◌≡◌ {A = ℕ} 0 1 = cc in
      absurd (omega arith)

module _ (s t : List ℕ) (a : Agree s t (length s)) where
  -- ---- units
  unit-same : (at : ℕ) → unit_end s at ≤ length s → unit_at t at ≡ unit_at s at
  unfolding place_from
  unit-same at h = units-same s t (length s) a at 0 h

  unit-head-stands : (at : ℕ) → Stands (unit_head_of s at) (unit_head_of t at)
  unit-head-stands at c = unit-longer s t at a.long (a.same at) (not-by-1 (unit_head_of s at) c)

  unit-stands : (at floor : ℕ) (d : DayRecord) → Stands (unit_of s at floor d) (unit_of t at floor d)
  unfolding unit_of unit_fields_of
  unit-stands at floor d = then _ _ _ _ (unit-head-stands at) λ end e c. rw (unit-same at (read-long s at e))

  units-stand : (at floor : ℕ) (d : DayRecord) (count : ℕ) → Stands (units_of s at floor d count) (units_of t at floor d count)
  unfolding units_of
  units-stand at floor d zero = λ c. refl
  units-stand at floor d (suc left) =
      then _ _ _ _ (unit-stands at floor d) λ u e c.
      let k : unit_end t at ≡ unit_end s at = ap (λ (v : UnitRecord). at + length_of v) (unit-same at (unit-long s at floor d e)) in
      ap (λ (to : ℕ). units_of t to (u.number + 1) d left) k ∙ units-stand (unit_end s at) (u.number + 1) d left c

  -- ---- what is offered
  block-units-stand : (g : GroupRecord) (d : DayRecord) → group_length ≤ length s → Stands (block_units_of s g d) (block_units_of t g d)
  block-units-stand g d h c = go (units_of s group_length 0 (judged_by g d) g.count) refl
    where
      go : (x : Reply ℕ) → units_of s group_length 0 (judged_by g d) g.count ≡ x → block_units_of t g d ≡ block_units_of s g d
      go (is end) e = block-alike s t (length s) a g d (units-accepted s group_length 0 (judged_by g d) g.count h e).within e
      go (refused n p) e =
          let r = units-refuse s g d e in
          let u = units-stand group_length 0 (judged_by g d) g.count (ap is_cut_short e ∙ sym (ap is_cut_short r) ∙ c) in
          units-refuse t g d (u ∙ e) ∙ sym r

  block-stands : (day : Day) (room : ℕ) → group_length ≤ length s → Stands (block_taken day s room) (block_taken day t room)
  unfolding block_taken block_fields_of
  block-stands day room h =
      then _ _ _ _
      (rw (group-kept s t (length s) a day.«record» day.last h)
      (then _ _ _ _ (λ c. refl) λ g e. block-units-stand g day.«record» h))
      λ block e c. refl

  taken-stands : (day : Day) (room : ℕ) (role : Role) (end : ℕ) → length_in role s 0 ≤ length s → Stands (taken day s room role end) (taken day t room role end)
  unfolding day_taken end_taken
  taken-stands day room R.Opens end h = λ c. rw (day-kept s t (length s) a h)
  taken-stands day room R.Block end h = block-stands day room h
  taken-stands day room R.Closes end h = λ c. rw (end_kept s t (length s) a day.groups h)

  head-in-stands : (state : State) → Stands (head_in s 0 state) (head_in t 0 state)
  unfolding head_in
  head-in-stands state =
      there _ _ _ _ _ _ (λ e. lt-ltb 0 (length t) (omega (arith, ltb-true 0 (length s) e, a.long))) λ e.
      rw (a.same 0 (ltb-true 0 (length s) e))
      (tested _ _ _ 2 0
      (there _ _ _ _ _ _ (λ f. le-leb (head_at s 0 state).end (length t) (omega (arith, leb-true (head_at s 0 state).end (length s) f, a.long))) λ f c. refl))

  head-stands : (day : Day) → Stands (head_for day s) (head_for day t)
  unfolding head_for
  head-stands day =
      there _ _ _ _ _ _ (λ e. lt-ltb 0 (length t) (omega (arith, ltb-true 0 (length s) e, a.long))) λ e.
      tested _ _ _ 2 0 (head-in-stands day.state)

  stands : (day : Day) (room : ℕ) → Stands (offer_of day s room) (offer_of day t room)
  unfolding offer_of
  stands day room =
      then _ _ _ _ (head-stands day) λ head e.
      let m = head-came day s head e in
      taken-stands day room head.role head.end (omega (arith, m.end, m.long))

-- where what is offered is not only cut short, the reply is the same whatever bytes follow
pub offer-stands : (day : Day) (s t : List ℕ) (room : ℕ) → is_cut_short (offer_of day s room) ≡ false → offer_of day (s ++ t) room ≡ offer_of day s room
offer-stands day s t room =
    stands s (s ++ t) (agree s (s ++ t) (length s) (omega arith) (sym (take-append-le (length s) s t (omega arith)))) day room

-- ---- with as many bytes as the longest block has, nothing is cut short
module _ (s : List ℕ) where
  unit-enough : (at floor : ℕ) (d : DayRecord) → at + longest_unit ≤ length s → By uncut_numbers (unit_of s at floor d)
  unit-enough at floor d h =
      by-unit s uncut_numbers at floor d refl (by-more (2 ∷ []) uncut_numbers refl (by-without 1 (2 ∷ []) (unit-there s at h) (by-unit-head s at)))

  units-enough : (at floor : ℕ) (d : DayRecord) (count : ℕ) → at + longest_unit * count ≤ length s → By uncut_numbers (units_of s at floor d count)
  unfolding units_of
  units-enough at floor d zero h = value at
  units-enough at floor d (suc left) h =
      by_next (unit-enough at floor d (omega arith)) λ u e.
      units-enough (unit_end s at) (u.number + 1) d left (omega (arith, unit-most s at))

  module _ (most : longest_block ≤ length s) (day : Day) (room : ℕ) where
    taken-enough : (role : Role) (end : ℕ) → By uncut_numbers (taken day s room role end)
    taken-enough R.Opens end = by-more day_numbers uncut_numbers refl (by-opens day s end)
    taken-enough R.Block end =
        by-taken day s uncut_numbers refl (by-more group_numbers uncut_numbers refl (by-group s _ _))
        (λ g e.
        let p = group-passed s day.«record» day.last e in
        units-enough group_length 0 _ g.count (omega (arith, p.most, ap (λ (x : GroupRecord). x.count) p.value)))
        room
    taken-enough R.Closes end = by-more end_numbers uncut_numbers refl (by-closes day s end)

    enough : By uncut_numbers (offer_of day s room)
    unfolding offer_of head_for head_in
    enough =
        let long = le-leb (head_at s 0 day.state).end (length s) (omega (arith, body-short day.state (byte_at s 0))) in
        let some = lt-ltb 0 (length s) (omega arith) in
        by_next (by-sure _ 1 _ some (by-need _ 2 _ refl (by-sure _ 1 _ some (by-need _ 2 _ refl (by-sure _ 1 _ long (value _)))))) λ head e.
        taken-enough head.role head.end

uncut : {A : Type 0} {x : Reply A} → By uncut_numbers x → is_cut_short x ≡ true → ⊥
uncut (value a) e = false≢true e
uncut (number n p k) e = false≢true (sym (ap not e) ∙ each (λ m. not (eqb m 1)) uncut_numbers n refl k)

-- so what is cut short is shorter than the longest block
pub cut_short : (day : Day) (s : List ℕ) (room : ℕ) → is_cut_short (offer_of day s room) ≡ true → length s < longest_block
cut_short day s room e = go (ltb (length s) longest_block) refl
  where
    go : (t : Bool) → ltb (length s) longest_block ≡ t → length s < longest_block
    go true q = ltb-true (length s) longest_block q
    go false q = absurd (uncut (enough s (ltb-false (length s) longest_block q) day room) e)
