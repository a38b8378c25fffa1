-- A loop over the units of a block: the columns are filled up to the unit here, and p is the sum of PC up to it.
use Rattle.std.specs.Prelude.{Ok, Option, Some, None}
use Prim.Native.Nat.{ℕ, ◌+◌, ◌*◌, ◌≤◌, ◌<◌}
use mathlib.Core.Path.{◌≡◌, refl, sym, ap, subst, ◌∙◌}
use mathlib.Core.Bool.{Bool, true, false, false≢true}
use mathlib.Core.List.{List}
use native.Mathlib.Omega.{arith}
use native.Mathlib.Numerals.{add-one}
use lib.IntN.{ℤ, pos, ◌+ℤ◌}
use lib.ListN.{length}
use mir.Syntax.{w32}
use mir.Val.{SFits, to_z, of_z}
use mir.ValLaws.{to_z-of_z}
use Rattle.numbers.specs.Range.{Within}
use Rattle.numbers.specs.Column.{column}
use Rattle.numbers.specs.Sum.{sum_z, bit}
use Rattle.numbers.proofs.Integers.{zarith, plus}
use Rattle.numbers.proofs.Sums.{sum_z-column}
use Rattle.terms.specs.Checks.{most_units}
use Rattle.terms.specs.Reply.{Reply, is, refused}
use Rattle.terms.proofs.Replies.{never}
use Rattle.terms.proofs.FirstRefused as reading
use Rattle.terms.proofs.FirstRefused.{Left}
use Rattle.group.proofs.Amounts.{faults-none, none-faulty}
use Rattle.records.specs.declared.day.DayRecord.{DayRecord}
use Rattle.records.specs.declared.unit.UnitRecord.{UnitRecord}
use Rattle.records.specs.Layouts.{group_length, is_unit, margins_of, unit_at}
use Rattle.records.specs.Reading.{unit_end, place_from, unit_place, unit_in, unit_of, ends_fit, unit_faults}
use Rattle.records.specs.Decoding.{unit_n0, unit_implicit, pc_in}
use Rattle.records.specs.Inner.{is_whole, marks_pass}
use Rattle.records.proofs.Accepted as accepted
use Rattle.records.proofs.Accepted.{unit-in}
use Rattle.records.proofs.UnitHeads.{kind-known, ends-fit, unit-lies}
use Rattle.records.proofs.Marks.{marked, marks-enough, unit-read, read-marked}
use Rattle.records.proofs.Turns.{units_after, units-steps}
use Rattle.decode.specs.Block.{block_count}
use Rattle.decode.specs.declared.Reading.{Reading}
use Rattle.decode.specs.Inner.{Begun, Passed, UnitRoom, TakenIn, ReadTo, Decoded, Amounts, units_at, UnitsRead}
use Rattle.decode.proofs.Filling.{Filled, fill_none, fill_more, fill-all}

-- the unit of an index passed its checks, and lies whole in the block
module _ {s : List ℕ} (b : Passed s) where
  pub unit-there : (i : ℕ) → i < block_count s → is_whole s (unit_place s i) ≡ true
  unit-there = accepted.unit-there s b.day (block_count s) b.long b.units

-- a quantity in its range is what its bits say
pub back : (z : ℤ) → Within 1000000 z → to_z w32 (of_z w32 z) ≡ z
back z h = to_z-of_z w32 z (omega zarith)

-- a sum of the first quantities, and that with one more it fits
pub record Added (f : ℕ → ℤ) (i : ℕ) (p : ℤ) : Type 0 where
  pub total : p ≡ sum_z (column i f)
  pub small : Within (i * 1000000) (sum_z (column i f))

module _ {f : ℕ → ℤ} {i : ℕ} {p : ℤ} (a : Added f i p) (few : i ≤ most_units) where
  pub added-fits : (z : ℤ) → Within 1000000 z → i < most_units → SFits w32 (sum_z (column i f) +ℤ z)
  added-fits z h l = omega (zarith, a.small, plus (sum_z (column i f)) z)

  pub added_more : {q : ℤ} {z : ℤ} → z ≡ f i → Within 1000000 z → q ≡ sum_z (column i f) +ℤ z → Added f (i + 1) q
  added_more {q} {z} e h eq =
      let n : sum_z (column (i + 1) f) ≡ sum_z (column i f) +ℤ z = rw (add-one i, e) (sum_z-column _ i) in
      record { total = eq ∙ rw n; small = rw n (omega (zarith, a.small, plus (sum_z (column i f)) z)) }

-- a block whose units pass: no nomination and no margins of theirs fail
pub amounts-passed : (s : List ℕ) (day : DayRecord) → Begun s → {end : ℕ} → units_at s day ≡ is end → (i : ℕ) → i < block_count s → Amounts s i
amounts-passed s day b e i l =
    let u = unit-in s day (block_count s) b.long e i l in
    none-faulty _ _ u.n0 u.step_down u.step-up u.ordered

module _ (s : List ℕ) (day : DayRecord) where
  abbrev count : ℕ
  count = block_count s

  -- the columns are filled up to unit i, which begins here; where no nomination and no margins failed so far, the units left are all that is to be read
  pub record Going (class taken : List ℕ) (n0 down up : List ℤ) (here floor : ℕ) (p : ℤ) (i : ℕ) : Type 0 where
    pub begun : Begun s
    pub within : i ≤ count
    pub place : here ≡ unit_place s i
    pub left : ((j : ℕ) → j < i → Amounts s j) → Left (units_after s day) (units_at s day) count i (here, floor)
    pub sold : Added (λ (k : ℕ). (unit_in s k).pc.0) i p
    pub classes : Filled (λ (k : ℕ). (unit_in s k).class) count i class
    pub marks : Filled (λ (k : ℕ). bit (unit_implicit (unit_in s k))) count i taken
    pub starts : Filled (λ (k : ℕ). unit_n0 (unit_in s k)) count i n0
    pub downs : Filled (λ (k : ℕ). (margins_of (unit_in s k)).step_down) count i down
    pub ups : Filled (λ (k : ℕ). (margins_of (unit_in s k)).step_up) count i up

  pub start : {class taken : List ℕ} {n0 down up : List ℤ} → Begun s → UnitRoom count class taken n0 down up → Going class taken n0 down up group_length 0 (pos 0) 0
  unfolding sum_z column place_from
  start b r =
      record {
        begun = b;
        within = omega arith;
        place = refl;
        left = λ all. reading.start (units-steps s day) count (group_length, 0);
        sold = record { total = refl; small = omega zarith };
        classes = fill_none _ _ _ r.classes;
        marks = fill_none _ _ _ r.marks;
        starts = fill_none _ _ _ r.starts;
        downs = fill_none _ _ _ r.downs;
        ups = fill_none _ _ _ r.ups;
      }

  module _ {class taken : List ℕ} {n0 down up : List ℤ} {here floor : ℕ} {p : ℤ} {i : ℕ} (g : Going class taken n0 down up here floor p i) where
    pub upto : i ≤ most_units
    upto = omega (arith, g.within, g.begun.few)

    pub below : i < length n0 → i < count
    below h = omega (arith, g.starts.long)

    pub past : length n0 ≤ i → count ≤ i
    past h = omega (arith, g.starts.long)

    -- there is an entry for the unit in each column
    pub room : i < length n0 → UnitRoom (length n0) class taken n0 down up × ((i < length n0) × (length n0 ≤ most_units))
    room h =
        let n = sym g.starts.long in
        (record { classes = g.classes.long ∙ n; marks = g.marks.long ∙ n; starts = refl; downs = g.downs.long ∙ n; ups = g.ups.long ∙ n }, (h, omega (arith, g.starts.long, g.begun.few)))

    module _ (l : i < count) where
      -- a unit here that is not whole, or whose marks do not pass, is refused: so the units do not pass
      stopped : ((u : UnitRecord) → unit_of s here floor day ≡ is u → ⊥) → (end : ℕ) → units_at s day ≡ is end → ⊥
      stopped unread end e =
          let all = amounts-passed s day g.begun e in
          go (g.left (λ j k. all j (omega arith))) (unit_of s here floor day) refl
        where
          go : Left (units_after s day) (units_at s day) count i (here, floor) → (r : Reply UnitRecord) → unit_of s here floor day ≡ r → ⊥
          go left (is u) q = unread u q
          go left (refused n k) q = never (reading.stop (units-steps s day) count i left l q ∙ e)

      pub not_there : is_whole s here ≡ false → (end : ℕ) → units_at s day ≡ is end → ⊥
      not_there gone =
          stopped (λ u e. false≢true (sym gone ∙ unit-lies s here floor day e))

      pub not-marked : {u : UnitRecord} → unit_at s here ≡ u → marks_pass u floor day ≡ false → (end : ℕ) → units_at s day ≡ is end → ⊥
      not-marked v fails = stopped (λ u e. false≢true (sym fails ∙ ap (λ (x : UnitRecord). marks_pass x floor day) (sym v) ∙ read-marked s here floor day e))

      -- the unit here is taken in
      module _ {u : UnitRecord} (v : unit_at s here ≡ u) (there : is_whole s here ≡ true) {r : Bool} {class' taken' : List ℕ} {n0' down' up' : List ℤ}
          (t : TakenIn u floor day i r class taken n0 down up class' taken' n0' down' up') (yes : r ≡ true) where
        passes : marks_pass u floor day ≡ true
        passes = sym t.told ∙ yes

        small : Within 1000000 u.pc.0
        small = (marked u floor day passes).pc

        here_in : u ≡ unit_in s i
        here_in = sym v ∙ ap (unit_at s) g.place

        -- the sum of PC and its own, as the machine adds them
        abbrev more : ℤ
        more = p +ℤ to_z w32 (of_z w32 u.pc.0)

        is-more : more ≡ sum_z (pc_in s i) +ℤ u.pc.0
        is-more = rw (g.sold.total, back _ small)

        pub fits : SFits w32 more
        fits = rw is-more (added-fits g.sold upto _ small (omega (arith, l, g.begun.few)))

        pub turn : {h f : ℕ} {q : ℤ} → h ≡ unit_end s here → f ≡ u.number + 1 → q ≡ to_z w32 (of_z w32 more) → Going class' taken' n0' down' up' h f q (i + 1)
        unfolding place_from
        turn {h} {f} {q} eh ef eq =
            record {
              begun = g.begun;
              within = omega arith;
              place = eh ∙ ap (unit_end s) g.place ∙ ap (place_from s group_length) (sym (add-one i));
              left = onward;
              sold = added_more g.sold upto (rw here_in) small (eq ∙ to_z-of_z w32 more (omega (zarith, fits)) ∙ is-more);
              classes = fill_more _ _ i class l (t.classes yes ∙ rw here_in) g.classes;
              marks = fill_more _ _ i taken l (t.marks yes ∙ rw here_in) g.marks;
              starts = fill_more _ _ i n0 l (t.starts yes ∙ rw here_in) g.starts;
              downs = fill_more _ _ i down l (t.downs yes ∙ rw here_in) g.downs;
              ups = fill_more _ _ i up l (t.ups yes ∙ rw here_in) g.ups;
            }
          where
            onward : ((j : ℕ) → j < i + 1 → Amounts s j) → Left (units_after s day) (units_at s day) count (i + 1) (h, f)
            onward all =
                let a = faults-none _ _ (all i (omega arith)) in
                let w = here_in in
                let fine : unit_faults (unit_at s here) floor day ≡ Ok tt =
                rw v (marks-enough u floor day (ap (λ (x : UnitRecord). is_unit x.kind) (sym v) ∙ kind-known s here) (ap ends_fit (sym v) ∙ ends-fit s here) passes (rw w a.0) (rw w a.1.0) (rw w a.1.1.0) (rw w a.1.1.1)) in
                let next = reading.turn (units-steps s day) count i (g.left (λ j k. all j (omega arith))) l (unit-read s here floor day there fine) in
                rw (eh, ef ∙ ap (λ (x : UnitRecord). x.number + 1) (sym v)) next

    -- handed on where units are left, and taken up again
    pub hand_on : i < count → ReadTo s day class taken n0 down up here floor p i
    hand_on l =
        record {
          begun = g.begun;
          within = l;
          place = g.place;
          left = λ all. (g.left all).so;
          sold = g.sold.total;
          small = g.sold.small;
          room = record { classes = g.classes.long; marks = g.marks.long; starts = g.starts.long; downs = g.downs.long; ups = g.ups.long };
          classes = g.classes.so;
          marks = g.marks.so;
          starts = g.starts.so;
          downs = g.downs.so;
          ups = g.ups.so;
        }

    pub end : count ≤ i → Decoded s p class taken n0 down up
    end l =
        let h = g.within in
        let n : i ≡ count = omega arith in
        record {
          sold = rw (g.sold.total, n);
          classes = fill-all _ _ i class h l g.classes;
          marks = fill-all _ _ i taken h l g.marks;
          starts = fill-all _ _ i n0 h l g.starts;
          downs = fill-all _ _ i down h l g.downs;
          ups = fill-all _ _ i up h l g.ups;
        }

    pub ended : count ≤ i → ((j : ℕ) → j < count → Amounts s j) → units_at s day ≡ is here
    ended l all =
        let h = g.within in
        sym (reading.end (units-steps s day) count i (g.left (λ j k. all j (omega arith))) l)

  pub take-up : {class taken : List ℕ} {n0 down up : List ℤ} {here floor i : ℕ} {z : ℤ} → ReadTo s day class taken n0 down up here floor z i
      → Going class taken n0 down up here floor z i
  take-up r =
      record {
        begun = r.begun;
        within = omega (arith, r.within);
        place = r.place;
        left = λ all. record { within = omega (arith, r.within); so = r.left all };
        sold = record { total = rw r.sold; small = r.small };
        classes = record { long = r.room.classes; so = r.classes };
        marks = record { long = r.room.marks; so = r.marks };
        starts = record { long = r.room.starts; so = r.starts };
        downs = record { long = r.room.downs; so = r.downs };
        ups = record { long = r.room.ups; so = r.ups };
      }

-- a reading that was broken off, and one that came to its end
abbrev whole : Option Reading → Bool
whole (Some _) = true
whole None = false

pub no_reading : {r : Option Reading} {read : Reading} → r ≡ None → r ≡ Some read → ⊥
no_reading n y = false≢true (ap whole (sym n ∙ y))

pub same-reading : {r : Option Reading} {a b : Reading} → r ≡ Some a → r ≡ Some b → a ≡ b
same-reading p q = let e = sym p ∙ q in cc

module _ (s : List ℕ) (day : DayRecord) {r : Option Reading} {class taken : List ℕ} {n0 down up : List ℤ} where
  pub broken : r ≡ None → ((end : ℕ) → units_at s day ≡ is end → ⊥) → UnitsRead s day r class taken n0 down up
  broken w none =
      record { decoded = λ _ t. absurd (no_reading w t); ends = λ _ t all. absurd (no_reading w t); fails = λ _. none }

  pub came : {read : Reading} → r ≡ Some read → Decoded s read.p.0 class taken n0 down up → (((i : ℕ) → i < block_count s → Amounts s i) → units_at s day ≡ is read.end)
      → UnitsRead s day r class taken n0 down up
  came w d e =
      record {
        decoded = λ x t. subst (λ (y : Reading). Decoded s y.p.0 class taken n0 down up) (same-reading w t) d;
        ends = λ x t all. e all ∙ ap (λ (y : Reading). is y.end) (same-reading w t);
        fails = λ f. absurd (no_reading f w);
      }
