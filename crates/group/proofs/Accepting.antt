-- What an accepted group has passed, read back from the reply test by test.
use Rattle.std.specs.Prelude.{Ok}
use Prim.Native.Nat.{ℕ, ◌<◌}
use mathlib.Core.Path.{◌≡◌, refl}
use mathlib.Core.Bool.{true}
use mathlib.Core.List.{List}
use native.Mathlib.Omega.{arith}
use native.Mathlib.Decide.{dec_lt}
use borrow.Author.Tests.{eqb-true, leb-true}
use lib.Dec.{eqb, leb}
use lib.IntN.{ℤ, pos}
use lib.ListN.{length, get_or, get_or-eq_default}
use lib.Signed.{le_z}
use Rattle.numbers.specs.Range.{Within}
use Rattle.numbers.specs.Column.{at}
use Rattle.numbers.proofs.Integers.{zarith}
use Rattle.numbers.proofs.Choices.{and_both}
use Rattle.numbers.proofs.Sums.{sum64-within}
use Rattle.terms.specs.Reply.{is}
use Rattle.terms.specs.Refusals.{first_fault}
use Rattle.terms.specs.Checks.{is_flag, in_range, most_units, unit_count, margin_checks, amount_checks}
use Rattle.terms.specs.declared.quantity.Margins.{Margins}
use Rattle.terms.specs.declared.refusal.Fault.TheVariants as F
use Rattle.terms.proofs.Classes.{flag-known}
use Rattle.terms.proofs.Passing.{passes, range-within}
use Rattle.terms.proofs.Scan.{all-fine}
use Rattle.group.specs.Group.{Group, units, margins_at, position, excess, n1}
use Rattle.group.specs.Columns.{unit_check, unit_checks, lengths, one_length}
use Rattle.group.specs.Accepted.{Level, Sound, Accepted}
use Rattle.group.specs.Inner.{Judged, Bearable}
use Rattle.group.proofs.Judging.{n1-bearable}

unit-sound : (class : ℕ) (n0 pc : ℤ) (m : Margins) → unit_check class n0 pc m ≡ Ok tt → Sound class n0 pc m
unfolding unit_check amount_checks margin_checks
unit-sound class n0 pc m e =
    let a = passes (is_flag class) F.Class _ e in
    let b = passes (in_range n0) F.N _ a.1 in
    let c = passes (in_range pc) F.Pc _ b.1 in
    let d = passes (in_range m.step_down) F.StepDown _ c.1 in
    let f = passes (in_range m.step_up) F.StepUp _ d.1 in
    record {
      known = flag-known class a.0;
      n0-small = range-within n0 b.0;
      pc-small = range-within pc c.0;
      down-small = range-within m.step_down d.0;
      up_small = range-within m.step_up f.0;
      ordered = (passes (le_z m.step_down m.step_up) F.Crossed (Ok tt) f.1).0;
    }

pub position-within : (g : Group) → Accepted g → Within 64000000 (position g)
position-within g a = sum64-within g.pc (omega (arith, a.level.positions, a.few)) (λ i. (a.sound i).pc-small)

-- such a group can be judged
pub judged-by : (g : Group) → Accepted g → Judged (position g) g.n0 g.step_down g.step_up g.class
judged-by g a =
    record {
      few = a.few;
      downs = a.level.downs;
      ups = a.level.ups;
      classes = a.level.classes;
      known = λ i. (a.sound i).known;
      position-small = position-within g a;
      n0-small = λ i. (a.sound i).n0-small;
      down-small = λ i. (a.sound i).down-small;
      up_small = λ i. (a.sound i).up_small;
    }

-- the eight lengths
record Even (g : Group) (first second third : List ℤ) : Type 0 where
  pub level : Level g
  pub firsts : length first ≡ units g
  pub seconds : length second ≡ units g
  pub thirds : length third ≡ units g

even : (g : Group) (first second third : List ℤ) → one_length g first second third ≡ true → Even g first second third
unfolding lengths
even g first second third e =
    let p = and_both (eqb (length g.pc) (units g)) _ e in
    let d = and_both (eqb (length g.step_down) (units g)) _ p.1 in
    let u = and_both (eqb (length g.step_up) (units g)) _ d.1 in
    let c = and_both (eqb (length g.class) (units g)) _ u.1 in
    let x = and_both (eqb (length first) (units g)) _ c.1 in
    let y = and_both (eqb (length second) (units g)) _ x.1 in
    let z = and_both (eqb (length third) (units g)) _ y.1 in
    record {
      level =
          record {
            positions = eqb-true _ _ p.0;
            downs = eqb-true _ _ d.0;
            ups = eqb-true _ _ u.0;
            classes = eqb-true _ _ c.0;
          };
      firsts = eqb-true _ _ x.0;
      seconds = eqb-true _ _ y.0;
      thirds = eqb-true _ _ z.0;
    }

pub written-lengths : (g : Group) (first second third : List ℤ) → one_length g first second third ≡ true
    → (length first ≡ units g) × ((length second ≡ units g) × (length third ≡ units g))
written-lengths g first second third e =
    let v = even g first second third e in
    (v.firsts, (v.seconds, v.thirds))

pub level-of : (g : Group) (first second third : List ℤ) → one_length g first second third ≡ true → Level g
level-of g first second third e = (even g first second third e).level

-- past the end there is nothing to refuse
nothing-sound : Sound 0 (pos 0) (pos 0) (record { step_down = pos 0; step_up = pos 0 })
nothing-sound =
    record { known = refl; n0-small = omega zarith; pc-small = omega zarith; down-small = omega zarith; up_small = omega zarith; ordered = refl }

module _ (g : Group) (first second third : List ℤ) {n : ℕ} (lengths-one : one_length g first second third ≡ true)
    (permitted : unit_count (units g) ≡ true) (fine : first_fault (unit_checks g) 0 (units g) ≡ is n) where
  pub accepted-by : Accepted g
  unfolding unit_checks
  accepted-by = record { few = leb-true (units g) most_units (and_both (leb 1 (units g)) (leb (units g) most_units) permitted).1; level = v; sound = λ i. go i (dec_lt i (units g)) }
    where
      v : Level g
      v = (even g first second third lengths-one).level

      go : (i : ℕ) → Dec (i < units g) → Sound (get_or g.class i 0) (at g.n0 i) (at g.pc i) (margins_at g.step_down g.step_up i)
      go i (yes l) =
          unit-sound (get_or g.class i 0) (at g.n0 i) (at g.pc i) (margins_at g.step_down g.step_up i)
          (all-fine (unit_checks g) 0 (units g) fine i (omega arith) (omega arith))
      go i (no l) =
          rw (
            get_or-eq_default g.class 0 {n = i} (omega (arith, v.classes)),
            get_or-eq_default g.n0 (pos 0) {n = i} (omega arith),
            get_or-eq_default g.pc (pos 0) {n = i} (omega (arith, v.positions)),
            get_or-eq_default g.step_down (pos 0) {n = i} (omega (arith, v.downs)),
            get_or-eq_default g.step_up (pos 0) {n = i} (omega (arith, v.ups)),
          )
          nothing-sound

  pub judged-of : Judged (position g) g.n0 g.step_down g.step_up g.class
  judged-of = judged-by g accepted-by

-- n1 of such a group is a column that can be cut, and bears its excess
pub bearable-of : (g : Group) → Accepted g → Bearable (excess g) (n1 g) g.class
bearable-of g a = n1-bearable (judged-by g a)
