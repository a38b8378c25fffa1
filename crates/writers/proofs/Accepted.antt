-- What the block writer accepted has passed each of its tests in turn.
use Rattle.std.specs.Prelude.{Result, Ok}
use Prim.Native.Nat.{ℕ, zero, suc, ◌+◌, ◌≤◌, ◌<◌}
use mathlib.Core.Path.{◌≡◌, refl, sym, ap, ◌∙◌}
use mathlib.Core.Bool.{Bool, true, false, ◌&&◌, and-eq-true_iff}
use lib.Dec.{eqb}
use Rattle.std.specs.Prelude.{◌==◌, MatchResult}
use Rattle.std.specs.List.{list_all}
use mathlib.Core.List.{List, [], ◌∷◌}
use native.Mathlib.Omega.{arith}
use borrow.Author.Tests.{ltb-true, leb-true, eqb-true, eq-eqb}
use Rattle.terms.specs.Reply.{Reply, is, need}
use Rattle.terms.specs.Refusals.{passed, first_fault, refusal}
use Rattle.terms.specs.Checks.{most_units}
use Rattle.terms.proofs.Replies.{need-is, next-is}
use Rattle.terms.proofs.Scan.{all-fine}
use Rattle.records.specs.declared.group.GroupRecord.{GroupRecord}
use Rattle.writers.specs.Columns.{Columns, count, same, even, row_checks}
use Rattle.writers.specs.Writing.{room_for, group_checks, block_length, units_checked, write_block_of, group_over}
use Rattle.writers.specs.Inner.{Level}
use Rattle.terms.specs.declared.refusal.Fault.{Fault}
use Rattle.terms.specs.declared.refusal.Refusal.{Refusal}
use Rattle.terms.specs.declared.refusal.Why.TheVariants.{Columns as Uneven}
use Rattle.writers.specs.declared.units.Units.{Units}
use Rattle.writers.specs.Units.{listed}

-- columns of one length are even, and the other way round
pub level_even : (c : Columns) → Level c → even c ≡ true
unfolding even same
level_even c l =
    let go : (m n : ℕ) → m ≡ n → eqb m n ≡ true = λ m n e. eq-eqb m n e in
    rw (go _ _ l.classes, go _ _ l.coincidences, go _ _ l.nominations, go _ _ l.ns, go _ _ l.pcs, go _ _ l.downs, go _ _ l.ups, go _ _ l.minutes, go _ _ l.kinds, go _ _ l.lowers, go _ _ l.uppers)

pub all_same : (n : ℕ) (ms : List ℕ) → list_all (λ m. m == n) ms ≡ same n ms
unfolding same
all_same n [] = refl
all_same n (m ∷ ms) = ap (λ (b : Bool). eqb m n && b) (all_same n ms)

head_same : (n m : ℕ) (ms : List ℕ) → same n (m ∷ ms) ≡ true → (m ≡ n) × (same n ms ≡ true)
unfolding same
head_same n m ms e =
    let p = (and-eq-true_iff _ _).0 e in
    (eqb-true m n p.0, p.1)

pub even_level : (c : Columns) → even c ≡ true → Level c
unfolding even
even_level c e0 =
    let n = count c in
    let e1 = head_same n _ _ e0 in
    let e2 = head_same n _ _ e1.1 in
    let e3 = head_same n _ _ e2.1 in
    let e4 = head_same n _ _ e3.1 in
    let e5 = head_same n _ _ e4.1 in
    let e6 = head_same n _ _ e5.1 in
    let e7 = head_same n _ _ e6.1 in
    let e8 = head_same n _ _ e7.1 in
    let e9 = head_same n _ _ e8.1 in
    let ea = head_same n _ _ e9.1 in
    let eb = head_same n _ _ ea.1 in
    record {
      classes = e1.0;
      coincidences = e2.0;
      nominations = e3.0;
      ns = e4.0;
      pcs = e5.0;
      downs = e6.0;
      ups = e7.0;
      minutes = e8.0;
      kinds = e9.0;
      lowers = ea.0;
      uppers = eb.0;
    }

-- the group's own fields
pub record Grouped (g : GroupRecord) (units : ℕ) : Type 0 where
  pub early : g.quarter < 100
  pub some : 1 ≤ units
  pub few : units ≤ most_units

pub grouped : (g : GroupRecord) (units : ℕ) {n : ℕ} → group_checks g units ≡ is n → Grouped g units
unfolding group_checks
grouped g units e =
    let a = need-is _ _ _ _ e in
    let b = (and-eq-true_iff _ _).0 (need-is _ _ _ _ a.1).0 in
    record { early = ltb-true g.quarter 100 a.0; some = leb-true 1 units b.0; few = leb-true units most_units b.1 }

-- the count of units is the columns': the group record's own is not asked for
pub asked : {g h : GroupRecord} (c : Columns) (room : ℕ) {x : Reply ℕ} → h ≡ g → x ≡ write_block_of h c room → write_block_of (group_over g c) c room ≡ x
unfolding write_block_of group_checks
asked c room e f = sym (f ∙ ap (λ (y : GroupRecord). write_block_of y c room) e)

-- columns that are not even are refused
pub uneven : (g : GroupRecord) (k : Columns) (room : ℕ) (f : Refusal) → f ≡ record { why = Uneven; place = 0 } → even k ≡ false → write_block_of g k room ≡ refusal f
unfolding write_block_of need
uneven g k room f e h = rw (e, h)

-- level columns are those that were given
pub levelled : (r : Result Units Refusal) (u : Units) (k : Columns) (P : Refusal → Type 0) → r ≡ Ok u → MatchResult r (λ v. listed v ≡ k) P → listed u ≡ k
levelled r u k P e h = rw e at h

-- the whole block
pub record Accepted (g : GroupRecord) (c : Columns) (room n : ℕ) : Type 0 where
  pub evenly : even c ≡ true
  pub group : Grouped g (count c)
  pub fine : (i : ℕ) → i < count c → row_checks c i ≡ Ok tt
  pub bytes : n ≡ block_length c
  pub enough : n ≤ room

pub accepted : (g : GroupRecord) (c : Columns) (room : ℕ) {n : ℕ} → write_block_of g c room ≡ is n → Accepted g c room n
unfolding write_block_of units_checked room_for
accepted g c room {n} e =
    let evenly = need-is _ _ _ _ e in
    let group = next-is _ _ evenly.1 in
    let units = next-is _ _ group.1.1 in
    let each = next-is _ _ units.1.0 in
    let fits = need-is _ _ _ _ units.1.1 in
    let enough = leb-true units.0 room fits.0 in
    let length : block_length c ≡ units.0 = cc each.1.1 in
    let told : units.0 ≡ n = cc fits.1 in
    record {
      evenly = evenly.0;
      group = grouped g (count c) group.1.0;
      fine = λ i l. all-fine (row_checks c) 0 (count c) each.1.0 i (omega arith) (omega arith);
      bytes = omega arith;
      enough = omega arith;
    }

-- units that are all fine are counted
pub fine-scan : (checks : ℕ → Result Unit Fault) (i left : ℕ) → ((j : ℕ) → i ≤ j → j < i + left → checks j ≡ Ok tt) → first_fault checks i left ≡ is (i + left)
unfolding first_fault passed
fine-scan checks i zero h =
    let e : i + 0 ≡ i = omega arith in
    rw e
fine-scan checks i (suc left) h =
    let e : i + suc left ≡ suc i + left = omega arith in
    rw (h i (omega arith) (omega arith), e) (fine-scan checks (suc i) left (λ j l m. h j (omega arith) (omega arith)))
