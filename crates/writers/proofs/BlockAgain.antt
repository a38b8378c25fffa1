-- A block that a reader accepted, written again from its values as columns, gives the same bytes: each unit is a row of the columns, and passes.
use Rattle.std.specs.Prelude.{Result, Ok, Option}
use Prim.Native.Nat.{ℕ, zero, suc, ◌+◌, ◌≤◌, ◌<◌}
use mathlib.Core.Path.{◌≡◌, refl, sym, ap, ◌∙◌}
use mathlib.Core.Bool.{true}
use mathlib.Core.List.{List}
use native.Mathlib.Decide.{dec_lt}
use native.Mathlib.Omega.{arith}
use lib.ListN.{length, take, drop}
use lib.Seq.{take-add}
use borrow.Author.Tests.{eq-eqb, le-leb, lt-ltb}
use Rattle.numbers.specs.Bytes.{Bytes}
use Rattle.numbers.proofs.Columns.{column-length, column-at}
use Rattle.terms.specs.Reply.{is, need, next}
use Rattle.terms.specs.Refusals.{reply}
use Rattle.terms.specs.Checks.{unit_count}
use Rattle.terms.proofs.Replies.{next-is}
use Rattle.records.specs.declared.key.Key.{Key}
use Rattle.records.specs.declared.day.DayRecord.{DayRecord}
use Rattle.records.specs.declared.group.GroupRecord.{GroupRecord}
use Rattle.records.specs.declared.unit.UnitRecord.{UnitRecord}
use Rattle.records.specs.Layouts.{group_kind, group_length, unit_bytes, length_of}
use Rattle.records.specs.Inner.{is_whole}
use Rattle.records.proofs.UnitHeads.{read_whole}
use Rattle.records.specs.Reading.{permitted, group_of, judged_by, value_faults, unit_faults, unit_of, units_of, place_from, unit_place, unit_in}
use Rattle.records.proofs.Accepted.{unit-is, block-end}
use Rattle.records.proofs.Checks.{also-fine}
use Rattle.records.proofs.Heads.{headed}
use Rattle.records.proofs.Read.{GroupPassed, group-passed, GroupRead, group-read, quarters-most}
use Rattle.writers.specs.Columns.{Columns, row_of, columns_in, count, same, even, floor_at, row_checks}
use Rattle.writers.specs.Writing.{room_for, group_checks, units_end, units_checked, block_length, write_block_of, group_over, units_bytes, block_bytes, BlockWritten}
use Rattle.writers.proofs.Runs.{run-again}
use Rattle.writers.proofs.Lengths.{length-units, length-block}
use Rattle.writers.proofs.Accepted.{fine-scan}
use Rattle.writers.proofs.Fields.{group-laid}
use Rattle.writers.proofs.UnitBytes.{length-unit, unit-laid}
use Rattle.writers.proofs.Again.{written}
use Rattle.terms.specs.declared.refusal.Refusal.{Refusal}

-- the floor of a unit's number, by the layout
floor_in : List ℕ → ℕ → ℕ
floor_in s zero = 0
floor_in s (suc i) = (unit_in s i).number + 1

-- a unit that the reader passed
record Read (s : List ℕ) (i : ℕ) : Type 0 where
  pub whole : is_whole s (unit_place s i) ≡ true
  pub fine : value_faults (unit_in s i) (floor_in s i) ≡ Ok tt

module _ (s : List ℕ) (day : DayRecord) where
  read_one : (i : ℕ) {u : UnitRecord} → unit_of s (unit_place s i) (floor_in s i) day ≡ is u → Read s i
  unfolding unit_of unit_faults
  read_one i e =
      let p = unit-is s (unit_place s i) (floor_in s i) day e in
      record { whole = read_whole s (unit_place s i) (next-is _ _ e).1.0; fine = (also-fine _ _ p.0).0 }

  read_all : (i left : ℕ) {n : ℕ} → units_of s (unit_place s i) (floor_in s i) day left ≡ is n → (j : ℕ) → i ≤ j → j < i + left → Read s j
  unfolding units_of place_from floor_in
  read_all i zero e j l h = absurd (omega arith)
  read_all i (suc left) e j l h =
      let a = next-is _ _ e in
      let u = (unit-is s (unit_place s i) (floor_in s i) day a.1.0).1 in
      go (read_one i a.1.0) (read_all (suc i) left (rw u at a.1.1) j) (dec_lt i j)
    where
      go : Read s i → (suc i ≤ j → j < suc i + left → Read s j) → Dec (i < j) → Read s j
      go here later (yes m) = later m (omega arith)
      go here later (no m) =
          let q : j ≡ i = omega arith in
          rw q here

-- ---- the units as columns
module _ (s : List ℕ) (units : ℕ) where
  row_in : (i : ℕ) → i < units → row_of (columns_in s units) i ≡ unit_in s i
  unfolding row_of
  row_in i h = simp column-at

  floor-in : (i : ℕ) → i < units → floor_at (columns_in s units) i ≡ floor_in s i
  unfolding floor_at floor_in
  floor-in zero h = refl
  floor-in (suc i) h = rw (row_in i (omega arith))

  end-in : (i : ℕ) → i ≤ units → units_end (columns_in s units) i ≡ unit_place s i
  unfolding units_end place_from
  end-in zero h = refl
  end-in (suc i) h =
      ap (λ (at : ℕ). at + length_of (row_of (columns_in s units) i)) (end-in i (omega arith)) ∙ ap (λ (u : UnitRecord). unit_place s i + length_of u) (row_in i h)

  even-in : even (columns_in s units) ≡ true
  unfolding even same
  even-in = simp (column-length, eq-eqb units units refl)

-- ---- the whole block
module _ (s : List ℕ) (small : Bytes s) (day : DayRecord) (last : Option Key) (g : GroupRecord) {n : ℕ} (right : permitted day.quarters ≡ true)
    (group : group_of s day last ≡ is g) (units : units_of s group_length 0 (judged_by g day) g.count ≡ is n) where
  abbrev values : Columns
  values = columns_in s g.count

  read : GroupRead s day last g
  read = group-read s day last group

  passed : GroupPassed s day last g
  passed = group-passed s day last read.fields

  counted : count values ≡ g.count
  counted = column-length (λ (i : ℕ). (unit_in s i).number) g.count

  reads : (i : ℕ) → i < g.count → Read s i
  unfolding floor_in place_from
  reads i h = read_all s _ 0 g.count units i (omega arith) (omega arith)

  -- where they end is the block's length
  ends : n ≡ block_length values
  ends = block-end s _ g.count (headed s 0 group_kind group_length read.head).long units ∙ rw (counted, end-in s g.count g.count (omega arith))

  -- the writer takes the values
  takes : (room : ℕ) → n ≤ room → write_block_of g values room ≡ is n
  unfolding write_block_of group_checks units_checked room_for need next
  takes room h =
      let v = passed.value in
      let early : g.quarter < day.quarters = rw v passed.early in
      let soon = lt-ltb g.quarter 100 (omega (arith, quarters-most day.quarters right)) in
      let some : unit_count (count values) ≡ true = rw (counted, v) passed.counted in
      let all = fine-scan (row_checks values) 0 (count values) (λ i l m. fine i (omega (arith, counted))) in
      let fits = le-leb (block_length values) room (omega (arith, ends)) in
      simp (even-in s g.count, soon, some, all, fits) (ap is (sym ends))
    where
      fine : (i : ℕ) → i < g.count → row_checks values i ≡ Ok tt
      fine i h = rw (row_in s g.count i h, floor-in s g.count i h) (reads i h).fine

  -- and lays them as the block's bytes
  unit-again : (i : ℕ) → i < g.count
      → unit_bytes (row_of values i) ≡ take (length (unit_bytes (row_of values i))) (drop (group_length + length (units_bytes values i)) s)
  unit-again i h =
      rw (length-unit (row_of values i), length-units values i, end-in s g.count i (omega arith), row_in s g.count i h) (unit-laid s small (unit_place s i) (reads i h).whole)

  lays : block_bytes g values ≡ take n s
  unfolding block_bytes units_bytes
  lays =
      let first = rw (← passed.value) at (group-laid s small read.head) in
      let rest = run-again (λ (i : ℕ). unit_bytes (row_of values i)) s group_length (count values) (λ i h. unit-again i (rw counted at h)) in
      rw (first, rest, ends, ← length-units values (count values)) (sym (take-add group_length (length (units_bytes values (count values))) s))

  pub block-again : {entry exit : List ℕ} {r : Result ℕ Refusal} → n ≤ length entry → BlockWritten g (columns_in s g.count) entry r exit
      → (reply r ≡ is n) × (take n exit ≡ take n s)
  block-again {entry} h w =
      let same : group_over g values ≡ g = rw counted in
      written (block_bytes g values) entry n s (rw same at w) (takes (length entry) h) (length-block g values ∙ sym ends) lays
