-- What a writer accepted, read by the layouts, gives the values that it was given, and a day that takes the group and the ages accepts it.
use Rattle.std.specs.Prelude.{Result, Ok, Option}
use Prim.Native.Nat.{ℕ, zero, suc, ◌+◌, ◌*◌, ◌≤◌, ◌<◌}
use mathlib.Core.Path.{◌≡◌, refl, sym, ap, ◌∙◌}
use mathlib.Core.Bool.{true}
use mathlib.Core.List.{List, ◌++◌, append_assoc}
use native.Mathlib.Omega.{arith}
use lib.ListN.{length, drop}
use borrow.Author.Tests.{le-leb}
use Rattle.terms.specs.Reply.{Reply, is, next}
use Rattle.terms.specs.Refusals.{reply, check}
use Rattle.terms.specs.Checks.{most_units, unit_count}
use Rattle.terms.proofs.Replies.{need-is}
use Rattle.records.specs.declared.key.Key.{Key}
use Rattle.records.specs.declared.day.DayRecord.{DayRecord}
use Rattle.records.specs.declared.group.GroupRecord.{GroupRecord}
use Rattle.records.specs.declared.unit.UnitRecord.{UnitRecord}
use Rattle.records.specs.declared.end.EndRecord.{EndRecord}
use Rattle.records.specs.declared.group_result.GroupResult.{GroupResult}
use Rattle.records.specs.Layouts.{day_at, day_bytes, group_length, group_bytes, unit_at, unit_bytes, length_of, end_at, end_bytes}
use Rattle.records.specs.Layouts.{group_result_length, group_result_at, group_result_bytes, unit_result_length, unit_result_at, unit_result_bytes}
use Rattle.records.specs.Reading.{day_of, group_of, judged_by, end_of, also, unit_faults, units_of, unit_end, place_from, unit_place, unit_in}
use Rattle.records.proofs.Accepted.{Sound, sound}
use Rattle.writers.specs.Results.{Results, result_of, unit_results_bytes, result_bytes}
use Rattle.writers.specs.Columns.{Columns, row_of, count, floor_at, row_checks}
use Rattle.writers.specs.Writing.{Wrote, laid, write_day_of, DayWritten, EndWritten, group_over, units_end, units_bytes, block_bytes, block_length, write_block_of, BlockWritten}
use Rattle.writers.specs.Trips.{Values, Joins, Fresh, HeldResults}
use Rattle.writers.proofs.Runs.{run_at}
use Rattle.writers.proofs.Lengths.{length-units, length-group-result, length-results}
use Rattle.writers.proofs.Accepted.{Accepted, accepted}
use Rattle.writers.proofs.Fields.{day-read, day-reads, length-group, group-read, group_reads, end_read, end_reads, group-result-read, unit-result-read}
use Rattle.writers.proofs.UnitBytes.{unit-read, unit-reads}
use Rattle.terms.specs.declared.refusal.Refusal.{Refusal}

-- the room begins with what was written
pub front : {right : Reply ℕ} (bytes entry : List ℕ) {r : Result ℕ Refusal} {exit : List ℕ} {n : ℕ} → Wrote right bytes entry r exit → reply r ≡ is n
    → (right ≡ is n) × (exit ≡ bytes ++ drop n entry)
unfolding laid
front bytes entry w e =
    let q = sym w.replied ∙ e in
    (q, w.room ∙ rw q)

module _ {entry exit : List ℕ} {r : Result ℕ Refusal} {n : ℕ} (done : reply r ≡ is n) where
  pub day-back : (d : DayRecord) → DayWritten d entry r exit → (day_at exit 0 ≡ d) × (day_of exit ≡ is d)
  unfolding write_day_of
  day-back d w =
      let f = front (day_bytes d) entry w done in
      let p = (need-is _ _ _ _ f.0).0 in
      (day-read exit (drop n entry) d f.1, day-reads exit (drop n entry) d f.1 p)

  pub end_back : (x : EndRecord) → EndWritten x entry r exit → (end_at exit 0 ≡ x) × (end_of exit x.groups ≡ is x)
  end_back x w =
      let f = front (end_bytes x) entry w done in
      (end_read exit (drop n entry) x f.1, end_reads exit (drop n entry) x f.1)

-- ---- the block
module _ (g : GroupRecord) (c : Columns) (rest s : List ℕ) (so : s ≡ block_bytes g c ++ rest) where
  -- each unit's record stands where the one before ends
  unit-stands : (i : ℕ) → i < count c → (more : List ℕ) × (drop (units_end c i) s ≡ unit_bytes (row_of c i) ++ more)
  unfolding block_bytes units_bytes
  unit-stands i h =
      let f = run_at (λ (k : ℕ). unit_bytes (row_of c k)) (group_bytes g) (count c) rest i h in
      let e : length (group_bytes g) + length (units_bytes c i) ≡ units_end c i = rw (length-group g) (length-units c i) in
      (f.0, rw (← e, so, append_assoc (group_bytes g) (units_bytes c (count c)) rest) f.1)

  module _ (sounds : (i : ℕ) → i < count c → Sound (row_of c i)) where
    unit-is : (i : ℕ) → i < count c → unit_at s (units_end c i) ≡ row_of c i
    unit-is i h =
        let p = unit-stands i h in
        unit-read s (units_end c i) p.0 (row_of c i) p.1 (sounds i h)

    place_is : (i : ℕ) → i ≤ count c → unit_place s i ≡ units_end c i
    unfolding place_from units_end
    place_is zero h = refl
    place_is (suc i) h = ap (unit_end s) (place_is i (omega arith)) ∙ ap (λ (u : UnitRecord). units_end c i + length_of u) (unit-is i h)

    unit-in : (i : ℕ) → i < count c → unit_in s i ≡ row_of c i
    unit-in i h = rw (place_is i (omega arith)) (unit-is i h)

    module _ (day : DayRecord) (fine : (i : ℕ) → i < count c → unit_faults (row_of c i) (floor_at c i) day ≡ Ok tt) where
      -- from unit i on
      units_in : (left i : ℕ) → i + left ≡ count c → units_of s (units_end c i) (floor_at c i) day left ≡ is (block_length c)
      unfolding units_of next floor_at units_end
      units_in zero i e =
          let l : i ≡ count c = omega arith in
          ap (λ (k : ℕ). is (units_end c k)) l
      units_in (suc left) i e =
          let h : i < count c = omega arith in
          let p = unit-stands i h in
          rw (unit-reads s (units_end c i) p.0 (row_of c i) p.1 (sounds i h) (floor_at c i) day (fine i h))
          (ap (λ (u : UnitRecord). units_of s (units_end c i + length_of u) ((row_of c i).number + 1) day left) (unit-is i h) ∙ units_in left (suc i) (omega arith))

-- past the other checks, the age decides
aged-fine : (c : Columns) (day : DayRecord) (i : ℕ) → i < count c → row_checks c i ≡ Ok tt → Fresh c day
    → unit_faults (row_of c i) (floor_at c i) day ≡ Ok tt
unfolding unit_faults also check
aged-fine c day i h e f = simp (e, f.each i h)

module _ (g : GroupRecord) (c : Columns) {entry exit : List ℕ} {r : Result ℕ Refusal} {n : ℕ} (done : reply r ≡ is n) (w : BlockWritten g c entry r exit) where
  abbrev group : GroupRecord
  group = group_over g c

  in-room : (write_block_of g c (length entry) ≡ is n) × (exit ≡ block_bytes group c ++ drop n entry)
  in-room = front (block_bytes group c) entry w done

  took : Accepted g c (length entry) n
  took = accepted g c (length entry) in-room.0

  sounds : (i : ℕ) → i < count c → Sound (row_of c i)
  sounds i h = sound (row_of c i) (floor_at c i) (took.fine i h)

  group-front : exit ≡ group_bytes group ++ (units_bytes c (count c) ++ drop n entry)
  unfolding block_bytes
  group-front = in-room.1 ∙ append_assoc (group_bytes group) (units_bytes c (count c)) (drop n entry)

  pub block_back : Values (group_over g c) c exit
  block_back =
      record {
        group = group-read exit (units_bytes c (count c) ++ drop n entry) group group-front;
        unit = unit-in group c (drop n entry) exit in-room.1 sounds;
      }

  pub block-taken : (day : DayRecord) (last : Option Key) → Joins (group_over g c) day last → Fresh c (judged_by (group_over g c) day)
      → (group_of exit day last ≡ is (group_over g c)) × (units_of exit group_length 0 (judged_by (group_over g c) day) (count c) ≡ is n)
  unfolding floor_at units_end
  block-taken day last j k =
      let few = le-leb 1 (count c) took.group.some in
      let many = le-leb (count c) most_units took.group.few in
      let counted : unit_count (count c) ≡ true = rw (few, many) in
      let all = units_in group c (drop n entry) exit in-room.1 sounds _ (λ i h. aged-fine c _ i h (took.fine i h) k) (count c) 0 (omega arith) in
      (group_reads exit (units_bytes c (count c) ++ drop n entry) group group-front day last counted j, all ∙ ap is (sym took.bytes))

-- ---- the result of a block
module _ (g : GroupResult) (r : Results) (rest s : List ℕ) (so : s ≡ result_bytes g r ++ rest) (h : HeldResults g r) where
  pub results-back : (group_result_at s 0 ≡ g) × ((i : ℕ) → i < g.count → unit_result_at s (group_result_length + unit_result_length * i) ≡ result_of r i)
  unfolding result_bytes unit_results_bytes
  results-back =
      let u = unit_results_bytes r g.count in
      let e = so ∙ append_assoc (group_result_bytes g) u rest in (
        group-result-read s 0 (u ++ rest) g h.group e,
        λ i l.
            let f = run_at (λ (k : ℕ). unit_result_bytes (result_of r k)) (group_result_bytes g) g.count rest i l in
            let at : length (group_result_bytes g) + length (unit_results_bytes r i) ≡ group_result_length + unit_result_length * i =
            rw (length-group-result g, length-results r i) in
            unit-result-read s (group_result_length + unit_result_length * i) f.0 (result_of r i) (h.unit i l) (rw (← at, e) f.1),
      )
