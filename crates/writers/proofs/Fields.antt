-- The bytes of each record but the unit: as long as it is, read as its values and accepted wherever they were laid, and laid again from what stands there. No other law of the writers takes them apart.
use Rattle.std.specs.Prelude.{Option}
use Prim.Native.Nat.{ℕ}
use mathlib.Core.Path.{◌≡◌, refl}
use mathlib.Core.Bool.{true}
use mathlib.Core.List.{List, [], ◌∷◌, ◌++◌}
use native.Mathlib.Omega.{arith}
use lib.ListN.{length, take, drop}
use borrow.Author.Tests.{lt-ltb, eq-eqb}
use Rattle.numbers.specs.Bytes.{Bytes, bytes16, bytes32}
use Rattle.terms.specs.Reply.{is, need, next}
use Rattle.terms.specs.Checks.{unit_count}
use Rattle.records.specs.declared.key.Key.{Key}
use Rattle.records.specs.declared.day.DayRecord.{DayRecord}
use Rattle.records.specs.declared.group.GroupRecord.{GroupRecord}
use Rattle.records.specs.declared.end.EndRecord.{EndRecord}
use Rattle.records.specs.declared.group_result.GroupResult.{GroupResult}
use Rattle.records.specs.declared.unit_result.UnitResult.{UnitResult}
use Rattle.records.specs.Layouts.{behind, day_kind, day_length, day_table, day_at, day_bytes, day_length_of}
use Rattle.records.specs.Layouts.{group_kind, group_length, group_table, group_at, group_bytes}
use Rattle.records.specs.Layouts.{end_kind, end_length, end_table, end_at, end_bytes}
use Rattle.records.specs.Layouts.{group_result_kind, group_result_length, group_result_table, group_result_at, group_result_bytes}
use Rattle.records.specs.Layouts.{unit_result_kind, unit_result_length, unit_result_table, unit_result_at, unit_result_bytes}
use Rattle.records.specs.Reading.{day_head_of, permitted, day_fields_of, day_of, group_head_of, group_fields_of, group_of, end_head_of, end_fields_of, end_of}
use Rattle.records.proofs.Heads.{headed}
use Rattle.writers.specs.Trips.{Joins, HeldGroupResult, HeldUnitResult}
use Rattle.writers.proofs.Tables.{AllHeld, table-back, record-again, head_read}

-- ---- a day record
pub length-day : (d : DayRecord) → length (day_bytes d) ≡ day_length_of d
unfolding day_bytes behind bytes32 bytes16
length-day d = refl

module _ (s rest : List ℕ) (d : DayRecord) (e : s ≡ day_bytes d ++ rest) where
  pub day-read : day_at s 0 ≡ d
  unfolding day_at day_bytes
  day-read =
      let r = table-back s 0 (day_kind ∷ []) (day_table d) day_length rest refl (tt, (tt, (tt, (tt, (tt, tt))))) e in
      rw (r.0, r.1.0, r.1.1.0, r.1.1.1.0, r.1.1.1.1.0)

  day-head : day_head_of s ≡ is (day_length_of d)
  unfolding day_bytes behind bytes16 bytes32
  day-head = head_read s 0 day_kind (day_bytes d) rest e refl (omega arith) day_length refl

  pub day-reads : permitted d.quarters ≡ true → day_of s ≡ is d
  unfolding day_of day_fields_of next need
  day-reads p = simp (day-head, day-read, p)

pub day-laid : (s : List ℕ) → Bytes s → {end : ℕ} → day_head_of s ≡ is end → day_bytes (day_at s 0) ≡ take (day_length_of (day_at s 0)) s
unfolding day_at day_bytes
day-laid s small e = record-again s small 0 day_kind day_length (day_table (day_at s 0)) (headed s 0 day_kind day_length e) refl (refl, (refl, (refl, (refl, (refl, tt)))))

-- ---- a group record
pub length-group : (g : GroupRecord) → length (group_bytes g) ≡ group_length
unfolding group_bytes behind bytes32 bytes16
length-group g = refl

module _ (s rest : List ℕ) (g : GroupRecord) (e : s ≡ group_bytes g ++ rest) where
  pub group-read : group_at s 0 ≡ g
  unfolding group_at group_bytes
  group-read =
      let r = table-back s 0 (group_kind ∷ []) (group_table g) group_length rest refl (tt, (tt, (tt, (tt, (tt, tt))))) e in
      rw (r.0, r.1.0, r.1.1.0, r.1.1.1.0, r.1.1.1.1.0)

  group-head : group_head_of s ≡ is group_length
  unfolding group_bytes behind bytes16 bytes32
  group-head = head_read s 0 group_kind (group_bytes g) rest e refl (omega arith) group_length refl

  pub group_reads : (day : DayRecord) (last : Option Key) → unit_count g.count ≡ true → Joins g day last → group_of s day last ≡ is g
  unfolding group_of group_fields_of next need
  group_reads day last n j = simp (group-head, group-read, lt-ltb g.quarter day.quarters j.early, n, j.above, j.fresh)

pub group-laid : (s : List ℕ) → Bytes s → {end : ℕ} → group_head_of s ≡ is end → group_bytes (group_at s 0) ≡ take group_length s
unfolding group_at group_bytes
group-laid s small e = record-again s small 0 group_kind group_length (group_table (group_at s 0)) (headed s 0 group_kind group_length e) refl (refl, (refl, (refl, (refl, (refl, tt)))))

-- ---- an end record
pub length-end : (e : EndRecord) → length (end_bytes e) ≡ end_length
unfolding end_bytes behind bytes32 bytes16
length-end e = refl

module _ (s rest : List ℕ) (x : EndRecord) (e : s ≡ end_bytes x ++ rest) where
  pub end_read : end_at s 0 ≡ x
  unfolding end_at end_bytes
  end_read = rw (table-back s 0 (end_kind ∷ []) (end_table x) end_length rest refl (tt, tt) e).0

  end-head : end_head_of s ≡ is end_length
  unfolding end_bytes behind bytes32 bytes16
  end-head = head_read s 0 end_kind (end_bytes x) rest e refl (omega arith) end_length refl

  pub end_reads : end_of s x.groups ≡ is x
  unfolding end_of end_fields_of next need
  end_reads = simp (end-head, end_read, eq-eqb x.groups x.groups refl)

pub end-laid : (s : List ℕ) → Bytes s → {end : ℕ} → end_head_of s ≡ is end → end_bytes (end_at s 0) ≡ take end_length s
unfolding end_at end_bytes
end-laid s small e = record-again s small 0 end_kind end_length (end_table (end_at s 0)) (headed s 0 end_kind end_length e) refl (refl, tt)

-- ---- results
module _ (s : List ℕ) (at : ℕ) (rest : List ℕ) where
  pub group-result-read : (g : GroupResult) → HeldGroupResult g → drop at s ≡ group_result_bytes g ++ rest → group_result_at s at ≡ g
  unfolding group_result_at group_result_bytes
  group-result-read g h e =
      let held : AllHeld (group_result_table g) = (tt, (tt, (tt, (tt, (tt, (h.p, (h.s1, (h.s2, (h.s3, (h.balance, tt)))))))))) in
      let r = table-back s at (group_result_kind ∷ []) (group_result_table g) group_result_length rest refl held e in
      let m = r.1.1.1.1.1 in
      rw (r.0, r.1.0, r.1.1.0, r.1.1.1.0, r.1.1.1.1.0, m.0, m.1.0, m.1.1.0, m.1.1.1.0, m.1.1.1.1.0)

  pub unit-result-read : (u : UnitResult) → HeldUnitResult u → drop at s ≡ unit_result_bytes u ++ rest → unit_result_at s at ≡ u
  unfolding unit_result_at unit_result_bytes
  unit-result-read u h e =
      let r = table-back s at (unit_result_kind ∷ []) (unit_result_table u) unit_result_length rest refl (tt, (tt, (h.n0, (h.n1, (h.n2, (h.n3, tt)))))) e in
      rw (r.0, r.1.0, r.1.1.0, r.1.1.1.0, r.1.1.1.1.0, r.1.1.1.1.1.0)
