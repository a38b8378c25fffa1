-- A unit's bytes: as long as its record, read as its values wherever they were laid, and laid again from what stands there, by its kind. No other law of the writers takes them apart.
use Rattle.std.specs.Prelude.{Ok}
use Prim.Native.Nat.{ℕ, ◌+◌, ◌≤◌}
use mathlib.Core.Path.{◌≡◌, refl, sym, ap, ◌∙◌}
use mathlib.Core.Bool.{Bool, true, false, ◌||◌, ◌&&◌, false≢true}
use mathlib.Core.List.{List, [], ◌∷◌, ◌++◌}
use native.Mathlib.Omega.{arith}
use lib.Dec.{eqb}
use lib.IntN.{ℤ}
use lib.ListN.{length, take, drop}
use borrow.Author.Tests.{eqb-true}
use Rattle.numbers.specs.Bytes.{Bytes, byte_at, bytes16, bytes32}
use Rattle.numbers.specs.Choice.{pick, eq_z}
use Rattle.numbers.proofs.Choices.{and_both}
use Rattle.numbers.proofs.Integers.{zarith, by-test}
use Rattle.terms.specs.Reply.{is, next}
use Rattle.terms.specs.Refusals.{passed}
use Rattle.records.specs.declared.day.DayRecord.{DayRecord}
use Rattle.records.specs.declared.unit.UnitRecord.{UnitRecord}
use Rattle.records.specs.Layouts.{behind, tiles, value_at, Entry, entry, unit_kind, interval_kind, is_unit, unit_length, interval_length, unit_lower, unit_upper, full_lower, full_upper, ends_table, unit_table, unit_at, unit_bytes, length_of}
use Rattle.records.specs.Reading.{head_of, unit_head_of, unit_faults, unit_fields_of, unit_of}
use Rattle.records.specs.Inner.{is_whole}
use Rattle.records.proofs.Accepted.{Sound}
use Rattle.records.proofs.Heads.{headed}
use Rattle.records.proofs.Marks.{equal}
use Rattle.records.proofs.UnitHeads.{length_some, whole-read}
use Rattle.writers.proofs.Tables.{AllHeld, Stand, table-back, record-again, first-laid, first_read, head_read}

-- ---- by kind
-- an 04h has its ends behind the body, and any other nothing
abbrev ends : ℤ → ℤ → Bool → List Entry
ends lower upper own = pick own (entry unit_lower lower ∷ entry unit_upper upper ∷ []) []

pub length-unit : (u : UnitRecord) → length (unit_bytes u) ≡ length_of u
unfolding unit_bytes behind bytes32 bytes16
length-unit u = go (eqb u.kind interval_kind) refl
  where
    go : (own : Bool) → eqb u.kind interval_kind ≡ own → length (unit_bytes u) ≡ length_of u
    go true e = rw e
    go false e = rw e

-- its fields fill its length
unit-tiles : (u : UnitRecord) → tiles 1 (unit_table u) (length_of u) ≡ true
unit-tiles u = by-test (eqb u.kind interval_kind) (λ own. tiles unit_length (ends u.lower u.upper own) (pick own interval_length unit_length) ≡ true) (λ h. refl) (λ h. refl)

-- the kind that a first byte tells
kind-back : (kind : ℕ) → is_unit kind ≡ true → pick (eqb kind interval_kind) interval_kind unit_kind ≡ kind
kind-back kind known = go (eqb kind interval_kind) refl (eqb kind unit_kind) refl known
  where
    go : (own : Bool) → eqb kind interval_kind ≡ own → (plain : Bool) → eqb kind unit_kind ≡ plain → plain || own ≡ true → pick own interval_kind unit_kind ≡ kind
    go true o plain p k = sym (eqb-true kind interval_kind o)
    go false o true p k = sym (eqb-true kind unit_kind p)
    go false o false p k = absurd (false≢true k)

module _ (s : List ℕ) (at : ℕ) where
  -- the ends that stand behind the body, or the full ones
  ends-back : (own : Bool) (lower upper : ℤ) → Stand s at (ends lower upper own) → own || (eq_z lower full_lower && eq_z upper full_upper) ≡ true
      → (pick own (value_at s at unit_lower) full_lower ≡ lower) × (pick own (value_at s at unit_upper) full_upper ≡ upper)
  ends-back true lower upper st fit = (st.0, st.1.0)
  ends-back false lower upper st fit =
      let b = and_both (eq_z lower full_lower) (eq_z upper full_upper) fit in
      (sym (equal lower full_lower b.0), sym (equal upper full_upper b.1))

  ends-stand : Stand s at (ends_table (unit_at s at))
  unfolding unit_at
  ends-stand = go (eqb (byte_at s at) interval_kind)
    where
      go : (own : Bool)
          → Stand s at (ends (pick own (value_at s at unit_lower) full_lower) (pick own (value_at s at unit_upper) full_upper) (eqb (pick own interval_kind unit_kind) interval_kind))
      go true = (refl, (refl, tt))
      go false = tt

-- ---- whatever its kind
module _ (s : List ℕ) (at : ℕ) (rest : List ℕ) (u : UnitRecord) (e : drop at s ≡ unit_bytes u ++ rest) (sound : Sound u) where
  some : 1 ≤ length (unit_bytes u)
  some = omega (arith, length-unit u, length_some u)

  stands : Stand s at (unit_table u)
  unfolding unit_bytes
  stands =
      let n = sound.n in
      let pc = sound.pc in
      let down = sound.down in
      let up = sound.up in
      let lower = sound.lower in
      let upper = sound.upper in
      let own : AllHeld (ends_table u) = by-test (eqb u.kind interval_kind) (λ t. AllHeld (ends u.lower u.upper t)) (λ h. (omega zarith, (omega zarith, tt))) (λ h. tt) in
      let held : AllHeld (unit_table u) = (tt, (tt, (tt, (tt, (omega zarith, (omega zarith, (omega zarith, (omega zarith, (tt, own))))))))) in
      table-back s at (u.kind ∷ []) (unit_table u) (length_of u) rest (unit-tiles u) held e

  first : byte_at s at ≡ u.kind
  unfolding unit_bytes
  first = first_read s at u.kind (unit_bytes u) rest e (first-laid u.kind (unit_table u)) some

  pub unit-read : unit_at s at ≡ u
  unfolding unit_at
  unit-read =
      let r = stands in
      let m = r.1.1.1.1 in
      let k = kind-back u.kind sound.known in
      let b = ends-back s at (eqb u.kind interval_kind) u.lower u.upper m.1.1.1.1.1 sound.fit in
      rw (first, r.0, r.1.0, r.1.1.0, r.1.1.1.0, m.0, m.1.0, m.1.1.0, m.1.1.1.0, m.1.1.1.1.0, k, b.0, b.1)

  head : unit_head_of s at ≡ is (at + length_of u)
  unfolding unit_bytes
  head =
      ap (λ (v : UnitRecord). head_of s at v.kind (length_of v)) unit-read
      ∙ head_read s at u.kind (unit_bytes u) rest e (first-laid u.kind (unit_table u)) some (length_of u) (length-unit u)

  pub unit-reads : (floor : ℕ) (day : DayRecord) → unit_faults u floor day ≡ Ok tt → unit_of s at floor day ≡ is u
  unfolding unit_of unit_fields_of next passed
  unit-reads floor day f = rw head (simp (unit-read, f))

module _ (s : List ℕ) (small : Bytes s) (at : ℕ) where
  pub unit-laid : is_whole s at ≡ true → unit_bytes (unit_at s at) ≡ take (length_of (unit_at s at)) (drop at s)
  unfolding unit_at unit_bytes
  unit-laid w =
      let u = unit_at s at in
      record-again s small at u.kind (length_of u) (unit_table u) (headed s at _ _ (whole-read s at w)) (unit-tiles u) (refl, (refl, (refl, (refl, (refl, (refl, (refl, (refl, (refl, ends-stand s at)))))))))
