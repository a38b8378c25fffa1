-- Where bytes agree up to a place, what lies before it is read alike: values, records, and the units of a block.
use Rattle.std.specs.Prelude.{Option}
use Prim.Native.Nat.{ℕ, zero, suc, ◌+◌, ◌-◌, ◌≤◌, ◌<◌}
use mathlib.Core.Path.{◌≡◌, refl, sym, ap, ◌∙◌}
use mathlib.Core.Bool.{Bool, true, false}
use mathlib.Core.List.{List}
use native.Mathlib.Omega.{arith}
use lib.Dec.{eqb}
use lib.ListN.{length, take, length-take}
use lib.Seq.{get_or-take}
use Rattle.numbers.specs.Bytes.{byte_at, be16, be32, signed32}
use Rattle.terms.specs.Reply.{is, next}
use Rattle.terms.proofs.Replies.{next-is}
use Rattle.records.specs.declared.key.Key.{Key}
use Rattle.records.specs.declared.day.DayRecord.{DayRecord}
use Rattle.records.specs.declared.unit.UnitRecord.{UnitRecord}
use Rattle.records.specs.Layouts.{Width, u8, u16, u32, i32, Field, size, value_of, value_at}
use Rattle.records.specs.Layouts.{day_day, day_quarters, day_run, day_position_limit, day_margin_limit, day_at}
use Rattle.records.specs.Layouts.{group_length, group_brp, group_zone, group_quarter, group_count, group_made, group_at}
use Rattle.records.specs.Layouts.{unit_kind, interval_kind, unit_length, interval_length, unit_number, unit_class, unit_coincide, unit_nominated, unit_n, unit_pc, unit_step_down, unit_step_up, unit_made, unit_lower, unit_upper}
use Rattle.records.specs.Layouts.{full_lower, full_upper, with_ends, body_at, unit_at, length_of}
use Rattle.records.specs.Layouts.{end_length, end_groups, end_at}
use Rattle.records.specs.Reading.{day_end, day_fields_of, group_fields_of, end_fields_of, unit_head_of, unit_end, place_from, unit_fields_of, unit_of, units_of}
use Rattle.records.proofs.Accepted.{units-accepted}
use Rattle.records.proofs.Places.{place-from}
use Rattle.records.proofs.UnitHeads.{length-least, unit-past, unit-long, read-end, unit-moved}

-- t has the first n bytes of s
pub record Agree (s t : List ℕ) (n : ℕ) : Type 0 where
  pub long : n ≤ length t
  pub same : (i : ℕ) → i < n → byte_at t i ≡ byte_at s i

pub agree : (s t : List ℕ) (n : ℕ) → n ≤ length s → take n s ≡ take n t → Agree s t n
agree s t n h e =
    record { long = omega (arith, h, length-take n s, length-take n t, ap length e); same = λ i l. sym (get_or-take n t i 0 l) ∙ ap (λ (x : List ℕ). byte_at x i) (sym e) ∙ get_or-take n s i 0 l }

module _ (s t : List ℕ) (n : ℕ) (a : Agree s t n) where
  be32-same : (at : ℕ) → at + 4 ≤ n → be32 t at ≡ be32 s at
  unfolding be16 be32
  be32-same at h =
      rw (a.same at (omega arith), a.same (at + 1) (omega arith), a.same (at + 2) (omega arith), a.same (at + 2 + 1) (omega arith))

  value_same : (w : Width) (at : ℕ) → at + size w ≤ n → value_of w t at ≡ value_of w s at
  unfolding be16
  value_same u8 at h = a.same at (omega arith)
  value_same u16 at h = rw (a.same at (omega arith), a.same (at + 1) (omega arith))
  value_same u32 at h = be32-same at h
  value_same i32 at h = ap signed32 (be32-same at h)

  field-same : (at : ℕ) (f : Field) → at + f.place + size f.width ≤ n → value_at t at f ≡ value_at s at f
  field-same at f h = value_same f.width (at + f.place) h

  -- ---- the records at the front
  day-same : day_end s ≤ n → day_at t 0 ≡ day_at s 0
  unfolding day_at
  day-same h =
      rw (field-same 0 day_day (omega arith), field-same 0 day_quarters (omega arith), field-same 0 day_run (omega arith), field-same 0 day_position_limit (omega arith), field-same 0 day_margin_limit (omega arith))

  pub group-same : group_length ≤ n → group_at t 0 ≡ group_at s 0
  unfolding group_at
  group-same h =
      rw (field-same 0 group_brp (omega arith), field-same 0 group_zone (omega arith), field-same 0 group_quarter (omega arith), field-same 0 group_count (omega arith), field-same 0 group_made (omega arith))

  end_same : end_length ≤ n → end_at t 0 ≡ end_at s 0
  unfolding end_at
  end_same h = rw (field-same 0 end_groups (omega arith))

  pub day-kept : day_end s ≤ n → day_fields_of t ≡ day_fields_of s
  unfolding day_fields_of
  day-kept h = rw (day-same h)

  pub group-kept : (d : DayRecord) (last : Option Key) → group_length ≤ n → group_fields_of t d last ≡ group_fields_of s d last
  unfolding group_fields_of
  group-kept d last h = rw (group-same h)

  pub end_kept : (groups : ℕ) → end_length ≤ n → end_fields_of t groups ≡ end_fields_of s groups
  unfolding end_fields_of
  end_kept groups h = rw (end_same h)

  -- ---- units
  body_same : (at : ℕ) → at + unit_length ≤ n → body_at t at ≡ body_at s at
  body_same at h =
      rw (
        field-same at unit_number (omega arith),
        field-same at unit_class (omega arith),
        field-same at unit_coincide (omega arith),
        field-same at unit_nominated (omega arith),
        field-same at unit_n (omega arith),
        field-same at unit_pc (omega arith),
        field-same at unit_step_down (omega arith),
        field-same at unit_step_up (omega arith),
        field-same at unit_made (omega arith),
      )

  unit-same : (at : ℕ) → unit_end s at ≤ n → unit_at t at ≡ unit_at s at
  unfolding unit_at
  unit-same at h = go (eqb (byte_at s at) interval_kind) refl
    where
      body : body_at t at ≡ body_at s at
      body = body_same at (omega (arith, length-least (unit_at s at)))

      go : (own : Bool) → eqb (byte_at s at) interval_kind ≡ own → unit_at t at ≡ unit_at s at
      go true e =
          let long : at + interval_length ≤ n = rw e at h in
          rw (a.same at (omega arith), e, field-same at unit_lower (omega arith), field-same at unit_upper (omega arith))
          (ap (λ (u : UnitRecord). with_ends u interval_kind (value_at s at unit_lower) (value_at s at unit_upper)) body)
      go false e =
          let long : at + unit_length ≤ n = rw e at h in
          rw (a.same at (omega arith), e) (ap (λ (u : UnitRecord). with_ends u unit_kind full_lower full_upper) body)

  ends_same : (at : ℕ) → unit_end s at ≤ n → unit_end t at ≡ unit_end s at
  ends_same at h = ap (λ (u : UnitRecord). at + length_of u) (unit-same at h)

  pub unit-head-kept : (at : ℕ) {end : ℕ} → end ≤ n → unit_head_of s at ≡ is end → unit_head_of t at ≡ is end
  unit-head-kept at {end} h e =
      let q = read-end s at e in
      let m : end ≡ at + (end - at) = omega (arith, unit-past s at) in
      unit-moved s t at at (a.same at (omega (arith, unit-past s at))) (end - at) (e ∙ ap is m) (omega (arith, a.long)) ∙ ap is (sym m)

  -- the place of a unit, and the unit there
  pub place_same : (at i : ℕ) → place_from s at i ≤ n → place_from t at i ≡ place_from s at i
  unfolding place_from
  place_same at zero h = refl
  place_same at (suc i) h =
      let e = place_same at i (omega (arith, unit-past s (place_from s at i))) in
      ap (unit_end t) e ∙ ends_same (place_from s at i) h

  pub units-same : (at i : ℕ) → place_from s at (suc i) ≤ n → unit_at t (place_from t at i) ≡ unit_at s (place_from s at i)
  unfolding place_from
  units-same at i h = ap (unit_at t) (place_same at i (omega (arith, unit-past s (place_from s at i)))) ∙ unit-same (place_from s at i) h

  unit_kept : (at floor : ℕ) (day : DayRecord) {u : UnitRecord} → unit_end s at ≤ n → unit_of s at floor day ≡ is u → unit_of t at floor day ≡ is u
  unfolding unit_of unit_fields_of next
  unit_kept at floor day h e =
      let x = next-is _ _ e in
      rw (unit-head-kept at (omega (arith, read-end s at x.1.0)) x.1.0, unit-same at h) x.1.1

  pub units-kept : (at floor : ℕ) (day : DayRecord) (count : ℕ) {end : ℕ} → end ≤ n → units_of s at floor day count ≡ is end → units_of t at floor day count ≡ is end
  unfolding units_of next
  units-kept at floor day zero h e = e
  units-kept at floor day (suc left) h e =
      let x = next-is _ _ e in
      let rest = units-accepted s (unit_end s at) (x.0.number + 1) day left (unit-long s at floor day x.1.0) x.1.1 in
      let within : unit_end s at ≤ n = omega (arith, rest.ends, place-from s (unit_end s at) left) in
      rw (unit_kept at floor day within x.1.0)
      (ap (λ (to : ℕ). units_of t to (x.0.number + 1) day left) (ends_same at within) ∙ units-kept (unit_end s at) (x.0.number + 1) day left h x.1.1)
