-- What holds of a record that was read: each test of its head and of its fields passed. A test more among a day's or a group's fields is a line here, and no other law takes those fields apart.
use Rattle.std.specs.Prelude.{Option}
use Prim.Native.Nat.{ℕ, ◌≤◌, ◌<◌}
use mathlib.Core.Path.{◌≡◌, ap}
use mathlib.Core.Bool.{true, ◌||◌}
use mathlib.Core.List.{List}
use native.Mathlib.Omega.{arith}
use lib.Dec.{leb, eqb}
use borrow.Author.Tests.{ltb-true, leb-true, eqb-true}
use Rattle.numbers.proofs.Choices.{and_both, or-either}
use Rattle.terms.specs.Reply.{is}
use Rattle.terms.specs.Checks.{most_units, unit_count}
use Rattle.terms.proofs.Replies.{need-is, next-is}
use Rattle.records.specs.declared.key.Key.{Key}
use Rattle.records.specs.declared.day.DayRecord.{DayRecord}
use Rattle.records.specs.declared.group.GroupRecord.{GroupRecord}
use Rattle.records.specs.Layouts.{day_kind, day_length, day_at, day_length_of, group_at}
use Rattle.records.specs.Reading.{permitted, follows, key_of, day_head_of, day_end, day_of, day_fields_of, group_head_of, group_of, group_fields_of}
use Rattle.records.proofs.Heads.{head-end}

-- ---- the day record
-- none is shorter than an 01h
pub day-least : (d : DayRecord) → day_length ≤ day_length_of d
day-least d = omega arith

-- no day has more than 100 quarters
pub quarters-most : (quarters : ℕ) → permitted quarters ≡ true → quarters ≤ 100
quarters-most q e =
    or-either (eqb q 92) (eqb q 96 || eqb q 100) e (λ h. omega (arith, eqb-true q 92 h))
    (λ k. or-either (eqb q 96) (eqb q 100) k (λ h. omega (arith, eqb-true q 96 h)) (λ h. omega (arith, eqb-true q 100 h)))

module _ (s : List ℕ) {end : ℕ} (e : day_head_of s ≡ is end) where
  pub day-ends : day_end s ≡ end
  day-ends = head-end s 0 day_kind day_length e

-- its fields passed
pub record DayPassed (s : List ℕ) (d : DayRecord) : Type 0 where
  pub value : d ≡ day_at s 0
  pub quarters : permitted d.quarters ≡ true
  pub ends : day_length_of d ≡ day_end s

pub day-passed : (s : List ℕ) {d : DayRecord} → day_fields_of s ≡ is d → DayPassed s d
unfolding day_fields_of
day-passed s {d} e =
    let q = need-is _ _ _ _ e in
    let v : d ≡ day_at s 0 = cc q.1 in
    record { value = v; quarters = rw v q.0; ends = ap day_length_of v }

-- and its head
pub record DayRead (s : List ℕ) (d : DayRecord) : Type 0 where
  pub end : ℕ
  pub head : day_head_of s ≡ is end
  pub fields : day_fields_of s ≡ is d
  pub passed : DayPassed s d

pub day-read : (s : List ℕ) {d : DayRecord} → day_of s ≡ is d → DayRead s d
unfolding day_of
day-read s {d} e =
    let h = next-is _ _ e in
    record { end = h.0; head = h.1.0; fields = h.1.1; passed = day-passed s h.1.1 }

-- ---- the group record
-- its fields passed
pub record GroupPassed (s : List ℕ) (day : DayRecord) (last : Option Key) (g : GroupRecord) : Type 0 where
  pub value : g ≡ group_at s 0
  pub early : (group_at s 0).quarter < day.quarters
  pub counted : unit_count (group_at s 0).count ≡ true
  pub most : (group_at s 0).count ≤ most_units
  pub after : follows last (key_of (group_at s 0)) ≡ true

pub group-passed : (s : List ℕ) (day : DayRecord) (last : Option Key) {g : GroupRecord} → group_fields_of s day last ≡ is g → GroupPassed s day last g
unfolding group_fields_of
group-passed s day last e =
    let quarter = need-is _ _ _ _ e in
    let count = need-is _ _ _ _ quarter.1 in
    let key = need-is _ _ _ _ count.1 in
    let age = need-is _ _ _ _ key.1 in
    record {
      value = cc age.1;
      early = ltb-true _ _ quarter.0;
      counted = count.0;
      most = leb-true _ most_units (and_both (leb 1 (group_at s 0).count) (leb (group_at s 0).count most_units) count.0).1;
      after = key.0;
    }

-- and its head
pub record GroupRead (s : List ℕ) (day : DayRecord) (last : Option Key) (g : GroupRecord) : Type 0 where
  pub end : ℕ
  pub head : group_head_of s ≡ is end
  pub fields : group_fields_of s day last ≡ is g

pub group-read : (s : List ℕ) (day : DayRecord) (last : Option Key) {g : GroupRecord} → group_of s day last ≡ is g → GroupRead s day last g
unfolding group_of
group-read s day last e =
    let h = next-is _ _ e in
    record { end = h.0; head = h.1.0; fields = h.1.1 }
