-- "House records": one byte of kind, then the fields, each at its place; numbers have the most significant byte first, signed ones are two's complement.
use Rattle.std.specs.Prelude.{ℕ, ◌+◌, Bool, ◌&&◌, ◌||◌, List, [], ◌∷◌, ◌++◌, eqb, ℤ, pos, neg_ℤ}
use Rattle.std.specs.Int.Signed.{le_z}
use Rattle.numbers.specs.Bytes.{byte_at, be16, be32, bytes16, bytes32, signed32, bits32}
use Rattle.numbers.specs.Choice.{pick}
use Rattle.terms.specs.declared.quantity.Margins.{Margins}
use Rattle.records.specs.declared.day.DayRecord.{DayRecord}
use Rattle.records.specs.declared.group.GroupRecord.{GroupRecord}
use Rattle.records.specs.declared.unit.UnitRecord.{UnitRecord}
use Rattle.records.specs.declared.end.EndRecord.{EndRecord}
use Rattle.records.specs.declared.group_result.GroupResult.{GroupResult}
use Rattle.records.specs.declared.unit_result.UnitResult.{UnitResult}

-- ---- fields
pub data Width : Type 0 where
  u8 : Width
  u16 : Width
  u32 : Width
  i32 : Width

-- how many bytes a number of a width has, what it can be, what it is in bytes, and its bytes
abbrev pub size : Width → ℕ
size u8 = 1
size u16 = 2
size u32 = 4
size i32 = 4

abbrev pub Value : Width → Type 0
Value u8 = ℕ
Value u16 = ℕ
Value u32 = ℕ
Value i32 = ℤ

abbrev pub value_of : (w : Width) → List ℕ → ℕ → Value w
value_of u8 s at = byte_at s at
value_of u16 s at = be16 s at
value_of u32 s at = be32 s at
value_of i32 s at = signed32 (be32 s at)

abbrev pub bytes_of : (w : Width) → Value w → List ℕ
bytes_of u8 x = x ∷ []
bytes_of u16 x = bytes16 x
bytes_of u32 x = bytes32 x
bytes_of i32 z = bytes32 (bits32 z)

pub record Field : Type 0 where
  pub place : ℕ
  pub width : Width

abbrev pub field : ℕ → Width → Field
field place width = record { place = place; width = width }

-- the value of a field of the record that begins at a place
abbrev pub value_at : List ℕ → ℕ → (f : Field) → Value f.width
value_at s at f = value_of f.width s (at + f.place)

-- a field of a record, with its value
pub record Entry : Type 0 where
  pub field : Field
  pub value : Value field.width

abbrev pub entry : (f : Field) → Value f.width → Entry
entry f v = record { field = f; value = v }

-- the fields' bytes behind those that are there
unfoldable pub behind : List ℕ → List Entry → List ℕ
behind bytes [] = bytes
behind bytes (e ∷ es) = behind (bytes ++ bytes_of e.field.width e.value) es

-- each field starts where the one before ends, and the last ends at the record's length
abbrev pub tiles : ℕ → List Entry → ℕ → Bool
tiles at [] len = eqb at len
tiles at (e ∷ es) len = eqb e.field.place at && tiles (at + size e.field.width) es len

-- ---- 01h day, 12 bytes
abbrev pub day_kind : ℕ
day_kind = 1

abbrev pub day_length : ℕ
day_length = 12

abbrev pub day_day : Field
day_day = field 1 u16

abbrev pub day_quarters : Field
day_quarters = field 3 u8

abbrev pub day_run : Field
day_run = field 4 u32

abbrev pub day_position_limit : Field
day_position_limit = field 8 u16

abbrev pub day_margin_limit : Field
day_margin_limit = field 10 u16

abbrev pub day_table : DayRecord → List Entry
day_table d =
    entry day_day d.day
    ∷ entry day_quarters d.quarters
    ∷ entry day_run d.run
    ∷ entry day_position_limit d.position_limit
    ∷ entry day_margin_limit d.margin_limit
    ∷ []

-- the record of these values
abbrev pub day_with : ℕ → ℕ → ℕ → ℕ → ℕ → DayRecord
day_with day quarters run position-limit margin-limit =
    record { day = day; quarters = quarters; run = run; position_limit = position-limit; margin_limit = margin-limit }

unfoldable pub day_at : List ℕ → ℕ → DayRecord
day_at s at =
    day_with (value_at s at day_day) (value_at s at day_quarters) (value_at s at day_run) (value_at s at day_position_limit) (value_at s at day_margin_limit)

unfoldable pub day_bytes : DayRecord → List ℕ
day_bytes d = behind (day_kind ∷ []) (day_table d)

-- how many bytes a day's record has
abbrev pub day_length_of : DayRecord → ℕ
day_length_of d = day_length

-- ---- 02h group, 10 bytes
abbrev pub group_kind : ℕ
group_kind = 2

abbrev pub group_length : ℕ
group_length = 10

abbrev pub group_brp : Field
group_brp = field 1 u16

abbrev pub group_zone : Field
group_zone = field 3 u8

abbrev pub group_quarter : Field
group_quarter = field 4 u8

abbrev pub group_count : Field
group_count = field 5 u8

abbrev pub group_made : Field
group_made = field 6 u32

abbrev pub group_table : GroupRecord → List Entry
group_table g =
    entry group_brp g.brp
    ∷ entry group_zone g.zone
    ∷ entry group_quarter g.quarter
    ∷ entry group_count g.count
    ∷ entry group_made g.made
    ∷ []

-- the record of these values
abbrev pub group_with : ℕ → ℕ → ℕ → ℕ → ℕ → GroupRecord
group_with brp zone quarter count made = record { brp = brp; zone = zone; quarter = quarter; count = count; made = made }

unfoldable pub group_at : List ℕ → ℕ → GroupRecord
group_at s at =
    group_with (value_at s at group_brp) (value_at s at group_zone) (value_at s at group_quarter) (value_at s at group_count) (value_at s at group_made)

unfoldable pub group_bytes : GroupRecord → List ℕ
group_bytes g = behind (group_kind ∷ []) (group_table g)

-- ---- 03h unit, 26 bytes, and 04h unit with its interval, 34 bytes
abbrev pub unit_kind : ℕ
unit_kind = 3

abbrev pub interval_kind : ℕ
interval_kind = 4

-- a record of this kind is a unit's
abbrev pub is_unit : ℕ → Bool
is_unit kind = eqb kind unit_kind || eqb kind interval_kind

abbrev pub unit_length : ℕ
unit_length = 26

abbrev pub interval_length : ℕ
interval_length = 34

abbrev pub unit_number : Field
unit_number = field 1 u16

abbrev pub unit_class : Field
unit_class = field 3 u8

abbrev pub unit_coincide : Field
unit_coincide = field 4 u8

abbrev pub unit_nominated : Field
unit_nominated = field 5 u8

abbrev pub unit_n : Field
unit_n = field 6 i32

abbrev pub unit_pc : Field
unit_pc = field 10 i32

abbrev pub unit_step_down : Field
unit_step_down = field 14 i32

abbrev pub unit_step_up : Field
unit_step_up = field 18 i32

abbrev pub unit_made : Field
unit_made = field 22 u32

-- the interval's ends, in an 04h alone
abbrev pub unit_lower : Field
unit_lower = field 26 i32

abbrev pub unit_upper : Field
unit_upper = field 30 i32

abbrev pub ends_table : UnitRecord → List Entry
ends_table u = pick (eqb u.kind interval_kind) (entry unit_lower u.lower ∷ entry unit_upper u.upper ∷ []) []

abbrev pub unit_table : UnitRecord → List Entry
unit_table u =
    entry unit_number u.number
    ∷ entry unit_class u.class
    ∷ entry unit_coincide u.coincide
    ∷ entry unit_nominated u.nominated
    ∷ entry unit_n u.n.0
    ∷ entry unit_pc u.pc.0
    ∷ entry unit_step_down u.step_down
    ∷ entry unit_step_up u.step_up
    ∷ entry unit_made u.made
    ∷ ends_table u

-- the ends that a 03h has
abbrev pub full_lower : ℤ
full_lower = neg_ℤ (pos 1000000)

abbrev pub full_upper : ℤ
full_upper = pos 1000000

-- the record of these values, a 03h
abbrev pub unit_with : ℕ → ℕ → ℕ → ℕ → ℤ → ℤ → ℤ → ℤ → ℕ → UnitRecord
unit_with number class coincide nominated n pc step-down step-up made =
    record {
      number = number;
      class = class;
      coincide = coincide;
      nominated = nominated;
      n = record { 0 = n };
      pc = record { 0 = pc };
      step_down = step-down;
      step_up = step-up;
      made = made;
      kind = unit_kind;
      lower = full_lower;
      upper = full_upper;
    }

-- the same values with a kind and two ends
abbrev pub with_ends : UnitRecord → ℕ → ℤ → ℤ → UnitRecord
with_ends u kind lower upper =
    record {
      number = u.number;
      class = u.class;
      coincide = u.coincide;
      nominated = u.nominated;
      n = u.n;
      pc = u.pc;
      step_down = u.step_down;
      step_up = u.step_up;
      made = u.made;
      kind = kind;
      lower = lower;
      upper = upper;
    }

-- the body, which both kinds have
abbrev pub body_at : List ℕ → ℕ → UnitRecord
body_at s at =
    unit_with
    (value_at s at unit_number)
    (value_at s at unit_class)
    (value_at s at unit_coincide)
    (value_at s at unit_nominated)
    (value_at s at unit_n)
    (value_at s at unit_pc)
    (value_at s at unit_step_down)
    (value_at s at unit_step_up)
    (value_at s at unit_made)

-- and an 04h, which has its ends behind it
abbrev pub interval_at : List ℕ → ℕ → UnitRecord
interval_at s at = with_ends (body_at s at) interval_kind (value_at s at unit_lower) (value_at s at unit_upper)

-- an 04h has its own ends, and any other the full ones
unfoldable pub unit_at : List ℕ → ℕ → UnitRecord
unit_at s at =
    let own = eqb (byte_at s at) interval_kind in
    with_ends (body_at s at) (pick own interval_kind unit_kind) (pick own (value_at s at unit_lower) full_lower) (pick own (value_at s at unit_upper) full_upper)

unfoldable pub unit_bytes : UnitRecord → List ℕ
unit_bytes u = behind (u.kind ∷ []) (unit_table u)

-- how many bytes a unit's record has
abbrev pub length_of : UnitRecord → ℕ
length_of u = pick (eqb u.kind interval_kind) interval_length unit_length

-- no unit record is longer
abbrev pub longest_unit : ℕ
longest_unit = interval_length

-- the larger of two, and the smaller
abbrev pub larger_of : ℤ → ℤ → ℤ
larger_of a b = pick (le_z a b) b a

abbrev pub smaller_of : ℤ → ℤ → ℤ
smaller_of a b = pick (le_z a b) a b

-- the working margins: M- and M+ of a 03h; of an 04h the larger of M- and the lower end, and the smaller of M+ and the upper end
abbrev pub margins_of : UnitRecord → Margins
margins_of u =
    let own = eqb u.kind interval_kind in
    record {
      step_down = pick own (larger_of u.step_down u.lower) u.step_down;
      step_up = pick own (smaller_of u.step_up u.upper) u.step_up;
    }

-- ---- 0Fh end, 5 bytes
abbrev pub end_kind : ℕ
end_kind = 15

abbrev pub end_length : ℕ
end_length = 5

abbrev pub end_groups : Field
end_groups = field 1 u32

abbrev pub end_table : EndRecord → List Entry
end_table e = entry end_groups e.groups ∷ []

unfoldable pub end_at : List ℕ → ℕ → EndRecord
end_at s at = record { groups = value_at s at end_groups }

unfoldable pub end_bytes : EndRecord → List ℕ
end_bytes e = behind (end_kind ∷ []) (end_table e)

-- ---- 11h group result, 27 bytes
abbrev pub group_result_kind : ℕ
group_result_kind = 17

abbrev pub group_result_length : ℕ
group_result_length = 27

abbrev pub result_brp : Field
result_brp = field 1 u16

abbrev pub result_zone : Field
result_zone = field 3 u8

abbrev pub result_quarter : Field
result_quarter = field 4 u8

abbrev pub result_verdict : Field
result_verdict = field 5 u8

abbrev pub result_count : Field
result_count = field 6 u8

abbrev pub result_p : Field
result_p = field 7 i32

abbrev pub result_s1 : Field
result_s1 = field 11 i32

abbrev pub result_s2 : Field
result_s2 = field 15 i32

abbrev pub result_s3 : Field
result_s3 = field 19 i32

abbrev pub result_balance : Field
result_balance = field 23 i32

abbrev pub group_result_table : GroupResult → List Entry
group_result_table g =
    entry result_brp g.brp
    ∷ entry result_zone g.zone
    ∷ entry result_quarter g.quarter
    ∷ entry result_verdict g.verdict
    ∷ entry result_count g.count
    ∷ entry result_p g.p.0
    ∷ entry result_s1 g.s1.0
    ∷ entry result_s2 g.s2.0
    ∷ entry result_s3 g.s3.0
    ∷ entry result_balance g.balance.0
    ∷ []

unfoldable pub group_result_at : List ℕ → ℕ → GroupResult
group_result_at s at =
    record {
      brp = value_at s at result_brp;
      zone = value_at s at result_zone;
      quarter = value_at s at result_quarter;
      verdict = value_at s at result_verdict;
      count = value_at s at result_count;
      p = record { 0 = value_at s at result_p };
      s1 = record { 0 = value_at s at result_s1 };
      s2 = record { 0 = value_at s at result_s2 };
      s3 = record { 0 = value_at s at result_s3 };
      balance = record { 0 = value_at s at result_balance };
    }

unfoldable pub group_result_bytes : GroupResult → List ℕ
group_result_bytes g = behind (group_result_kind ∷ []) (group_result_table g)

-- ---- 12h unit result, 20 bytes
abbrev pub unit_result_kind : ℕ
unit_result_kind = 18

abbrev pub unit_result_length : ℕ
unit_result_length = 20

abbrev pub result_number : Field
result_number = field 1 u16

abbrev pub result_reason : Field
result_reason = field 3 u8

abbrev pub result_n0 : Field
result_n0 = field 4 i32

abbrev pub result_n1 : Field
result_n1 = field 8 i32

abbrev pub result_n2 : Field
result_n2 = field 12 i32

abbrev pub result_n3 : Field
result_n3 = field 16 i32

abbrev pub unit_result_table : UnitResult → List Entry
unit_result_table u =
    entry result_number u.number
    ∷ entry result_reason u.reason
    ∷ entry result_n0 u.n0.0
    ∷ entry result_n1 u.n1.0
    ∷ entry result_n2 u.n2.0
    ∷ entry result_n3 u.n3.0
    ∷ []

unfoldable pub unit_result_at : List ℕ → ℕ → UnitResult
unit_result_at s at =
    record {
      number = value_at s at result_number;
      reason = value_at s at result_reason;
      n0 = record { 0 = value_at s at result_n0 };
      n1 = record { 0 = value_at s at result_n1 };
      n2 = record { 0 = value_at s at result_n2 };
      n3 = record { 0 = value_at s at result_n3 };
    }

unfoldable pub unit_result_bytes : UnitResult → List ℕ
unit_result_bytes u = behind (unit_result_kind ∷ []) (unit_result_table u)
