-- "The day list": lines of a word and its fields, parted by one space; each line ends in one line feed.
use Rattle.std.specs.Prelude.{ℕ, suc, ◌+◌, ◌*◌, List, [], ◌∷◌, ◌++◌, ℤ, pos, negsuc}
use Rattle.numbers.specs.Decimal.{decimal}
use Rattle.records.specs.declared.day.DayRecord.{DayRecord}
use Rattle.records.specs.declared.group_result.GroupResult.{GroupResult}
use Rattle.records.specs.declared.unit_result.UnitResult.{UnitResult}
use Rattle.records.specs.Layouts.{group_result_length, group_result_at, unit_result_length, unit_result_at}
use Rattle.terms.specs.Checks.{most_units}
use Rattle.writers.specs.Runs.{run}

-- ---- numbers
-- a minus sign in front of a negative number
unfoldable pub signed_decimal : ℤ → List ℕ
signed_decimal (pos n) = decimal n
signed_decimal (negsuc n) = 45 ∷ decimal (suc n)

-- ---- lines
-- each field behind what is there, after one space
unfoldable pub spaced : List ℕ → List (List ℕ) → List ℕ
spaced bytes [] = bytes
spaced bytes (f ∷ fs) = spaced (bytes ++ (32 ∷ f)) fs

unfoldable pub line : List ℕ → List (List ℕ) → List ℕ
line word fields = spaced word fields ++ (10 ∷ [])

-- DAY day quarters run
unfoldable pub day_line : DayRecord → List ℕ
day_line d = line (68 ∷ 65 ∷ 89 ∷ []) (decimal d.day ∷ decimal d.quarters ∷ decimal d.run ∷ [])

-- GROUP BRP zone quarter verdict count P S1 S2 S3 balance
unfoldable pub group_line : GroupResult → List ℕ
group_line g =
    line (71 ∷ 82 ∷ 79 ∷ 85 ∷ 80 ∷ [])
    (decimal g.brp
    ∷ decimal g.zone
    ∷ decimal g.quarter
    ∷ decimal g.verdict
    ∷ decimal g.count
    ∷ signed_decimal g.p.0
    ∷ signed_decimal g.s1.0
    ∷ signed_decimal g.s2.0
    ∷ signed_decimal g.s3.0
    ∷ signed_decimal g.balance.0
    ∷ [])

-- UNIT number reason n0 n1 n2 n3
unfoldable pub unit_line : UnitResult → List ℕ
unit_line u =
    line (85 ∷ 78 ∷ 73 ∷ 84 ∷ [])
    (decimal u.number
    ∷ decimal u.reason
    ∷ signed_decimal u.n0.0
    ∷ signed_decimal u.n1.0
    ∷ signed_decimal u.n2.0
    ∷ signed_decimal u.n3.0
    ∷ [])

-- END groups
unfoldable pub end_line : ℕ → List ℕ
end_line groups = line (69 ∷ 78 ∷ 68 ∷ []) (decimal groups ∷ [])

-- REFUSED number place
unfoldable pub refused_line : ℕ → ℕ → List ℕ
refused_line number place = line (82 ∷ 69 ∷ 70 ∷ 85 ∷ 83 ∷ 69 ∷ 68 ∷ []) (decimal number ∷ decimal place ∷ [])

-- the lines of a block's result: that of the group, and then one for each of its units
abbrev pub unit_line_at : List ℕ → ℕ → List ℕ
unit_line_at result i = unit_line (unit_result_at result (group_result_length + unit_result_length * i))

unfoldable pub result_lines : List ℕ → List ℕ
result_lines result = group_line (group_result_at result 0) ++ run (unit_line_at result) (group_result_at result 0).count

-- ---- how long a line can be
-- a field and the space before it: as many digits as the largest number of the width has, and a sign where it may be negative
abbrev pub u8_field : ℕ
u8_field = 1 + 3

abbrev pub u16_field : ℕ
u16_field = 1 + 5

abbrev pub u32_field : ℕ
u32_field = 1 + 10

abbrev pub u64_field : ℕ
u64_field = 1 + 20

abbrev pub i32_field : ℕ
i32_field = 1 + 1 + 10

abbrev pub longest_day_line : ℕ
longest_day_line = 3 + u16_field + u8_field + u32_field + 1

abbrev pub longest_end_line : ℕ
longest_end_line = 3 + u32_field + 1

abbrev pub longest_refused_line : ℕ
longest_refused_line = 7 + u8_field + u64_field + 1

abbrev pub longest_group_front : ℕ
longest_group_front = 5 + u16_field + u8_field * 4

abbrev pub longest_group_line : ℕ
longest_group_line = longest_group_front + i32_field * 5 + 1

abbrev pub longest_unit_line : ℕ
longest_unit_line = 4 + u16_field + u8_field + i32_field * 4 + 1

-- the lines of a block: that of the group, and one for each of the most units
abbrev pub longest_lines : ℕ
longest_lines = longest_group_line + longest_unit_line * most_units
