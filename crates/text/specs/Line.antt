-- A line of the text: a word, and then the fields of its record, one after another.
use Rattle.std.specs.Prelude.{ℕ, ◌-◌, Bool, true, false, ◌&&◌, List, [], ◌∷◌, eqb, ltb, length, get_or, take, drop, Option, None, Result, Ok, Err, is_ok}
use Rattle.std.specs.Result.{result_ok}
use Rattle.numbers.specs.Choice.{pick}
use Rattle.records.specs.declared.unit.UnitRecord.{UnitRecord}
use Rattle.records.specs.Layouts.{day_kind, day_with, group_with, unit_with, with_ends, group_kind, unit_kind, interval_kind, end_kind}
use Rattle.text.specs.declared.line.Line.{Line}
use Rattle.text.specs.declared.line.Line.TheVariants.{Day, Group, Unit, End, Passed, TooLong, Not}
use Rattle.text.specs.declared.line.Listed.{Listed}
use Rattle.text.specs.declared.fields.Field.{Field}
use Rattle.text.specs.Numbers.{is_blank, field_of}
use Rattle.text.specs.Fields.{field_at, over_at, next, u8_at, u16_at, u32_at, i32_at, day_field_at, minute_at}

-- ---- words
unfoldable pub same : List ℕ → List ℕ → Bool
same [] [] = true
same [] (b ∷ t) = false
same (a ∷ s) [] = false
same (a ∷ s) (b ∷ t) = eqb a b && same s t

-- DAY, GROUP, UNIT, END
abbrev pub day_word : List ℕ
day_word = 68 ∷ 65 ∷ 89 ∷ []

abbrev pub group_word : List ℕ
group_word = 71 ∷ 82 ∷ 79 ∷ 85 ∷ 80 ∷ []

abbrev pub unit_word : List ℕ
unit_word = 85 ∷ 78 ∷ 73 ∷ 84 ∷ []

abbrev pub end_word : List ℕ
end_word = 69 ∷ 78 ∷ 68 ∷ []

-- ---- records: each field starts where the one before ends, and after the last stands nothing
-- the record of a kind, unless a field is wrong
abbrev pub ended : ℕ → Result Line Field → Line
ended kind (Ok line) = line
ended kind (Err field) = Not kind field

unfoldable pub day_line_of : List ℕ → ℕ → Result Line Field
day_line_of text word =
    next (day_field_at text 1 word) (λ day.
    next (u8_at text 2 day.end) (λ quarters.
    next (minute_at text 3 quarters.end) (λ run.
    next (u16_at text 4 run.end) (λ position-limit.
    next (u16_at text 5 position-limit.end) (λ margin-limit.
    next (over_at text 6 margin-limit.end) (λ _.
    Ok (Day (day_with day.value quarters.value run.value position-limit.value margin-limit.value))))))))

unfoldable pub group_line_of : List ℕ → ℕ → Result Line Field
group_line_of text word =
    next (u16_at text 1 word) (λ brp.
    next (u8_at text 2 brp.end) (λ zone.
    next (u8_at text 3 zone.end) (λ quarter.
    next (u8_at text 4 quarter.end) (λ count.
    next (minute_at text 5 count.end) (λ made.
    next (over_at text 6 made.end) (λ _.
    Ok (Group (group_with brp.value zone.value quarter.value count.value made.value))))))))

-- an 04h, of a unit whose nine values end at a place and after which two ends follow
unfoldable pub interval_of : List ℕ → ℕ → UnitRecord → Result Line Field
interval_of text made u =
    next (i32_at text 10 made) (λ lower.
    next (i32_at text 11 lower.end) (λ upper.
    next (over_at text 12 upper.end) (λ _.
    Ok (Unit (with_ends u interval_kind lower.value upper.value)))))

-- the nine values of a unit are a 03h where nothing stands after them; else two ends follow, and they are an 04h
unfoldable pub ends_of : List ℕ → ℕ → UnitRecord → Result Line Field
ends_of text made u = pick (is_ok (over_at text 10 made)) (Ok (Unit u)) (interval_of text made u)

unfoldable pub unit_line_of : List ℕ → ℕ → Result Line Field
unit_line_of text word =
    next (u16_at text 1 word) (λ number.
    next (u8_at text 2 number.end) (λ class.
    next (u8_at text 3 class.end) (λ coincide.
    next (u8_at text 4 coincide.end) (λ nominated.
    next (i32_at text 5 nominated.end) (λ n.
    next (i32_at text 6 n.end) (λ pc.
    next (i32_at text 7 pc.end) (λ step_down.
    next (i32_at text 8 step_down.end) (λ step-up.
    next (minute_at text 9 step-up.end) (λ made.
    ends_of text made.end
    (unit_with
    number.value
    class.value
    coincide.value
    nominated.value
    n.value
    pc.value
    step_down.value
    step-up.value
    made.value))))))))))

unfoldable pub end_line_of : List ℕ → ℕ → Result Line Field
end_line_of text word =
    next (u32_at text 1 word) (λ groups.
    next (over_at text 2 groups.end) (λ _.
    Ok (End (record { groups = groups.value }))))

-- the record that a word begins; no record is of kind 0
unfoldable pub fields_of : List ℕ → List ℕ → Field → Line
fields_of name text word =
    pick (same name unit_word) (ended unit_kind (unit_line_of text word.end))
    (pick (same name group_word) (ended group_kind (group_line_of text word.end))
    (pick (same name day_word) (ended day_kind (day_line_of text word.end))
    (pick (same name end_word) (ended end_kind (end_line_of text word.end))
    (Not 0 word))))

-- ---- lines
-- a word, index 0, and the fields after it; blanks alone are passed over
unfoldable pub record_of : List ℕ → Line
record_of text =
    pick (eqb (field_at text 0 0).start (length text)) Passed
    (fields_of (field_of (drop (field_at text 0 0).start text)) text (field_at text 0 0))

-- what stands in front of a comment: '#' at the front or after a blank
unfoldable pub uncommented : Bool → List ℕ → List ℕ
uncommented fresh [] = []
uncommented fresh (b ∷ s) = pick (fresh && eqb b 35) [] (b ∷ uncommented (is_blank b) s)

-- the length without the carriage return at the end
abbrev pub bare_length : List ℕ → ℕ
bare_length line = pick (eqb (get_or line (length line - 1) 0) 13) (length line - 1) (length line)

-- in front of its comment a line has at most 255 bytes
unfoldable pub bare_of : List ℕ → Line
bare_of text = pick (ltb 255 (length text)) TooLong (record_of (take (bare_length text) text))

-- EF BB BF, the byte order mark, and how many bytes of it stand at the front of the text
abbrev pub byte_order_mark : List ℕ
byte_order_mark = 239 ∷ 187 ∷ 191 ∷ []

abbrev pub mark_length : List ℕ → ℕ → ℕ
mark_length line number = pick (eqb number 1 && same (take 3 line) byte_order_mark) 3 0

-- a line by its number, which is 1 at the front of the text
unfoldable pub line_of : List ℕ → ℕ → Line
line_of line number = bare_of (uncommented true (drop (mark_length line number) line))

-- ---- the DAY line of the day list: its day, quarters and run minute, each as the text has it, and nothing after them
unfoldable pub listed_fields : List ℕ → ℕ → Result Listed Field
listed_fields text word =
    next (day_field_at text 1 word) (λ day.
    next (u8_at text 2 day.end) (λ quarters.
    next (minute_at text 3 quarters.end) (λ run.
    next (over_at text 4 run.end) (λ _.
    Ok (record { day = day.value; quarters = quarters.value; run = run.value })))))

unfoldable pub listed_of : List ℕ → Option Listed
listed_of text =
    pick (same (field_of (drop (field_at text 0 0).start text)) day_word)
    (result_ok (listed_fields text (field_at text 0 0).end)) None
