-- The fields of a line, one after another: where each stands, whether it is in the form, and its value by width. What comes after a field that is not in the form is not read.
use Rattle.std.specs.Prelude.{ℕ, suc, ◌+◌, List, leb, eqb, ℤ, pos, negsuc, Option, Some, None, option_and_then, Result, Ok, Err, ⊤, length, drop}
use Rattle.numbers.specs.Choice.{pick}
use Rattle.text.specs.declared.fields.Field.{Field}
use Rattle.text.specs.declared.fields.Read.{Read}
use Rattle.text.specs.declared.values_in.Form.{Form}
use Rattle.text.specs.declared.values_in.Form.TheVariants.{Number, Day, Minute}
use Rattle.text.specs.Numbers.{blanks, field_of}
use Rattle.text.specs.Dates.{whole_at}

-- where the field after a place starts
abbrev pub start_after : List ℕ → ℕ → ℕ
start_after text at = at + blanks (drop at text)

-- where a field ends that starts at a place
abbrev pub end_from : List ℕ → ℕ → ℕ
end_from text start = start + length (field_of (drop start text))

-- the field after a place, by its index in the record
unfoldable pub field_at : List ℕ → ℕ → ℕ → Field
field_at text index at =
    record { index = index; start = start_after text at; end = end_from text (start_after text at) }

-- after the place where the last field ends stands nothing, or a field that is one too many
unfoldable pub over_at : List ℕ → ℕ → ℕ → Result ⊤ Field
over_at text index at =
    pick (eqb (field_at text index at).start (length text)) (Ok tt) (Err (field_at text index at))

-- ---- values
-- a number from 0 to the most
abbrev pub unsigned_of : ℕ → ℤ → Option ℕ
unsigned_of most (pos n) = pick (leb n most) (Some n) None
unsigned_of most (negsuc n) = None

-- a signed number of 32 bits, of which negsuc n is the one that is suc n below 0
abbrev pub signed_of : ℤ → Option ℤ
signed_of (pos n) = pick (leb n 2147483647) (Some (pos n)) None
signed_of (negsuc n) = pick (leb (suc n) 2147483648) (Some (negsuc n)) None

-- what a field is read as: its value and its end, or itself where it is not in the form
abbrev pub read_as : {T : Type 0} → Option T → Field → Result (Read T) Field
read_as (Some x) f = Ok (record { value = x; end = f.end })
read_as None f = Err f

-- the field after a place
unfoldable pub value_after : {T : Type 0} → (ℤ → Option T) → Form → List ℕ → ℕ → ℕ → Result (Read T) Field
value_after taken form text index at =
    read_as (option_and_then taken (whole_at form text (field_at text index at).start)) (field_at text index at)

-- a number of 8, 16 or 32 bits
abbrev pub u8_at : List ℕ → ℕ → ℕ → Result (Read ℕ) Field
u8_at text index at = value_after (unsigned_of 255) Number text index at

abbrev pub u16_at : List ℕ → ℕ → ℕ → Result (Read ℕ) Field
u16_at text index at = value_after (unsigned_of 65535) Number text index at

abbrev pub u32_at : List ℕ → ℕ → ℕ → Result (Read ℕ) Field
u32_at text index at = value_after (unsigned_of 4294967295) Number text index at

-- a day and a minute, as dates or as numbers
abbrev pub day_field_at : List ℕ → ℕ → ℕ → Result (Read ℕ) Field
day_field_at text index at = value_after (unsigned_of 65535) Day text index at

abbrev pub minute_at : List ℕ → ℕ → ℕ → Result (Read ℕ) Field
minute_at text index at = value_after (unsigned_of 4294967295) Minute text index at

-- a signed number of 32 bits
abbrev pub i32_at : List ℕ → ℕ → ℕ → Result (Read ℤ) Field
i32_at text index at = value_after signed_of Number text index at

-- what is read after a field that is in the form; one that is not is the answer
abbrev pub next : {A B : Type 0} → Result A Field → (A → Result B Field) → Result B Field
next (Ok x) f = f x
next (Err field) f = Err field
