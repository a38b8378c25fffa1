-- A refusal in one line of text: whose record, the field, the value read there, and what it was held against. Numbers stand as in the day list, after one space.
use Rattle.std.specs.Prelude.{ℕ, ◌+◌, ◌≡◌, List, [], ◌∷◌, ◌++◌, ltb, length, Option, Some, None}
use Rattle.numbers.specs.Bytes.{laid_at}
use Rattle.numbers.specs.Choice.{pick}
use Rattle.numbers.specs.Decimal.{decimal}
use Rattle.terms.specs.declared.refusal.Refusal.{Refusal}
use Rattle.records.specs.declared.key.Key.{Key}
use Rattle.day.specs.declared.value.Day.{Day}
use Rattle.lines.specs.Lines.{signed_decimal, u32_field, u64_field, i32_field}
use Rattle.finding.specs.declared.named.Subject.{Subject}
use Rattle.finding.specs.declared.named.Subject.TheVariants as S
use Rattle.finding.specs.declared.named.UnitField.{UnitField}
use Rattle.finding.specs.declared.named.UnitField.TheVariants as U
use Rattle.finding.specs.declared.named.Field.{Field}
use Rattle.finding.specs.declared.named.Field.TheVariants as F
use Rattle.finding.specs.declared.named.Value.{Value}
use Rattle.finding.specs.declared.named.Value.TheVariants.{Plain, Signed}
use Rattle.finding.specs.declared.named.Held.{Held}
use Rattle.finding.specs.declared.named.Held.TheVariants as H
use Rattle.finding.specs.declared.named.Finding.{Finding}
use Rattle.finding.specs.declared.named.Finding.TheVariants as N
use Rattle.finding.specs.declared.named.Told.{Told}
use Rattle.finding.specs.declared.named.Named.{Named}
use Rattle.finding.specs.Naming.{named_of}

-- ---- words, in ASCII
-- `BRP`
abbrev pub brp_word : List ℕ
brp_word = 66 ∷ 82 ∷ 80 ∷ []

-- `, zone`
abbrev pub zone_word : List ℕ
zone_word = 44 ∷ 32 ∷ 122 ∷ 111 ∷ 110 ∷ 101 ∷ []

-- `, quarter`
abbrev pub quarter_word : List ℕ
quarter_word = 44 ∷ 32 ∷ 113 ∷ 117 ∷ 97 ∷ 114 ∷ 116 ∷ 101 ∷ 114 ∷ []

-- `, unit`
abbrev pub unit_word : List ℕ
unit_word = 44 ∷ 32 ∷ 117 ∷ 110 ∷ 105 ∷ 116 ∷ []

-- `, unit at index`
abbrev pub index_word : List ℕ
index_word = 44 ∷ 32 ∷ 117 ∷ 110 ∷ 105 ∷ 116 ∷ 32 ∷ 97 ∷ 116 ∷ 32 ∷ 105 ∷ 110 ∷ 100 ∷ 101 ∷ 120 ∷ []

-- `record`
abbrev pub record_word : List ℕ
record_word = 114 ∷ 101 ∷ 99 ∷ 111 ∷ 114 ∷ 100 ∷ []

-- `day record`
abbrev pub day_word : List ℕ
day_word = 100 ∷ 97 ∷ 121 ∷ 32 ∷ 114 ∷ 101 ∷ 99 ∷ 111 ∷ 114 ∷ 100 ∷ []

-- `group record`
abbrev pub group_word : List ℕ
group_word = 103 ∷ 114 ∷ 111 ∷ 117 ∷ 112 ∷ 32 ∷ 114 ∷ 101 ∷ 99 ∷ 111 ∷ 114 ∷ 100 ∷ []

-- `end record`
abbrev pub end_word : List ℕ
end_word = 101 ∷ 110 ∷ 100 ∷ 32 ∷ 114 ∷ 101 ∷ 99 ∷ 111 ∷ 114 ∷ 100 ∷ []

-- `: `
abbrev pub colon_word : List ℕ
colon_word = 58 ∷ 32 ∷ []

-- `kind`
abbrev pub kind_name : List ℕ
kind_name = 107 ∷ 105 ∷ 110 ∷ 100 ∷ []

-- `quarters`
abbrev pub quarters_name : List ℕ
quarters_name = 113 ∷ 117 ∷ 97 ∷ 114 ∷ 116 ∷ 101 ∷ 114 ∷ 115 ∷ []

-- `quarter`
abbrev pub quarter_name : List ℕ
quarter_name = 113 ∷ 117 ∷ 97 ∷ 114 ∷ 116 ∷ 101 ∷ 114 ∷ []

-- `unit count`
abbrev pub count_name : List ℕ
count_name = 117 ∷ 110 ∷ 105 ∷ 116 ∷ 32 ∷ 99 ∷ 111 ∷ 117 ∷ 110 ∷ 116 ∷ []

-- `positions made`
abbrev pub positions_name : List ℕ
positions_name = 112 ∷ 111 ∷ 115 ∷ 105 ∷ 116 ∷ 105 ∷ 111 ∷ 110 ∷ 115 ∷ 32 ∷ 109 ∷ 97 ∷ 100 ∷ 101 ∷ []

-- `groups`
abbrev pub groups_name : List ℕ
groups_name = 103 ∷ 114 ∷ 111 ∷ 117 ∷ 112 ∷ 115 ∷ []

-- `number`
abbrev pub number_name : List ℕ
number_name = 110 ∷ 117 ∷ 109 ∷ 98 ∷ 101 ∷ 114 ∷ []

-- `class`
abbrev pub class_name : List ℕ
class_name = 99 ∷ 108 ∷ 97 ∷ 115 ∷ 115 ∷ []

-- `coincide`
abbrev pub coincide_name : List ℕ
coincide_name = 99 ∷ 111 ∷ 105 ∷ 110 ∷ 99 ∷ 105 ∷ 100 ∷ 101 ∷ []

-- `nominated`
abbrev pub nominated_name : List ℕ
nominated_name = 110 ∷ 111 ∷ 109 ∷ 105 ∷ 110 ∷ 97 ∷ 116 ∷ 101 ∷ 100 ∷ []

-- `N`
abbrev pub n_name : List ℕ
n_name = 78 ∷ []

-- `PC`
abbrev pub pc_name : List ℕ
pc_name = 80 ∷ 67 ∷ []

-- `M-`
abbrev pub down_name : List ℕ
down_name = 77 ∷ 45 ∷ []

-- `M+`
abbrev pub up_name : List ℕ
up_name = 77 ∷ 43 ∷ []

-- `margins made`
abbrev pub margins_name : List ℕ
margins_name = 109 ∷ 97 ∷ 114 ∷ 103 ∷ 105 ∷ 110 ∷ 115 ∷ 32 ∷ 109 ∷ 97 ∷ 100 ∷ 101 ∷ []

-- `lower end`
abbrev pub lower_name : List ℕ
lower_name = 108 ∷ 111 ∷ 119 ∷ 101 ∷ 114 ∷ 32 ∷ 101 ∷ 110 ∷ 100 ∷ []

-- `upper end`
abbrev pub upper_name : List ℕ
upper_name = 117 ∷ 112 ∷ 112 ∷ 101 ∷ 114 ∷ 32 ∷ 101 ∷ 110 ∷ 100 ∷ []

-- `, not permitted`
abbrev pub permitted_phrase : List ℕ
permitted_phrase = 44 ∷ 32 ∷ 110 ∷ 111 ∷ 116 ∷ 32 ∷ 112 ∷ 101 ∷ 114 ∷ 109 ∷ 105 ∷ 116 ∷ 116 ∷ 101 ∷ 100 ∷ []

-- `, one of 92, 96, 100`
abbrev pub quarters_phrase : List ℕ
quarters_phrase = 44 ∷ 32 ∷ 111 ∷ 110 ∷ 101 ∷ 32 ∷ 111 ∷ 102 ∷ 32 ∷ 57 ∷ 50 ∷ 44 ∷ 32 ∷ 57 ∷ 54 ∷ 44 ∷ 32 ∷ 49 ∷ 48 ∷ 48 ∷ []

-- `, below`
abbrev pub below_word : List ℕ
below_word = 44 ∷ 32 ∷ 98 ∷ 101 ∷ 108 ∷ 111 ∷ 119 ∷ []

-- `, from 1 to 64`
abbrev pub count_phrase : List ℕ
count_phrase = 44 ∷ 32 ∷ 102 ∷ 114 ∷ 111 ∷ 109 ∷ 32 ∷ 49 ∷ 32 ∷ 116 ∷ 111 ∷ 32 ∷ 54 ∷ 52 ∷ []

-- `, above`
abbrev pub above_word : List ℕ
above_word = 44 ∷ 32 ∷ 97 ∷ 98 ∷ 111 ∷ 118 ∷ 101 ∷ []

-- `, one of 0, 1`
abbrev pub flag_phrase : List ℕ
flag_phrase = 44 ∷ 32 ∷ 111 ∷ 110 ∷ 101 ∷ 32 ∷ 111 ∷ 102 ∷ 32 ∷ 48 ∷ 44 ∷ 32 ∷ 49 ∷ []

-- `, 0 where not nominated`
abbrev pub nominated_phrase : List ℕ
nominated_phrase = 44 ∷ 32 ∷ 48 ∷ 32 ∷ 119 ∷ 104 ∷ 101 ∷ 114 ∷ 101 ∷ 32 ∷ 110 ∷ 111 ∷ 116 ∷ 32 ∷ 110 ∷ 111 ∷ 109 ∷ 105 ∷ 110 ∷ 97 ∷ 116 ∷ 101 ∷ 100 ∷ []

-- `, from -1000000 to 1000000`
abbrev pub range_phrase : List ℕ
range_phrase = 44 ∷ 32 ∷ 102 ∷ 114 ∷ 111 ∷ 109 ∷ 32 ∷ 45 ∷ 49 ∷ 48 ∷ 48 ∷ 48 ∷ 48 ∷ 48 ∷ 48 ∷ 32 ∷ 116 ∷ 111 ∷ 32 ∷ 49 ∷ 48 ∷ 48 ∷ 48 ∷ 48 ∷ 48 ∷ 48 ∷ []

-- `, at least `
abbrev pub least_word : List ℕ
least_word = 44 ∷ 32 ∷ 97 ∷ 116 ∷ 32 ∷ 108 ∷ 101 ∷ 97 ∷ 115 ∷ 116 ∷ 32 ∷ []

-- `, at most `
abbrev pub most_word : List ℕ
most_word = 44 ∷ 32 ∷ 97 ∷ 116 ∷ 32 ∷ 109 ∷ 111 ∷ 115 ∷ 116 ∷ 32 ∷ []

-- `, run`
abbrev pub run_word : List ℕ
run_word = 44 ∷ 32 ∷ 114 ∷ 117 ∷ 110 ∷ []

-- `, limit`
abbrev pub limit_word : List ℕ
limit_word = 44 ∷ 32 ∷ 108 ∷ 105 ∷ 109 ∷ 105 ∷ 116 ∷ []

-- `, age`
abbrev pub age_word : List ℕ
age_word = 44 ∷ 32 ∷ 97 ∷ 103 ∷ 101 ∷ []

-- `, made after the run`
abbrev pub ahead_phrase : List ℕ
ahead_phrase = 44 ∷ 32 ∷ 109 ∷ 97 ∷ 100 ∷ 101 ∷ 32 ∷ 97 ∷ 102 ∷ 116 ∷ 101 ∷ 114 ∷ 32 ∷ 116 ∷ 104 ∷ 101 ∷ 32 ∷ 114 ∷ 117 ∷ 110 ∷ []

-- `, accepted`
abbrev pub accepted_word : List ℕ
accepted_word = 44 ∷ 32 ∷ 97 ∷ 99 ∷ 99 ∷ 101 ∷ 112 ∷ 116 ∷ 101 ∷ 100 ∷ []

-- `cut short, bytes at hand`
abbrev pub cut_word : List ℕ
cut_word = 99 ∷ 117 ∷ 116 ∷ 32 ∷ 115 ∷ 104 ∷ 111 ∷ 114 ∷ 116 ∷ 44 ∷ 32 ∷ 98 ∷ 121 ∷ 116 ∷ 101 ∷ 115 ∷ 32 ∷ 97 ∷ 116 ∷ 32 ∷ 104 ∷ 97 ∷ 110 ∷ 100 ∷ []

-- `not after `
abbrev pub after_word : List ℕ
after_word = 110 ∷ 111 ∷ 116 ∷ 32 ∷ 97 ∷ 102 ∷ 116 ∷ 101 ∷ 114 ∷ 32 ∷ []

-- `not after the block before`
abbrev pub first_phrase : List ℕ
first_phrase = 110 ∷ 111 ∷ 116 ∷ 32 ∷ 97 ∷ 102 ∷ 116 ∷ 101 ∷ 114 ∷ 32 ∷ 116 ∷ 104 ∷ 101 ∷ 32 ∷ 98 ∷ 108 ∷ 111 ∷ 99 ∷ 107 ∷ 32 ∷ 98 ∷ 101 ∷ 102 ∷ 111 ∷ 114 ∷ 101 ∷ []

-- `room too small`
abbrev pub room_phrase : List ℕ
room_phrase = 114 ∷ 111 ∷ 111 ∷ 109 ∷ 32 ∷ 116 ∷ 111 ∷ 111 ∷ 32 ∷ 115 ∷ 109 ∷ 97 ∷ 108 ∷ 108 ∷ []

-- `a refusal of another call`
abbrev pub other_call_phrase : List ℕ
other_call_phrase = 97 ∷ 32 ∷ 114 ∷ 101 ∷ 102 ∷ 117 ∷ 115 ∷ 97 ∷ 108 ∷ 32 ∷ 111 ∷ 102 ∷ 32 ∷ 97 ∷ 110 ∷ 111 ∷ 116 ∷ 104 ∷ 101 ∷ 114 ∷ 32 ∷ 99 ∷ 97 ∷ 108 ∷ 108 ∷ []

-- a line feed
abbrev pub feed : List ℕ
feed = 10 ∷ []

-- ---- a line
-- a word and a number
abbrev pub numbered : List ℕ → ℕ → List ℕ
numbered word n = word ++ (32 ∷ decimal n)

unfoldable pub key_words : Key → List ℕ
key_words k = (numbered brp_word k.brp ++ numbered zone_word k.zone) ++ numbered quarter_word k.quarter

unfoldable pub subject_words : Subject → List ℕ
subject_words S.Record = record_word
subject_words S.Day = day_word
subject_words S.Group = group_word
subject_words S.End = end_word
subject_words (S.Block k) = key_words k
subject_words (S.Unit k number) = key_words k ++ numbered unit_word number
subject_words (S.UnitAt k index) = key_words k ++ numbered index_word index

unfoldable pub unit_field_name : UnitField → List ℕ
unit_field_name U.Number = number_name
unit_field_name U.Class = class_name
unit_field_name U.Coincide = coincide_name
unit_field_name U.Nominated = nominated_name
unit_field_name U.N = n_name
unit_field_name U.Pc = pc_name
unit_field_name U.StepDown = down_name
unit_field_name U.StepUp = up_name
unit_field_name U.Made = margins_name
unit_field_name U.Lower = lower_name
unit_field_name U.Upper = upper_name

unfoldable pub field_name : Field → List ℕ
field_name F.Kind = kind_name
field_name F.Quarters = quarters_name
field_name F.Quarter = quarter_name
field_name F.UnitCount = count_name
field_name F.PositionsMade = positions_name
field_name F.Groups = groups_name
field_name (F.Unit f) = unit_field_name f

unfoldable pub value_words : Value → List ℕ
value_words (Plain n) = 32 ∷ decimal n
value_words (Signed z) = 32 ∷ signed_decimal z

-- a word, the field that it was held against, and its value
unfoldable pub against_words : List ℕ → UnitField → Value → List ℕ
against_words word f v = (word ++ unit_field_name f) ++ value_words v

unfoldable pub age_words : ℕ → ℕ → List ℕ
age_words run limit = numbered run_word run ++ numbered limit_word limit

unfoldable pub held_words : Held → List ℕ
held_words H.NotPermitted = permitted_phrase
held_words H.Quarters = quarters_phrase
held_words (H.Below n) = numbered below_word n
held_words H.UnitCount = count_phrase
held_words (H.Above n) = numbered above_word n
held_words H.Flag = flag_phrase
held_words H.NotNominated = nominated_phrase
held_words H.Range = range_phrase
held_words (H.AtLeast f v) = against_words least_word f v
held_words (H.AtMost f v) = against_words most_word f v
held_words (H.Old run limit age) = age_words run limit ++ numbered age_word age
held_words (H.Ahead run limit) = age_words run limit ++ ahead_phrase
held_words (H.Accepted n) = numbered accepted_word n

unfoldable pub told_words : Told → List ℕ
told_words t = (field_name t.field ++ value_words t.value) ++ held_words t.held

unfoldable pub last_words : Option Key → List ℕ
last_words None = first_phrase
last_words (Some k) = after_word ++ key_words k

unfoldable pub finding_words : Finding → List ℕ
finding_words (N.CutShort n) = numbered cut_word n
finding_words (N.Told t) = told_words t
finding_words (N.NotAfter last) = last_words last
finding_words N.Room = room_phrase
finding_words N.OtherCall = other_call_phrase

unfoldable pub name_line : Named → List ℕ
name_line n = ((subject_words n.subject ++ colon_word) ++ finding_words n.finding) ++ feed

-- ---- how long a line can be
abbrev pub longest_key : ℕ
longest_key = (length brp_word + u32_field) + (length zone_word + u32_field) + (length quarter_word + u32_field)

abbrev pub longest_subject : ℕ
longest_subject = longest_key + (length index_word + u64_field)

abbrev pub longest_name : ℕ
longest_name = length positions_name

abbrev pub longest_value : ℕ
longest_value = i32_field

abbrev pub longest_age : ℕ
longest_age = (length run_word + u32_field) + (length limit_word + u32_field)

abbrev pub longest_held : ℕ
longest_held = longest_age + length ahead_phrase

abbrev pub longest_finding : ℕ
longest_finding = longest_name + longest_value + longest_held

abbrev pub longest_line : ℕ
longest_line = longest_subject + length colon_word + longest_finding + length feed

-- ---- the contract
-- the line stands at the front of the room, which is else as it was; a room too small for the longest line stays as it was
abbrev pub line_in : Day → List ℕ → Refusal → List ℕ → List ℕ
line_in day s r room = pick (ltb (length room) longest_line) [] (name_line (named_of day s r))

pub record Names (day : Day) (s : List ℕ) (r : Refusal) (entry : List ℕ) (n : ℕ) (exit : List ℕ) : Type 0 where
  pub written : n ≡ length (line_in day s r entry)
  pub room : exit ≡ laid_at entry 0 (line_in day s r entry)
