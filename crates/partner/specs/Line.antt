-- "Read our partners' export" (02, §7): the limits of a line's values, a line read, and a line written.
use Rattle.std.specs.Prelude.{ℕ, ◌/◌, ◌%◌, List, [], ◌∷◌, ◌++◌, ltb, ℤ, pos, negsuc, nat_abs, length, Result}
use Rattle.std.specs.Int.Signed.{le_z}
use Rattle.numbers.specs.Decimal.{digit, decimal}
use Rattle.terms.specs.Reply.{Reply, is, need, next}
use Rattle.terms.specs.Checks.{in_range}
use Rattle.writers.specs.Writing.{Wrote, room_for}
use Rattle.partner.specs.declared.form.Form.{Form}
use Rattle.partner.specs.declared.limits.Places.{Places}
use Rattle.partner.specs.declared.line.Line.{Line}
use Rattle.partner.specs.declared.line.LineRead.{LineRead}
use Rattle.partner.specs.Form.{form_of}
use Rattle.terms.specs.declared.refusal.Refusal.{Refusal}

-- ---- limits: 4, then 8 for N, M- and M+, then 9, each at the place given for it: its field's start for a line read, 0 for one written
unfoldable pub within : {A : Type 0} → Line → Places → Reply A → Reply A
within l at rest =
    need (ltb l.quarter 100) 4 at.quarter
    (need (in_range l.n.0) 8 at.n
    (need (in_range l.margins.step_down) 8 at.step_down
    (need (in_range l.margins.step_up) 8 at.step_up
    (need (le_z l.margins.step_down l.margins.step_up) 9 at.step_up
    rest))))

-- ---- a line read
abbrev pub line_in : Form → Line
line_in f =
    record {
      number = f.number.value;
      quarter = f.quarter.value;
      n = record { 0 = f.n.value };
      margins = record { step_down = f.step_down.value; step_up = f.step_up.value };
    }

-- a field starts where the one before it ends; an amount's own start counts, not its letter's
abbrev pub starts_in : Form → Places
starts_in f = record { quarter = f.number.next; n = f.quarter.next; step_down = f.n.next; step_up = f.step_down.next }

-- all eight fields for their form, and then the limits; bytes after the line feed are not read
unfoldable pub read_of : List ℕ → Reply LineRead
read_of s =
    next (form_of s) λ f.
    within (line_in f) (starts_in f)
    (is (record { line = line_in f; used = f.step_up.next }))

-- ---- a line written
-- a number and the byte that ends it
abbrev pub numeral : ℕ → ℕ → List ℕ
numeral n stop = decimal n ++ (stop ∷ [])

-- three decimals, of a number below 1000
abbrev pub three : ℕ → List ℕ
three n = digit (n / 100) ∷ digit (n / 10 % 10) ∷ digit (n % 10) ∷ []

abbrev pub letter : ℤ → ℕ
letter (pos n) = 73
letter (negsuc n) = 80

-- MWh, a comma, three decimals, and the letter in a field of its own
unfoldable pub quantity_bytes : ℤ → ℕ → List ℕ
quantity_bytes z stop = numeral (nat_abs z / 1000) 44 ++ three (nat_abs z % 1000) ++ (59 ∷ letter z ∷ stop ∷ [])

unfoldable pub line_of : Line → List ℕ
line_of l =
    numeral l.number 59
    ++ numeral l.quarter 59
    ++ quantity_bytes l.n.0 59
    ++ quantity_bytes l.margins.step_down 59
    ++ quantity_bytes l.margins.step_up 10

-- a writer's places
abbrev pub at_zero : Places
at_zero = record { quarter = 0; n = 0; step_down = 0; step_up = 0 }

-- the limits, then 12, each at place 0
unfoldable pub write_of : Line → ℕ → Reply ℕ
write_of l room = within l at_zero (room_for (length (line_of l)) room)

abbrev pub LineWritten : Line → List ℕ → Result ℕ Refusal → List ℕ → Type 0
LineWritten l entry r exit = Wrote (write_of l (length entry)) (line_of l) entry r exit
