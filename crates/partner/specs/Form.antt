-- "Read our partners' export" (02, §7): eight fields, each of the first seven ended by `;`, the eighth by one line feed. The first wrong field is refused by 20 at its start; the byte that should end a field belongs to it. In ASCII: 10 line feed, 44 `,`, 48 `0`, 59 `;`, 73 `I`, 80 `P`.
use Rattle.std.specs.Prelude.{ℕ, ◌+◌, ◌*◌, Bool, not, ◌&&◌, ◌||◌, List, [], ◌∷◌, leb, ltb, eqb, ℤ, pos, neg_ℤ, length, drop}
use Rattle.numbers.specs.Bytes.{byte_at}
use Rattle.numbers.specs.Choice.{pick}
use Rattle.numbers.specs.Decimal.{is_digit, all_digits, number_from}
use Rattle.terms.specs.Reply.{Reply, is, need, next}
use Rattle.partner.specs.declared.fields.Held.{Held}
use Rattle.partner.specs.declared.form.Form.{Form}

-- a number read, of any size, or a signed amount in kWh, and the place after the byte that ends its field
abbrev pub held : {A : Type 0} → A → ℕ → Held A
held value next = record { value = value; next = next }

-- ---- numerals
-- the digits in front
unfoldable pub digits_from : List ℕ → List ℕ
digits_from [] = []
digits_from (b ∷ s) = pick (is_digit b) (b ∷ digits_from s) []

-- at least one digit, and 0 in front only where it stands alone
abbrev pub is_numeral : List ℕ → Bool
is_numeral d = ltb 0 (length d) && (eqb (length d) 1 || not (eqb (byte_at d 0) 48))

-- as many digits as there are, and the byte that ends them
abbrev pub numeral_by : List ℕ → List ℕ → ℕ → ℕ → Reply (Held ℕ)
numeral_by d s at stop =
    need (is_numeral d && eqb (byte_at s (at + length d)) stop) 20 at
    (is (held (number_from 0 d) (at + length d + 1)))

unfoldable pub numeral_of : List ℕ → ℕ → ℕ → Reply (Held ℕ)
numeral_of s at stop = numeral_by (digits_from (drop at s)) s at stop

-- ---- amounts: MWh with a comma and exactly three decimals
abbrev pub three_at : List ℕ → ℕ → List ℕ
three_at s at = byte_at s at ∷ byte_at s (at + 1) ∷ byte_at s (at + 2) ∷ []

-- three decimals, and the `;` that ends the amount
abbrev pub has_decimals : List ℕ → ℕ → Bool
has_decimals s at = all_digits (three_at s at) && eqb (byte_at s (at + 3)) 59

-- an amount in kWh; whatever is wrong in it, its start is the place
unfoldable pub amount_of : List ℕ → ℕ → Reply (Held ℕ)
amount_of s at =
    next (numeral_of s at 44) λ mwh.
    need (has_decimals s mwh.next) 20 at
    (is (held (mwh.value * 1000 + number_from 0 (three_at s mwh.next)) (mwh.next + 4)))

-- ---- letters: `I` for injection, `P` for withdrawal; of zero only `I`
abbrev pub is_letter : ℕ → ℕ → Bool
is_letter b size = eqb b 73 || (eqb b 80 && ltb 0 size)

abbrev pub signed_by : ℕ → ℕ → ℤ
signed_by b size = pick (eqb b 80) (neg_ℤ (pos size)) (pos size)

-- an amount and its letter, a field each
unfoldable pub quantity_of : List ℕ → ℕ → ℕ → Reply (Held ℤ)
quantity_of s at stop =
    next (amount_of s at) λ size.
    need (is_letter (byte_at s size.next) size.value && eqb (byte_at s (size.next + 1)) stop) 20 size.next
    (is (held (signed_by (byte_at s size.next) size.value) (size.next + 2)))

-- ---- the eight fields
-- a unit number above 65535 is wrong, not too large
unfoldable pub unit_number_of : List ℕ → Reply (Held ℕ)
unit_number_of s =
    next (numeral_of s 0 59) λ number.
    need (leb number.value 65535) 20 0
    (is number)

-- left to right; quarter and amounts may have any size here
unfoldable pub form_of : List ℕ → Reply Form
form_of s =
    next (unit_number_of s) λ number.
    next (numeral_of s number.next 59) λ quarter.
    next (quantity_of s quarter.next 59) λ n.
    next (quantity_of s n.next 59) λ down.
    next (quantity_of s down.next 10) λ up.
    is (record { number = number; quarter = quarter; n = n; step_down = down; step_up = up })
