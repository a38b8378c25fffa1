-- What inner functions ask of each other: no promise rests on it.
use Rattle.std.specs.Prelude.{ℕ, ◌+◌, ◌*◌, ◌-◌, ◌/◌, ◌%◌, ◌≤◌, ◌≡◌, true, false, min, List, Option, Some, None, eqb, ℤ, pos, negsuc, neg_ℤ, length, drop}
use Rattle.std.specs.Int.Signed.{le_z}
use Rattle.numbers.specs.Bytes.{byte_at, laid_at}
use Rattle.numbers.specs.Choice.{pick}
use Rattle.numbers.specs.Decimal.{is_digit, all_digits, number_from}
use Rattle.terms.specs.Checks.{in_range}
use Rattle.terms.specs.Reply.{Reply, is, refused, need, next}
use Rattle.terms.specs.declared.quantity.Direction.{Direction}
use Rattle.terms.specs.declared.quantity.Direction.TheVariants as D
use Rattle.terms.specs.declared.quantity.Margins.{Margins}
use Rattle.partner.specs.declared.fields.Held.{Held}
use Rattle.partner.specs.declared.form.Form.{Form}
use Rattle.partner.specs.declared.limits.Places.{Places}
use Rattle.partner.specs.declared.line.LineRead.{LineRead}
use Rattle.partner.specs.Form.{held, digits_from, numeral_of, quantity_of, three_at, is_letter}
use Rattle.partner.specs.Line.{line_in, starts_in, within}

-- ---- numbers of any length, kept at no more than a cap
-- no cap is above that of the unit numbers
abbrev pub number_cap : ℕ
number_cap = 65536

abbrev pub quarter_cap : ℕ
quarter_cap = 100

abbrev pub mwh_cap : ℕ
mwh_cap = 1001

abbrev pub capped : ℕ → Held ℕ → Held ℕ
capped cap h = held (min cap h.value) h.next

-- an amount in kWh whose whole MWh are kept so
abbrev pub least_kwh : ℕ → ℕ
least_kwh n = min mwh_cap (n / 1000) * 1000 + n % 1000

abbrev pub least_z : ℤ → ℤ
least_z (pos n) = pos (least_kwh n)
least_z (negsuc n) = neg_ℤ (pos (least_kwh (n + 1)))

abbrev pub capped_amount : Held ℕ → Held ℕ
capped_amount h = held (least_kwh h.value) h.next

abbrev pub capped_kwh : Held ℤ → Held ℤ
capped_kwh q = held (least_z q.value) q.next

abbrev pub capped_form : Form → Form
capped_form f =
    record {
      number = f.number;
      quarter = capped quarter_cap f.quarter;
      n = capped_kwh f.n;
      step_down = capped_kwh f.step_down;
      step_up = capped_kwh f.step_up;
    }

-- what is read, changed so
unfoldable pub mapped : {A B : Type 0} → (A → B) → Reply A → Reply B
mapped f (is a) = is (f a)
mapped f (refused number place) = refused number place

-- ---- fields
-- the digits from a place on, behind a number that is read already: the number, and where they end
pub record Digits (s : List ℕ) (at first cap : ℕ) (r : Held ℕ) : Type 0 where
  pub value : r.value ≡ min cap (number_from first (digits_from (drop at s)))
  pub next : r.next ≡ at + length (digits_from (drop at s))

-- a digit stands at a place, and this is its number
pub record Opens (s : List ℕ) (at first : ℕ) : Type 0 where
  pub digit : is_digit (byte_at s at) ≡ true
  pub value : first ≡ byte_at s at - 48

-- a byte that can end a field
pub record Stops (stop : ℕ) : Type 0 where
  pub digit : is_digit stop ≡ false
  pub some : 1 ≤ stop

-- where a numeral ends, whichever byte is to end it: there that byte is all that is asked still
pub record Ended (s : List ℕ) (at cap : ℕ) (r : Held ℕ) : Type 0 where
  pub told : (stop : ℕ) → is_digit stop ≡ false → mapped (capped cap) (numeral_of s at stop) ≡ need (eqb (byte_at s r.next) stop) 20 at (is (held r.value (r.next + 1)))

-- the number of these digits, if they are digits
abbrev pub digits_in : List ℕ → Option ℕ
digits_in d = pick (all_digits d) (Some (number_from 0 d)) None

-- that of three decimals and the `;` that ends them
abbrev pub decimals_in : List ℕ → ℕ → Option ℕ
decimals_in s at = pick (eqb (byte_at s (at + 3)) 59) (digits_in (three_at s at)) None

abbrev pub letter_by : ℕ → ℕ → Option Direction
letter_by b size = pick (is_letter b size) (Some (pick (eqb b 80) D.Withdrawals D.Injections)) None

abbrev pub letter_at : List ℕ → ℕ → ℕ → ℕ → Option Direction
letter_at s at size stop = pick (eqb (byte_at s (at + 1)) stop) (letter_by (byte_at s at) size) None

-- an amount with the sign of its direction
abbrev pub signed_in : Direction → ℕ → ℤ
signed_in D.Injections size = pos size
signed_in D.Withdrawals size = neg_ℤ (pos size)

-- an amount and what its letter says
abbrev pub quantity_by : Option Direction → Held ℕ → Reply (Held ℤ)
quantity_by (Some d) size = is (held (signed_in d size.value) (size.next + 2))
quantity_by None size = refused 20 size.next

-- a line's three quantities, kept so, behind its two numbers
unfoldable pub quantities_behind : List ℕ → Held ℕ → Held ℕ → Reply Form
quantities_behind s number quarter =
    next (mapped capped_kwh (quantity_of s quarter.next 59)) λ n.
    next (mapped capped_kwh (quantity_of s n.next 59)) λ down.
    next (mapped capped_kwh (quantity_of s down.next 10)) λ up.
    is (record { number = number; quarter = quarter; n = n; step_down = down; step_up = up })

-- ---- limits
-- those of the margins
unfoldable pub margins_within : Margins → Places → Reply (Unit {0})
margins_within m at =
    need (in_range m.step_down) 8 at.step_down
    (need (in_range m.step_up) 8 at.step_up
    (need (le_z m.step_down m.step_up) 9 at.step_up
    (is tt)))

-- a line whose form is right, by its limits
unfoldable pub line_by : Form → Reply LineRead
line_by f = within (line_in f) (starts_in f) (is (record { line = line_in f; used = f.step_up.next }))

-- ---- writing
-- these bytes are laid from a place on, r is the place after them, and the room is as long as it was
pub record Lays (entry : List ℕ) (at : ℕ) (bytes : List ℕ) (r : ℕ) (exit : List ℕ) : Type 0 where
  pub room : exit ≡ laid_at entry at bytes
  pub after : r ≡ at + length bytes
  pub long : length exit ≡ length entry
