-- "Numbers given back": what the checks of a unit's fields have in common, and the checks of the quantities of a unit given as columns, in the document's order.
use Rattle.std.specs.Prelude.{ℕ, Bool, ◌&&◌, leb, ℤ, pos, neg_ℤ, Result, Ok}
use Rattle.std.specs.Int.Signed.{le_z}
use Rattle.terms.specs.Refusals.{check}
use Rattle.terms.specs.declared.quantity.Margins.{Margins}
use Rattle.terms.specs.declared.refusal.Fault.TheVariants as F
use Rattle.terms.specs.declared.refusal.Fault.{Fault}

-- a byte that is 0 or 1
abbrev pub is_flag : ℕ → Bool
is_flag b = leb b 1

-- a quantity from -1,000,000 to 1,000,000
abbrev pub in_range : ℤ → Bool
in_range z = le_z (neg_ℤ (pos 1000000)) z && le_z z (pos 1000000)

-- a group has 1 to 64 units
abbrev pub most_units : ℕ
most_units = 64

abbrev pub unit_count : ℕ → Bool
unit_count count = leb 1 count && leb count most_units

-- the quantities of a unit given as columns: 8 for each in turn, then 9
unfoldable pub margin_checks : Margins → Result Unit Fault
margin_checks m =
    check (in_range m.step_down) F.StepDown
    (check (in_range m.step_up) F.StepUp
    (check (le_z m.step_down m.step_up) F.Crossed
    (Ok tt)))

unfoldable pub amount_checks : ℤ → ℤ → Margins → Result Unit Fault
amount_checks n pc m =
    check (in_range n) F.N
    (check (in_range pc) F.Pc
    (margin_checks m))
