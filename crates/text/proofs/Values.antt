-- Where no field stands there is no value of any form; and a field ends within its text.
use Prim.Native.Nat.{ℕ, ◌≤◌}
use mathlib.Core.Path.{◌≡◌, refl}
use mathlib.Core.List.{List, []}
use lib.ListN.{length, drop}
use Rattle.std.specs.Prelude.{None}
use Rattle.text.specs.declared.values_in.Form.{Form}
use Rattle.text.specs.declared.values_in.Form.TheVariants.{Number, Day, Minute}
use Rattle.text.specs.Numbers.{size_of, number_in, field_of}
use Rattle.text.specs.Dates.{day_in, minute_in, value_in}
use Rattle.text.proofs.Spaces.{field-at, field_fits, field-none}

nothing : (form : Form) → value_in form [] ≡ None
unfolding day_in minute_in number_in size_of
nothing Number = refl
nothing Day = refl
nothing Minute = refl

pub nothing-there : (form : Form) (text : List ℕ) (start : ℕ) → length text ≤ start → value_in form (field_of (drop start text)) ≡ None
nothing-there form text start h = rw (field-none text start h) (nothing form)

pub ruleset values = (nothing-there, field_fits, field-at)
