-- Who loses the odd kWh: "An equal remainder now goes to the larger size first, then to the earlier unit" (document 02), of two units of a group.
use Rattle.std.specs.Prelude.{ℕ, ◌*◌, ◌/◌, ◌%◌, ◌<◌, ◌≡◌, ◌⊎◌}
use Rattle.terms.specs.declared.quantity.Standing.{Standing}
use Rattle.group.specs.Group.{Group}
use Rattle.group.specs.Demand3.{size, cut, Of, total, class_cut}

-- the remainder of a unit's exact share of what its class loses
abbrev pub remainder : Group → Standing → ℕ → ℕ
remainder g k i = class_cut g k * size g i % total g k

-- a unit loses an odd kWh: more than the whole part of that share
abbrev pub LosesOdd : Group → Standing → ℕ → Type 0
LosesOdd g k i = class_cut g k * size g i / total g k < cut g i

-- of two units of one class, of which one loses an odd kWh and the other does not, the first has the larger remainder; or they have equal ones, and it is the larger, or as large and earlier
abbrev pub LargerFirst : Group → Type 0
LargerFirst g = (k : Standing) (i j : ℕ) → Of g k i → Of g k j → LosesOdd g k i → (LosesOdd g k j → ⊥)
    → (remainder g k j < remainder g k i) ⊎ ((remainder g k i ≡ remainder g k j) × ((size g j < size g i) ⊎ ((size g i ≡ size g j) × (i < j))))
