-- Choice by a test.
use Rattle.std.specs.Prelude.{Bool, true, false, ◌&&◌, ℤ}
use Rattle.std.specs.Int.Signed.{le_z}

-- the first where the test holds, else the second
abbrev pub pick {ℓ} : {X : Type ℓ} → Bool → X → X → X
pick true a b = a
pick false a b = b

-- whether two signed numbers are equal
abbrev pub eq_z : ℤ → ℤ → Bool
eq_z a b = le_z a b && le_z b a
