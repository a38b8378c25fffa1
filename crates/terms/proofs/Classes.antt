-- Classes: which of them columns may have are known, and of a known one just one standing holds. No other law looks at a class's number.
use Prim.Native.Nat.{ℕ, zero, suc}
use mathlib.Core.Path.{◌≡◌, refl}
use mathlib.Core.Bool.{true, not}
use native.Mathlib.Omega.{arith}
use borrow.Author.Tests.{leb-true}
use Rattle.terms.specs.Quantities.{standing, known_class}
use Rattle.terms.specs.Checks.{is_flag}
use Rattle.terms.specs.declared.quantity.Standing.TheVariants.{NotEnabled, Enabled}

pub flag-known : (class : ℕ) → is_flag class ≡ true → known_class class ≡ true
flag-known class e = e

pub one-standing : (class : ℕ) → known_class class ≡ true → standing Enabled class ≡ not (standing NotEnabled class)
one-standing zero h = refl
one-standing (suc zero) h = refl
one-standing (suc (suc class)) h = absurd (omega (arith, leb-true (suc (suc class)) 1 h))
