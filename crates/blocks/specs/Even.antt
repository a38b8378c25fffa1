-- Columns of the units of a block: no promise rests on it.
use Rattle.std.specs.Prelude.{ℕ, ◌≤◌, ◌<◌, ◌≡◌, List, ℤ, length, get_or}
use Rattle.terms.specs.Checks.{most_units}

-- columns of one length, of at most 64 units; each reason has a byte
pub record AreEven (why : List ℕ) (n0 n1 n2 n3 : List ℤ) : Type 0 where
  pub few : length n0 ≤ most_units
  pub whys : length why ≡ length n0
  pub firsts : length n1 ≡ length n0
  pub seconds : length n2 ≡ length n0
  pub thirds : length n3 ≡ length n0
  pub byte : (i : ℕ) → get_or why i 0 < 256
