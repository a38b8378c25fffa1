-- Pro quota in whole kWh: the cut of C over units of the given sizes, whose sum is T.
-- A unit that is not of the class and direction cut has size 0.
use Rattle.std.specs.Prelude.{ℕ, ◌+◌, ◌-◌, ◌*◌, ◌/◌, ◌%◌, ◌≤◌, ◌<◌, ◌≡◌, Bool, ◌&&◌, ◌||◌, List, ltb, eqb, length, get_or}
use Rattle.numbers.specs.Column.{column}
use Rattle.numbers.specs.Sum.{sum, sum_to, bit, count}

-- the whole part of unit i's exact share C·n / T, and its remainder; where T is 0 no unit has a size, and both are 0
unfoldable pub whole : List ℕ → ℕ → ℕ → ℕ
whole s c i = c * get_or s i 0 / sum s

unfoldable pub rest : List ℕ → ℕ → ℕ → ℕ
rest s c i = c * get_or s i 0 % sum s

-- of two units of one remainder, unit j, of size n, comes before unit i, of size m: it is larger, or as large and earlier in the group
unfoldable pub larger_first : ℕ → ℕ → ℕ → ℕ → Bool
larger_first m n i j = ltb m n || (eqb m n && ltb j i)

-- unit j, of remainder y and size n, comes before unit i, of remainder x and size m: y is larger, or equal and j comes first by size and place
unfoldable pub ahead : ℕ → ℕ → ℕ → ℕ → ℕ → ℕ → Bool
ahead x y m n i j = ltb x y || (eqb x y && larger_first m n i j)

unfoldable pub before : List ℕ → ℕ → ℕ → ℕ → Bool
before s c j i = ahead (rest s c i) (rest s c j) (get_or s i 0) (get_or s j 0) i j

-- how many of n units come before unit i
unfoldable pub rank : (ℕ → ℕ → Bool) → ℕ → ℕ → ℕ
rank earlier n i = count n (λ (j : ℕ). earlier j i)

-- the kWh still to cut once each unit has lost its whole part
unfoldable pub still : List ℕ → ℕ → ℕ
still s c = c - sum_to (length s) (whole s c)

-- what unit i loses: its whole part, and one kWh more where fewer units come before it than kWh are still to cut
unfoldable pub cut_at : List ℕ → ℕ → ℕ → ℕ
cut_at s c i = whole s c i + bit (ltb (rank (before s c) (length s) i) (still s c))

-- what each unit loses
unfoldable pub cuts_of : List ℕ → ℕ → List ℕ
cuts_of s c = column (length s) (cut_at s c)

-- what the cuts r of c over the sizes s, whose sum is above 0, owe the units whatever the rule (demand 3 over one class)
pub record Fair (s : List ℕ) (c : ℕ) (r : List ℕ) : Type 0 where
  -- they add up to the cut
  pub total : sum r ≡ c
  -- none is above its unit's size, so a unit of size 0 is not cut
  pub within : (i : ℕ) → get_or r i 0 ≤ get_or s i 0
  -- each is less than one kWh away from the exact share: cut·T and C·n differ by less than T
  pub near : (i : ℕ) → (get_or r i 0 * sum s < c * get_or s i 0 + sum s) × (c * get_or s i 0 < get_or r i 0 * sum s + sum s)
  -- a larger unit is cut by no less
  pub larger-cut : (a b : ℕ) → get_or s b 0 < get_or s a 0 → get_or r b 0 ≤ get_or r a 0
  -- and left with no less
  pub larger-left : (a b : ℕ) → get_or s b 0 < get_or s a 0 → get_or s b 0 - get_or r b 0 ≤ get_or s a 0 - get_or r a 0
