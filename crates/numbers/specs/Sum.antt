-- Sums and counts.
use Rattle.std.specs.Prelude.{ℕ, zero, suc, ◌+◌, Bool, true, false, List, [], ◌∷◌, ℤ, pos, ◌+ℤ◌}

-- the sum of a list, and of a list of signed numbers
unfoldable pub sum : List ℕ → ℕ
sum [] = 0
sum (x ∷ xs) = x + sum xs

unfoldable pub sum_z : List ℤ → ℤ
sum_z [] = pos 0
sum_z (z ∷ zs) = z +ℤ sum_z zs

-- f 0 + f 1 + .. + f (n - 1)
unfoldable pub sum_to : ℕ → (ℕ → ℕ) → ℕ
sum_to zero f = 0
sum_to (suc n) f = sum_to n f + f n

-- 1 for true, 0 for false
abbrev pub bit : Bool → ℕ
bit true = 1
bit false = 0

-- how many of the indices below n pass the test
unfoldable pub count : ℕ → (ℕ → Bool) → ℕ
count n p = sum_to n (λ (i : ℕ). bit (p i))
