-- Numbers in decimal, in ASCII: how one is spelled, and what digits come to.
use Rattle.std.specs.Prelude.{ℕ, zero, suc, ◌+◌, ◌-◌, ◌*◌, ◌/◌, ◌%◌, Bool, true, ◌&&◌, List, [], ◌∷◌, ◌++◌, Option, Some, None, nat_le, nat_lt}
use Rattle.numbers.specs.Choice.{pick}

-- ---- spelled
abbrev pub digit : ℕ → ℕ
digit d = 48 + d

-- the last digits of a number, at most so many, the most significant first; where all of them fit, no zero stands in front of another digit
unfoldable pub digits : ℕ → ℕ → List ℕ
digits zero n = []
digits (suc most) n = pick (nat_lt n 10) (digit n ∷ []) (digits most (n / 10) ++ (digit (n % 10) ∷ []))

-- all the digits of a number: one of 64 bits has at most 20
unfoldable pub decimal : ℕ → List ℕ
decimal n = digits 20 n

-- ---- read
-- 0 to 9
abbrev pub is_digit : ℕ → Bool
is_digit b = nat_le 48 b && nat_le b 57

-- the number of a digit; of any other byte one above 9, as 32 bits wrap
abbrev pub digit_in : ℕ → ℕ
digit_in b = pick (nat_le 48 b) (b - 48) (b + 4294967248)

-- the number of a digit; of any other byte none
abbrev pub to_digit : ℕ → Option ℕ
to_digit b = pick (is_digit b) (Some (b - 48)) None

unfoldable pub all_digits : List ℕ → Bool
all_digits [] = true
all_digits (b ∷ s) = is_digit b && all_digits s

-- the number in decimal that digits make after a number that is read already
unfoldable pub number_from : ℕ → List ℕ → ℕ
number_from n [] = n
number_from n (b ∷ s) = number_from (n * 10 + (b - 48)) s
