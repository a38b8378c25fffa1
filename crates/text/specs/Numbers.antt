-- The text form (docs/TEXT.md): a field of a line, and the number that it makes.
use Rattle.std.specs.Prelude.{ℕ, suc, Bool, ◌&&◌, ◌||◌, List, [], ◌∷◌, ℤ, pos, neg_ℤ, Option, Some, None, option_map, leb, ltb, eqb, length, get_or, drop}
use Rattle.numbers.specs.Choice.{pick}
use Rattle.numbers.specs.Decimal.{all_digits, number_from}

-- digits alone, and a number that 32 bits hold
unfoldable pub size_from : ℕ → List ℕ → Option ℕ
size_from n s = pick (all_digits s && leb (number_from n s) 4294967295) (Some (number_from n s)) None

-- what a field's digits come to: there is one at least
unfoldable pub size_of : List ℕ → Option ℕ
size_of s = pick (ltb 0 (length s)) (size_from 0 s) None

-- a space or a tab
abbrev pub is_blank : ℕ → Bool
is_blank b = eqb b 32 || eqb b 9

-- how many blanks stand at the front
unfoldable pub blanks : List ℕ → ℕ
blanks [] = 0
blanks (b ∷ s) = pick (is_blank b) (suc (blanks s)) 0

-- the bytes up to the next blank
unfoldable pub field_of : List ℕ → List ℕ
field_of [] = []
field_of (b ∷ s) = pick (is_blank b) [] (b ∷ field_of s)

-- whether a field starts with '-'
abbrev pub minus : List ℕ → Bool
minus s = eqb (get_or s 0 0) 45

-- a field as a whole number
unfoldable pub number_in : List ℕ → Option ℤ
number_in field =
    pick (minus field) (option_map (λ n. neg_ℤ (pos n)) (size_of (drop 1 field))) (option_map (λ n. pos n) (size_of field))
