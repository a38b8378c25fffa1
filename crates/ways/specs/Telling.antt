-- What is told of a call to a test: numbers, of which the first is its refusal's, or 0 where it was accepted.
use Rattle.std.specs.Prelude.{ℕ, ◌≤◌, List, [], ◌∷◌}

abbrev pub first : List ℕ → ℕ
first [] = 0
first (n ∷ _) = n

-- a reply has one byte for the first number
abbrev pub Told : List ℕ → Type 0
Told numbers = first numbers ≤ 255
