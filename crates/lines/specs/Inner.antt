-- What inner functions ask of each other: no promise rests on it.
use Rattle.std.specs.Prelude.{ℕ, ◌+◌, ◌*◌, ◌/◌, ◌%◌, ◌≤◌, ◌≡◌, Bool, ◌&&◌, List, [], ◌∷◌, eqb, length}
use Rattle.numbers.specs.Bytes.{byte_at, be32, signed32, laid_at}
use Rattle.numbers.specs.Column.{column}
use Rattle.numbers.specs.Decimal.{digit}
use Rattle.records.specs.Layouts.{result_count}
use Rattle.terms.specs.Checks.{most_units}
use Rattle.writers.specs.Results.{result_length}
use Rattle.lines.specs.Lines.{signed_decimal, spaced}

-- these bytes, at most so many, are laid from a place on, and r is the place after them
pub record Lays (entry : List ℕ) (at : ℕ) (bytes : List ℕ) (most r : ℕ) (exit : List ℕ) : Type 0 where
  pub room : exit ≡ laid_at entry at bytes
  pub after : r ≡ at + length bytes
  pub few : length bytes ≤ most

-- the result of a group of no more units than a group has lies in these bytes
pub record Readable (result : List ℕ) : Type 0 where
  pub few : byte_at result result_count.place ≤ most_units
  pub long : result_length (byte_at result result_count.place) ≤ length result

-- the two digits of a number below 100 as one number of 16 bits, the first in its low byte, and all of them
abbrev pub pair_of : ℕ → ℕ
pair_of k = digit (k / 10) + digit (k % 10) * 256

unfoldable pub digit_pairs : List ℕ
digit_pairs = column 100 pair_of

-- the next three quantities have the bits of the first
abbrev pub same_from : List ℕ → ℕ → ℕ → Bool
same_from result from first =
    eqb (be32 result (from + 4)) first && (eqb (be32 result (from + 8)) first && eqb (be32 result (from + 12)) first)

-- four quantities, which stand one after another from a place on, a field of each
abbrev pub four_from : List ℕ → ℕ → List ℕ
four_from result from =
    spaced []
    (signed_decimal (signed32 (be32 result from))
    ∷ signed_decimal (signed32 (be32 result (from + 4)))
    ∷ signed_decimal (signed32 (be32 result (from + 8)))
    ∷ signed_decimal (signed32 (be32 result (from + 12)))
    ∷ [])

-- one field four times
abbrev pub four_times : List ℕ → List ℕ
four_times f = spaced [] (f ∷ f ∷ f ∷ f ∷ [])
