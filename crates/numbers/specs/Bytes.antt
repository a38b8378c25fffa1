-- Numbers in bytes: the most significant byte first, signed ones in two's complement.
use Rattle.std.specs.Prelude.{ℕ, ◌+◌, ◌*◌, ◌/◌, ◌%◌, ◌<◌, List, [], ◌∷◌, ◌++◌, length, take, drop, ℤ, slice_index}
use Rattle.std.specs.Int.{w32}
use Rattle.std.proofs.Common.{to_z, of_z}

-- the byte at a place
abbrev pub byte_at : List ℕ → ℕ → ℕ
byte_at s at = slice_index s at

-- every entry is a byte
abbrev pub Bytes : List ℕ → Type 0
Bytes s = (i : ℕ) → byte_at s i < 256

-- the number of two bytes, and of four
unfoldable pub be16 : List ℕ → ℕ → ℕ
be16 s at = byte_at s at * 256 + byte_at s (at + 1)

unfoldable pub be32 : List ℕ → ℕ → ℕ
be32 s at = be16 s at * 65536 + be16 s (at + 2)

-- the two bytes of a number, and the four
unfoldable pub bytes16 : ℕ → List ℕ
bytes16 x = x / 256 ∷ x % 256 ∷ []

unfoldable pub bytes32 : ℕ → List ℕ
bytes32 x = bytes16 (x / 65536) ++ bytes16 (x % 65536)

-- what 32 bits stand for: x below 2 ^ 31, else x - 2 ^ 32
abbrev pub signed32 : ℕ → ℤ
signed32 x = to_z w32 x

-- the 32 bits of z: z itself where it is not negative, else z + 2 ^ 32
abbrev pub bits32 : ℤ → ℕ
bits32 z = of_z w32 z

-- the list with these bytes stored from a place on
unfoldable pub laid_at : List ℕ → ℕ → List ℕ → List ℕ
laid_at l at bytes = take at l ++ bytes ++ drop (at + length bytes) l
