-- Both round trips between numbers and bytes: what was laid reads back, and what was read is laid as the same bytes.
use Rattle.std.proofs.Common.{◌≡◌, ℕ, ◌+◌, ◌*◌, ◌/◌, ◌%◌, ◌<◌, List, [], ◌∷◌, ℤ, arith, to_z-of_z, w32, Fits, SFits}
use mir.Facts.{of_z-to_z}
use Rattle.numbers.specs.Bytes.{byte_at, Bytes, be16, be32, bytes16, bytes32, signed32, bits32}

pub back16 : (x : ℕ) → x / 256 * 256 + x % 256 ≡ x
back16 x = omega arith

pub back32 : (x : ℕ) → x / 65536 * 65536 + x % 65536 ≡ x
back32 x = omega arith

module _ (s : List ℕ) (small : Bytes s) where
  pub again16 : (at : ℕ) → bytes16 (be16 s at) ≡ byte_at s at ∷ byte_at s (at + 1) ∷ []
  unfolding bytes16 be16
  again16 at =
      let a = small at in
      let b = small (at + 1) in
      let h : (byte_at s at * 256 + byte_at s (at + 1)) / 256 ≡ byte_at s at = omega arith in
      let l : (byte_at s at * 256 + byte_at s (at + 1)) % 256 ≡ byte_at s (at + 1) = omega arith in
      rw (h, l)

  pub below16 : (at : ℕ) → be16 s at < 65536
  unfolding be16
  below16 at = omega (arith, small at, small (at + 1))

  pub below32 : (at : ℕ) → be32 s at < 4294967296
  unfolding be32
  below32 at = omega (arith, below16 at, below16 (at + 2))

  pub again32 : (at : ℕ) → bytes32 (be32 s at) ≡ byte_at s at ∷ byte_at s (at + 1) ∷ byte_at s (at + 2) ∷ byte_at s (at + 2 + 1) ∷ []
  unfolding bytes32 be32
  again32 at =
      let a = below16 at in
      let b = below16 (at + 2) in
      let h : (be16 s at * 65536 + be16 s (at + 2)) / 65536 ≡ be16 s at = omega arith in
      let l : (be16 s at * 65536 + be16 s (at + 2)) % 65536 ≡ be16 s (at + 2) = omega arith in
      rw (h, l, again16 at, again16 (at + 2))

-- two's complement
pub signed-bits : (z : ℤ) → SFits w32 z → signed32 (bits32 z) ≡ z
signed-bits z f = to_z-of_z f

pub bits-signed : (x : ℕ) → Fits w32 x → bits32 (signed32 x) ≡ x
bits-signed x f = of_z-to_z f
