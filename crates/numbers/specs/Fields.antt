-- Both round trips of a field of a record, the laws of the trait `Field`: what was laid is read back, and what was read is laid as the same bytes.
use Rattle.std.proofs.Common.{◌≡◌, ℕ, suc, ◌+◌, ◌/◌, ◌%◌, ◌≤◌, ◌<◌, ◌^◌, List, [], ◌∷◌, length, get_or, take, drop, refl, ap, ◌∙◌, arith, add-one, drop-cons, ℤ, FitsSigned, w32, to_z, of_z}
use Rattle.std.proofs.Math.Facts.{Fits-lt-pow, Fits-of_z}
use Rattle.std.proofs.lemmas.Int.{to_z-of_z, of_z-to_z}
use Rattle.std.proofs.lemmas.Grind.{common_steps}
use Rattle.numbers.specs.Bytes.{laid_at, byte_at, be16, be32, bytes16, bytes32, signed32, bits32, Bytes}

-- ---- how many bytes
pub length_bytes16 : (x : ℕ) → length (bytes16 x) ≡ 2
unfolding bytes16
length_bytes16 x = refl

pub length_bytes32 : (x : ℕ) → length (bytes32 x) ≡ 4
unfolding bytes32 bytes16
length_bytes32 x = refl

-- ---- what was laid is read back
-- a byte of what was laid
pub laid_byte : (l : List ℕ) (at : ℕ) (a : List ℕ) (i k : ℕ) → k ≡ at + i → at ≤ length l → i < length a → get_or (laid_at l at a) k 0 ≡ get_or a i 0
unfolding laid_at
laid_byte l at a i k e h lt = grind (arith, common_steps)

pub back8 : (x : ℕ) (l : List ℕ) (at : ℕ) → x < 2 ^ 8 → at + 1 ≤ length l → byte_at (laid_at l at (x ∷ [])) at ≡ x
back8 x l at f h = laid_byte l at (x ∷ []) 0 at (omega arith) (omega arith) (omega arith)

pub back16 : (x : ℕ) (l : List ℕ) (at : ℕ) → x < 2 ^ 16 → at + 2 ≤ length l → be16 (laid_at l at (bytes16 x)) at ≡ x
unfolding bytes16 be16
back16 x l at f h =
    let high = laid_byte l at (bytes16 x) 0 at (omega arith) (omega arith) (omega arith) in
    let low = laid_byte l at (bytes16 x) 1 (at + 1) (omega arith) (omega arith) (omega arith) in
    omega (arith, high, low)

pub back32 : (x : ℕ) (l : List ℕ) (at : ℕ) → x < 2 ^ 32 → at + 4 ≤ length l → be32 (laid_at l at (bytes32 x)) at ≡ x
unfolding bytes32 bytes16 be32 be16
back32 x l at f h =
    let b0 = laid_byte l at (bytes32 x) 0 at (omega arith) (omega arith) (omega arith) in
    let b1 = laid_byte l at (bytes32 x) 1 (at + 1) (omega arith) (omega arith) (omega arith) in
    let b2 = laid_byte l at (bytes32 x) 2 (at + 2) (omega arith) (omega arith) (omega arith) in
    let b3 = laid_byte l at (bytes32 x) 3 (at + 2 + 1) (omega arith) (omega arith) (omega arith) in
    omega (arith, b0, b1, b2, b3)

pub back_signed : (z : ℤ) (l : List ℕ) (at : ℕ) → FitsSigned w32 z → at + 4 ≤ length l → signed32 (be32 (laid_at l at (bytes32 (bits32 z))) at) ≡ z
back_signed z l at f h = ap (to_z w32) (back32 (of_z w32 z) l at (Fits-lt-pow (Fits-of_z f)) h) ∙ to_z-of_z w32 z f

-- ---- what was read is laid as the same bytes
take_one : (s : List ℕ) (at k : ℕ) → at < length s → take (suc k) (drop at s) ≡ get_or s at 0 ∷ take k (drop (at + 1) s)
take_one s at k h = rw (add-one, drop-cons s at 0)

pub again8 : (s : List ℕ) (at : ℕ) → Bytes s → at + 1 ≤ length s → byte_at s at ∷ [] ≡ take 1 (drop at s)
again8 s at b h = let l : at < length s = omega arith in rw (take_one s at 0 l)

pub again16 : (s : List ℕ) (at : ℕ) → Bytes s → at + 2 ≤ length s → bytes16 (be16 s at) ≡ take 2 (drop at s)
unfolding bytes16 be16
again16 s at b h =
    let e0 : be16 s at / 256 ≡ byte_at s at = omega (arith, b at, b (at + 1)) in
    let e1 : be16 s at % 256 ≡ byte_at s (at + 1) = omega (arith, b at, b (at + 1)) in
    let l0 : at < length s = omega arith in
    let l1 : at + 1 < length s = omega arith in
    rw (e0, e1, take_one s at 1 l0, take_one s (at + 1) 0 l1)

pub again32 : (s : List ℕ) (at : ℕ) → Bytes s → at + 4 ≤ length s → bytes32 (be32 s at) ≡ take 4 (drop at s)
unfolding bytes32 bytes16 be32 be16
again32 s at b h =
    let e0 : be32 s at / 65536 / 256 ≡ byte_at s at = omega (arith, b at, b (at + 1), b (at + 2), b (at + 2 + 1)) in
    let e1 : be32 s at / 65536 % 256 ≡ byte_at s (at + 1) = omega (arith, b at, b (at + 1), b (at + 2), b (at + 2 + 1)) in
    let e2 : be32 s at % 65536 / 256 ≡ byte_at s (at + 2) = omega (arith, b at, b (at + 1), b (at + 2), b (at + 2 + 1)) in
    let e3 : be32 s at % 65536 % 256 ≡ byte_at s (at + 2 + 1) = omega (arith, b at, b (at + 1), b (at + 2), b (at + 2 + 1)) in
    let l0 : at < length s = omega arith in
    let l1 : at + 1 < length s = omega arith in
    let l2 : at + 1 + 1 < length s = omega arith in
    let l3 : at + 1 + 1 + 1 < length s = omega arith in
    let k2 : at + 1 + 1 ≡ at + 2 = omega arith in
    rw (e0, e1, e2, e3, take_one s at 3 l0, take_one s (at + 1) 2 l1, take_one s (at + 1 + 1) 1 l2, take_one s (at + 1 + 1 + 1) 0 l3, k2)

pub again_signed : (s : List ℕ) (at : ℕ) → Bytes s → at + 4 ≤ length s → bytes32 (bits32 (signed32 (be32 s at))) ≡ take 4 (drop at s)
unfolding be32 be16
again_signed s at b h =
    let small : be32 s at < 2 ^ 32 = omega (arith, b at, b (at + 1), b (at + 2), b (at + 2 + 1)) in
    ap bytes32 (of_z-to_z w32 (be32 s at) small) ∙ again32 s at b h
