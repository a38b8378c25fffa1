-- Bytes that stand at a place of a text: run behind run, and one by one.
use Prim.Native.Nat.{ℕ, ◌+◌, ◌≤◌}
use mathlib.Core.Path.{◌≡◌, refl, sym, ◌∙◌}
use mathlib.Core.List.{List, [], ◌∷◌, ◌++◌, append_assoc}
use native.Mathlib.Omega.{arith}
use native.Mathlib.Numerals.{add-one}
use lib.ListN.{length, drop, length-append}
use lib.Seq.{drop-append_seam, drop-drop, drop-cons, get_or-drop, get_or_at}
use Rattle.numbers.specs.Bytes.{byte_at}
use Rattle.partner.proofs.Ends.{some_byte}

-- these bytes stand from a place on, and end is the place after them
pub record Spelled (s : List ℕ) (at : ℕ) (bytes : List ℕ) (end : ℕ) : Type 0 where
  pub so : drop at s ≡ bytes ++ drop end s
  pub ends : end ≡ at + length bytes

module _ (s : List ℕ) where
  pub stand : (at : ℕ) (bytes rest : List ℕ) → drop at s ≡ bytes ++ rest → drop (at + length bytes) s ≡ rest
  stand at bytes rest e = sym (drop-drop (length bytes) at s) ∙ rw e (drop-append_seam bytes rest)

  pub spelled : (at : ℕ) (bytes rest : List ℕ) → drop at s ≡ bytes ++ rest → Spelled s at bytes (at + length bytes)
  spelled at bytes rest e = record { so = rw (stand at bytes rest e) e; ends = refl }

  -- one run of bytes behind another
  pub both : {at mid end : ℕ} {xs ys : List ℕ} → Spelled s at xs mid → Spelled s mid ys end → Spelled s at (xs ++ ys) end
  both {at} {mid} {end} {xs} {ys} p q =
      record { so = p.so ∙ rw q.so (sym (append_assoc xs ys (drop end s))); ends = rw (length-append xs ys) (omega arith) }

  module _ {at end : ℕ} (xs ys : List ℕ) (p : Spelled s at (xs ++ ys) end) where
    parted : drop at s ≡ xs ++ (ys ++ drop end s)
    parted = p.so ∙ append_assoc xs ys (drop end s)

    pub front : Spelled s at xs (at + length xs)
    front = spelled at xs (ys ++ drop end s) parted

    pub back : Spelled s (at + length xs) ys end
    back = record { so = stand at xs (ys ++ drop end s) parted; ends = omega (arith, length-append xs ys) }

  -- at the front of the text
  pub parts : {end : ℕ} (xs ys : List ℕ) → Spelled s 0 (xs ++ ys) end → Spelled s 0 xs (length xs) × Spelled s (length xs) ys end
  parts xs ys p =
      let z : 0 + length xs ≡ length xs = omega arith in
      (rw z at (front xs ys p), rw z at (back xs ys p))

  -- a byte by its place
  pub place : (at k : ℕ) {l : List ℕ} → drop at s ≡ l → byte_at s (at + k) ≡ byte_at l k
  place at k e = rw (← e) (sym (get_or-drop at s k 0))

  pub byte : {at end : ℕ} (xs : List ℕ) (b : ℕ) (ys : List ℕ) → Spelled s at (xs ++ b ∷ ys) end → byte_at s (at + length xs) ≡ b
  byte {at} {end} xs b ys p =
      place at (length xs) (p.so ∙ append_assoc xs (b ∷ ys) (drop end s)) ∙ get_or_at xs b (ys ++ drop end s) 0 (length xs) refl

  pub one : (at end : ℕ) → end ≡ at + 1 → 1 ≤ byte_at s at → Spelled s at (byte_at s at ∷ []) end
  one at end e h = record { so = rw (e, add-one at) (drop-cons s at 0 (some_byte s at h)); ends = e }

pub whole : (bytes rest : List ℕ) → Spelled (bytes ++ rest) 0 bytes (length bytes)
whole bytes rest = record { so = rw (drop-append_seam bytes rest); ends = omega arith }
