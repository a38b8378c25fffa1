-- Four quantities with the same bits are one field four times: each test that holds is an equation.
use Prim.Native.Nat.{ℕ, ◌+◌, ◌≤◌, ◌<◌}
use mathlib.Core.Path.{◌≡◌, sym, ap, ◌∙◌}
use mathlib.Core.Bool.{true, ◌&&◌}
use mathlib.Core.List.{List}
use borrow.Author.Tests.{eqb-true}
use lib.Dec.{eqb}
use lib.ListN.{take, drop}
use native.Mathlib.Omega.{arith}
use Rattle.std.proofs.lemmas.Simd.{get_or-chunk}
use Rattle.numbers.specs.Bytes.{byte_at, be16, be32, signed32}
use Rattle.numbers.proofs.Choices.{and_both}
use Rattle.lines.specs.Lines.{signed_decimal}
use Rattle.lines.specs.Inner.{same_from, four_from, four_times}

abbrev quantity : ℕ → List ℕ
quantity bits = signed_decimal (signed32 bits)

pub one_number : (result : List ℕ) (from first : ℕ) {f : List ℕ} → first ≡ be32 result from → same_from result from first ≡ true → signed_decimal (signed32 first) ≡ f
    → four_from result from ≡ four_times f
one_number result from first {f} e same digits =
    let front = and_both (eqb (be32 result (from + 4)) first) (eqb (be32 result (from + 8)) first && eqb (be32 result (from + 12)) first) same in
    let back = and_both (eqb (be32 result (from + 8)) first) (eqb (be32 result (from + 12)) first) front.1 in
    let a : quantity (be32 result from) ≡ f = ap quantity (sym e) ∙ digits in
    let b : quantity (be32 result (from + 4)) ≡ f = ap quantity (eqb-true (be32 result (from + 4)) first front.0) ∙ digits in
    let c : quantity (be32 result (from + 8)) ≡ f = ap quantity (eqb-true (be32 result (from + 8)) first back.0) ∙ digits in
    let d : quantity (be32 result (from + 12)) ≡ f = ap quantity (eqb-true (be32 result (from + 12)) first back.1) ∙ digits in
    rw (a, b, c, d)

-- the quantities in a part of the result are those that stand there
module _ (result : List ℕ) (from : ℕ) {part : List ℕ} (e : part ≡ take 16 (drop from result)) where
  same_byte : (k : ℕ) → k < 16 → byte_at part k ≡ byte_at result (from + k)
  same_byte k h = ap (λ (l : List ℕ). byte_at l k) e ∙ get_or-chunk from 16 result k 0 h

  same_bits : (k : ℕ) → k + 4 ≤ 16 → be32 part k ≡ be32 result (from + k)
  unfolding be32 be16
  same_bits k h =
      let b : from + k + 1 ≡ from + (k + 1) = omega arith in
      let c : from + k + 2 ≡ from + (k + 2) = omega arith in
      let d : from + (k + 2) + 1 ≡ from + (k + 2 + 1) = omega arith in
      rw (b, c, d, same_byte k (omega arith), same_byte (k + 1) (omega arith), same_byte (k + 2) (omega arith), same_byte (k + 2 + 1) (omega arith))

  pub in_part : four_from part 0 ≡ four_from result from
  in_part =
      let z : from + 0 ≡ from = omega arith in
      rw (same_bits 0 (omega arith), same_bits 4 (omega arith), same_bits 8 (omega arith), same_bits 12 (omega arith), z)
