-- Three decimals, digit by digit, and the semicolon that ends them.
use Prim.Native.Nat.{ℕ, ◌+◌, ◌≤◌}
use mathlib.Core.Path.{◌≡◌, refl}
use mathlib.Core.Bool.{Bool, true, false, ◌&&◌}
use mathlib.Core.List.{List}
use Rattle.std.proofs.Common.{Some, None}
use native.Mathlib.Omega.{arith}
use borrow.Author.Tests.{eqb-true}
use lib.Dec.{eqb}
use lib.ListN.{length}
use Rattle.numbers.specs.Bytes.{byte_at}
use Rattle.numbers.specs.Choice.{pick}
use Rattle.numbers.specs.Decimal.{is_digit, all_digits, number_from}
use Rattle.numbers.proofs.Choices.{and_both}
use Rattle.numbers.proofs.ReadBack.{digit-bounds}
use Rattle.partner.specs.Form.{three_at, has_decimals}
use Rattle.partner.specs.Inner.{decimals_in}
use Rattle.partner.proofs.Ends.{some_byte}

module _ (s : List ℕ) (at : ℕ) where
  pub few : all_digits (three_at s at) ≡ true → number_from 0 (three_at s at) ≤ 999
  unfolding all_digits number_from
  few e =
      let p = and_both (is_digit (byte_at s at)) (is_digit (byte_at s (at + 1)) && (is_digit (byte_at s (at + 2)) && true)) e in
      let q = and_both (is_digit (byte_at s (at + 1))) (is_digit (byte_at s (at + 2)) && true) p.1 in
      let r = and_both (is_digit (byte_at s (at + 2))) true q.1 in
      omega (arith, digit-bounds (byte_at s at) p.0, digit-bounds (byte_at s (at + 1)) q.0, digit-bounds (byte_at s (at + 2)) r.0)

  pub told-wrong : decimals_in s at ≡ None → has_decimals s at ≡ false
  told-wrong = go (all_digits (three_at s at)) (eqb (byte_at s (at + 3)) 59)
    where
      go : (t e : Bool) → pick e (pick t (Some (number_from 0 (three_at s at))) None) None ≡ None → (t && e) ≡ false
      go true true h = cc
      go true false h = refl
      go false e h = refl

  pub told-right : {k : ℕ} → decimals_in s at ≡ Some k → (has_decimals s at ≡ true) × ((number_from 0 (three_at s at) ≡ k) × (k ≤ 999))
  told-right {k} = go (all_digits (three_at s at)) refl (eqb (byte_at s (at + 3)) 59)
    where
      go : (t : Bool) → all_digits (three_at s at) ≡ t → (e : Bool) → pick e (pick t (Some (number_from 0 (three_at s at))) None) None ≡ Some k
          → ((t && e) ≡ true) × ((number_from 0 (three_at s at) ≡ k) × (k ≤ 999))
      go true q true h =
          let v : number_from 0 (three_at s at) ≡ k = cc in
          (refl, (v, omega (arith, few q, v)))
      go true q false h = cc
      go false q true h = cc
      go false q false h = cc

  -- all four bytes are there
  pub decimals-there : has_decimals s at ≡ true → at + 4 ≤ length s
  decimals-there e =
      let b = eqb-true (byte_at s (at + 3)) 59 (and_both (all_digits (three_at s at)) (eqb (byte_at s (at + 3)) 59) e).1 in
      omega (arith, some_byte s (at + 3) (omega arith))
