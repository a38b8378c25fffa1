-- The band's ends, by cases on the sign of P: 0 lies in the band, and the ends are no larger than P.
use Prim.Native.Nat.{ℕ}
use mathlib.Core.Path.{◌≡◌}
use mathlib.Core.Bool.{true}
use lib.IntN.{ℤ, pos, neg_ℤ}
use lib.Signed.{lt_z, le_z}
use Rattle.numbers.specs.Range.{Within}
use Rattle.numbers.proofs.Integers.{zarith, neg}
use Rattle.numbers.proofs.Choices.{pick_ind}
use Rattle.group.specs.Steps.{band_of}

module _ (p : ℤ) where
  pub low-zero : le_z (band_of p).low (pos 0) ≡ true
  unfolding band_of
  low-zero = pick_ind (lt_z (pos 0) p) (neg_ℤ p) (pos 0) (λ z. le_z z (pos 0) ≡ true) (λ e. omega (zarith, neg p)) (λ e. omega zarith)

  pub high_zero : le_z (pos 0) (band_of p).high ≡ true
  unfolding band_of
  high_zero = pick_ind (lt_z p (pos 0)) (neg_ℤ p) (pos 0) (λ z. le_z (pos 0) z ≡ true) (λ e. omega (zarith, neg p)) (λ e. omega zarith)

  pub low-within : (b : ℕ) → Within b p → Within b (band_of p).low
  unfolding band_of
  low-within b h = pick_ind (lt_z (pos 0) p) (neg_ℤ p) (pos 0) (Within b) (λ e. omega (zarith, neg p)) (λ e. omega zarith)

  pub high-within : (b : ℕ) → Within b p → Within b (band_of p).high
  unfolding band_of
  high-within b h = pick_ind (lt_z p (pos 0)) (neg_ℤ p) (pos 0) (Within b) (λ e. omega (zarith, neg p)) (λ e. omega zarith)
