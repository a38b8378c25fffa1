-- The excess over a band that holds 0 can be borne by the units of its direction: it is no further from zero than the sum, whose size the units' sizes there reach.
use Prim.Native.Nat.{◌+◌, ◌≤◌, ℕ}
use mathlib.Core.Path.{◌≡◌}
use mathlib.Core.Bool.{true, false}
use mathlib.Core.List.{List}
use native.Mathlib.Omega.{arith}
use lib.IntN.{ℤ, pos, nat_abs, ◌-ℤ◌}
use lib.Signed.{lt_z, le_z}
use Rattle.numbers.specs.Choice.{pick}
use Rattle.numbers.specs.Sum.{sum, sum_z}
use Rattle.numbers.proofs.Integers.{zarith, pp, nn, abs-z, minus, one_side}
use Rattle.numbers.proofs.Choices.{pick_ind}
use Rattle.terms.specs.Quantities.{size_in}
use Rattle.terms.specs.declared.quantity.Standing.TheVariants.{NotEnabled, Enabled}
use Rattle.terms.specs.declared.quantity.Direction.{Direction}
use Rattle.terms.specs.declared.quantity.Direction.TheVariants.{Injections, Withdrawals}
use Rattle.group.specs.Steps.{band_of, excess_of, direction_of}
use Rattle.group.specs.Group.{sizes_of}
use Rattle.group.specs.Inner.{Classed}
use Rattle.group.specs.declared.band.Band.{Band}
use Rattle.group.proofs.Bands.{low-zero, high_zero}
use Rattle.group.proofs.Sides.{size_in-side, both-totals, sum-size}

-- the excess by its three cases
pub excess-ind : (b : Band) (s : ℤ) (P : ℤ → Type 0)
    → (lt_z b.high s ≡ true → P (s -ℤ b.high))
    → (lt_z b.high s ≡ false → lt_z s b.low ≡ true → P (s -ℤ b.low))
    → (lt_z b.high s ≡ false → lt_z s b.low ≡ false → P (pos 0))
    → P (excess_of b s)
unfolding excess_of
excess-ind b s P above below inside =
    pick_ind (lt_z b.high s) (s -ℤ b.high) (pick (lt_z s b.low) (s -ℤ b.low) (pos 0)) P above
    (λ e. pick_ind (lt_z s b.low) (s -ℤ b.low) (pos 0) P (below e) (inside e))

-- m is n, or nearer to zero on its side
pub record Toward (m n : ℤ) : Type 0 where
  pub up : pp m ≤ pp n
  pub down : nn m ≤ nn n

pub excess-toward : (p s : ℤ) → Toward (excess_of (band_of p) s) s
excess-toward p s =
    let l : le_z (band_of p).low (pos 0) ≡ true = low-zero p in
    let h : le_z (pos 0) (band_of p).high ≡ true = high_zero p in
    excess-ind (band_of p) s (λ e. Toward e s)
    (λ a. omega (zarith, minus s (band_of p).high, one_side (s -ℤ (band_of p).high), one_side (band_of p).high, one_side s))
    (λ a b. omega (zarith, minus s (band_of p).low, one_side (s -ℤ (band_of p).low), one_side (band_of p).low, one_side s))
    (λ a b. omega zarith)

-- the excess in its own direction is its whole size
whole-size : (e : ℤ) → nat_abs e ≡ size_in (direction_of e) e
whole-size e =
    pick_ind (lt_z e (pos 0)) Withdrawals Injections (λ d. nat_abs e ≡ size_in d e)
    (λ h. omega (zarith, abs-z e, one_side e, size_in-side Withdrawals e))
    (λ h. omega (zarith, abs-z e, one_side e, size_in-side Injections e))

size-toward : (d : Direction) {m n : ℤ} → Toward m n → size_in d m ≤ size_in d n
size-toward Injections {m} {n} t = omega (arith, size_in-side Injections m, size_in-side Injections n)
size-toward Withdrawals {m} {n} t = omega (arith, size_in-side Withdrawals m, size_in-side Withdrawals n)

-- the units of its direction can bear an excess
abbrev pub Bears : ℤ → List ℤ → List ℕ → Type 0
Bears e n1 class = nat_abs e ≤ sum (sizes_of (direction_of e) NotEnabled n1 class) + sum (sizes_of (direction_of e) Enabled n1 class)

pub bearable : (p : ℤ) (n1 : List ℤ) (class : List ℕ) → Classed n1 class → Bears (excess_of (band_of p) (sum_z n1)) n1 class
bearable p n1 class h =
    let e : ℤ = excess_of (band_of p) (sum_z n1) in
    let d : Direction = direction_of e in
    omega (arith, whole-size e, size-toward d (excess-toward p (sum_z n1)), sum-size d n1, both-totals d h)
