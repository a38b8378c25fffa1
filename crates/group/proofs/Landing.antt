-- S2 is S1 less its excess, and so S1 inside the band and its end outside: bringing each unit nearer to zero brings the sum so much nearer.
use Prim.Native.Nat.{ℕ, zero, suc, ◌+◌}
use mathlib.Core.Path.{◌≡◌, sym, ◌∙◌, ap, ap₂}
use mathlib.Core.Bool.{true, false}
use mathlib.Core.List.{List}
use lib.IntN.{ℤ, pos, nat_abs, ◌+ℤ◌, ◌-ℤ◌}
use lib.ListN.{length}
use lib.Signed.{lt_z}
use Rattle.numbers.specs.Column.{column, at}
use Rattle.numbers.specs.Sum.{sum_z, sum_to}
use Rattle.numbers.proofs.Integers.{zarith, plus, minus, abs-z, one_side}
use Rattle.numbers.proofs.Choices.{pick_ind}
use Rattle.numbers.proofs.Columns.{column-self}
use Rattle.numbers.proofs.Sums.{sum_z-column}
use Rattle.terms.specs.declared.quantity.Direction.{Direction}
use Rattle.terms.specs.declared.quantity.Direction.TheVariants.{Injections, Withdrawals}
use Rattle.group.specs.Steps.{band_of, excess_of, direction_of, nearer_by}
use Rattle.group.specs.Group.{taken_off, step2_all}
use Rattle.group.specs.Inner.{Classed, loss_at}
use Rattle.group.specs.declared.band.Band.{Band}
use Rattle.group.proofs.Bands.{low-zero, high_zero}
use Rattle.group.proofs.Bearing.{Bears, excess-ind}
use Rattle.group.proofs.Cuts.{nearer-none, losses}

nearer-plus : (d : Direction) (a b : ℤ) (m n : ℕ) → nearer_by d a m +ℤ nearer_by d b n ≡ nearer_by d (a +ℤ b) (m + n)
nearer-plus Injections a b m n =
    omega (zarith, minus a (pos m), minus b (pos n), plus (a -ℤ pos m) (b -ℤ pos n), plus a b, minus (a +ℤ b) (pos (m + n)))
nearer-plus Withdrawals a b m n =
    omega (zarith, plus a (pos m), plus b (pos n), plus (a +ℤ pos m) (b +ℤ pos n), plus a b, plus (a +ℤ b) (pos (m + n)))

sum-nearer : (d : Direction) (f : ℕ → ℤ) (c : ℕ → ℕ) (n : ℕ) → sum_z (column n (λ i. nearer_by d (f i) (c i))) ≡ nearer_by d (sum_z (column n f)) (sum_to n c)
unfolding sum_z column sum_to
sum-nearer d f c zero = sym (nearer-none d)
sum-nearer d f c (suc n) =
    rw (sum_z-column f n, sum_z-column (λ i. nearer_by d (f i) (c i)) n, sum-nearer d f c n) (nearer-plus d (sum_z (column n f)) (f n) (sum_to n c) (c n))

-- brought nearer by its size in its direction, that is less it
less : (e s : ℤ) → nearer_by (direction_of e) s (nat_abs e) ≡ s -ℤ e
less e s =
    pick_ind (lt_z e (pos 0)) Withdrawals Injections (λ d. nearer_by d s (nat_abs e) ≡ s -ℤ e)
    (λ h. omega (zarith, minus s e, plus s (pos (nat_abs e)), abs-z e, one_side e))
    (λ h. omega (zarith, minus s e, minus s (pos (nat_abs e)), abs-z e, one_side e))

pub sum_less : (e : ℤ) (n1 : List ℤ) (class : List ℕ) → Bears e n1 class → Classed n1 class → sum_z (step2_all e n1 class) ≡ sum_z n1 -ℤ e
unfolding step2_all taken_off
sum_less e n1 class bears classed =
    sum-nearer (direction_of e) (at n1) (loss_at e n1 class) (length n1)
    ∙ ap₂ (nearer_by (direction_of e)) (ap sum_z (sym (column-self (pos 0) n1))) (losses e n1 class bears classed)
    ∙ less e (sum_z n1)

-- m is where a sum s comes to stand by a band: at its end outside, at itself inside
pub record Landed (b : Band) (s m : ℤ) : Type 0 where
  pub above : lt_z b.high s ≡ true → m ≡ b.high
  pub below : lt_z s b.low ≡ true → m ≡ b.low
  pub inside : lt_z b.high s ≡ false → lt_z s b.low ≡ false → m ≡ s

pub landed : (p s : ℤ) → Landed (band_of p) s (s -ℤ excess_of (band_of p) s)
landed p s =
    let low : ℤ = (band_of p).low in
    let high : ℤ = (band_of p).high in
    excess-ind (band_of p) s (λ e. Landed (band_of p) s (s -ℤ e))
    (λ a. omega (zarith, minus s high, minus s (s -ℤ high), low-zero p, high_zero p))
    (λ a b. omega (zarith, minus s low, minus s (s -ℤ low), low-zero p, high_zero p))
    (λ a b. omega (zarith, minus s (pos 0)))
