-- "The steps", unit by unit.
use Rattle.std.specs.Prelude.{ℕ, ◌+◌, Bool, not, ◌&&◌, ◌||◌, ℤ, pos, neg_ℤ, ◌+ℤ◌, ◌-ℤ◌}
use Rattle.std.specs.Int.Signed.{lt_z}
use Rattle.numbers.specs.Choice.{pick, eq_z}
use Rattle.group.specs.declared.band.Band.{Band}
use Rattle.terms.specs.declared.quantity.Margins.{Margins}
use Rattle.terms.specs.declared.quantity.Direction.{Direction}
use Rattle.terms.specs.declared.quantity.Direction.TheVariants.{Injections, Withdrawals}

-- step 1: an injection above M+ becomes M+, a withdrawal below M- becomes M-; zero is not touched
abbrev pub step1_of : ℤ → Margins → ℤ
step1_of n0 m =
    pick (lt_z (pos 0) n0 && lt_z m.step_up n0) m.step_up
    (pick (lt_z n0 (pos 0) && lt_z n0 m.step_down) m.step_down
    n0)

-- the band for the sum: 0 to -P for a sale, -P to 0 for a purchase, 0 alone when P is 0
unfoldable pub band_of : ℤ → Band
band_of p = record { low = pick (lt_z (pos 0) p) (neg_ℤ p) (pos 0); high = pick (lt_z p (pos 0)) (neg_ℤ p) (pos 0) }

-- how far a sum lies beyond the band: above zero over it, below zero under it, 0 inside and on its ends
unfoldable pub excess_of : Band → ℤ → ℤ
excess_of b s =
    pick (lt_z b.high s) (s -ℤ b.high)
    (pick (lt_z s b.low) (s -ℤ b.low)
    (pos 0))

-- a sum is outside the band
abbrev pub is_outside : Band → ℤ → Bool
is_outside b s = lt_z b.high s || lt_z s b.low

-- above the band injections are cut, below it withdrawals
abbrev pub direction_of : ℤ → Direction
direction_of e = pick (lt_z e (pos 0)) Withdrawals Injections

-- step 2 brings a unit nearer to zero by its cut
abbrev pub nearer_by : Direction → ℤ → ℕ → ℤ
nearer_by Injections n1 cut = n1 -ℤ pos cut
nearer_by Withdrawals n1 cut = n1 +ℤ pos cut

-- step 3: an injection below M- becomes M-, a withdrawal above M+ becomes M+; zero is not stretched
abbrev pub step3_of : ℤ → Margins → ℤ
step3_of n2 m =
    pick (lt_z (pos 0) n2 && lt_z n2 m.step_down) m.step_down
    (pick (lt_z n2 (pos 0) && lt_z m.step_up n2) m.step_up
    n2)

-- the balance, positive for injection
abbrev pub balance_of : ℤ → ℤ → ℤ
balance_of p s3 = neg_ℤ p -ℤ s3

-- the group's verdict: 0 no cut, 1 injections cut, 2 withdrawals cut, by the excess e of S1; plus 4 if S3 is outside the band
abbrev pub cut_verdict : ℤ → ℕ
cut_verdict e = pick (lt_z (pos 0) e) 1 (pick (lt_z e (pos 0)) 2 0)

unfoldable pub verdict_of : Band → ℤ → ℤ → ℕ
verdict_of b e s3 = cut_verdict e + pick (is_outside b s3) 4 0

-- a unit at zero lies outside its margins
abbrev pub zero_outside : ℤ → Margins → Bool
zero_outside n3 m = eq_z n3 (pos 0) && (lt_z (pos 0) m.step_down || lt_z m.step_up (pos 0))

-- a unit's reason, a sum: 1 implicit nomination taken, which is told as the number that it adds; 2 n1 ≠ n0, 4 n2 ≠ n1, 8 n3 ≠ n2, 16 n3 = 0 lies outside the margins
unfoldable pub reason_of : ℕ → ℤ → ℤ → ℤ → ℤ → Margins → ℕ
reason_of taken n0 n1 n2 n3 m =
    taken
    + pick (not (eq_z n1 n0)) 2 0
    + pick (not (eq_z n2 n1)) 4 0
    + pick (not (eq_z n3 n2)) 8 0
    + pick (zero_outside n3 m) 16 0
