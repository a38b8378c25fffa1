-- Loops that fill a column place by place and keep the sum of what they fill, at the start, after a turn and at the end.
use Rattle.std.proofs.Common.{◌≡◌, ℕ, zero, suc, ◌+◌, ◌*◌, ◌≤◌, ◌<◌, List, length, set, ℤ, pos, ◌+ℤ◌, refl, arith, w32, SFits}
use native.Mathlib.Numerals.{add-one}
use Rattle.numbers.specs.Range.{Within}
use Rattle.numbers.specs.Column.{column}
use Rattle.numbers.specs.Sum.{sum_z}
use Rattle.numbers.proofs.Integers.{zarith, plus}
use Rattle.numbers.proofs.Filling.{Filled, filled-start, filled-turn, filled-end}
use Rattle.numbers.proofs.Sums.{sum_z-column}

-- the first i places of a lent column are filled by f, and s is the sum of them
pub record Run (f : ℕ → ℤ) (n : ℕ) (l m : List ℤ) (s : ℤ) (i : ℕ) : Type 0 where
  pub places : Filled f n l m i
  pub sum : s ≡ sum_z (column i f)

pub run-start : (f : ℕ → ℤ) (n : ℕ) (l : List ℤ) → Run f n l l (pos 0) 0
unfolding sum_z column
run-start f n l = record { places = filled-start f n l; sum = refl }

module _ (f : ℕ → ℤ) (small : (k : ℕ) → Within 1000000 (f k)) where
  run-within : (i : ℕ) → Within (i * 1000000) (sum_z (column i f))
  unfolding sum_z column
  run-within zero = omega zarith
  run-within (suc i) = rw (sum_z-column f i) (omega (zarith, run-within i, small i, plus (sum_z (column i f)) (f i)))

module _ {f : ℕ → ℤ} {n : ℕ} {l m : List ℤ} {s : ℤ} {i : ℕ} (small : (k : ℕ) → Within 1000000 (f k)) (few : n ≤ 64) (h : Run f n l m s i) where
  pub run-adds : {v : ℤ} → v ≡ f i → i < n → SFits w32 (s +ℤ v)
  run-adds e t = rw (h.sum, e) (omega (zarith, run-within f small i, small i, plus (sum_z (column i f)) (f i)))

  pub run-turn : {v : ℤ} → v ≡ f i → i < n → length l ≡ n → Run f n l (set m i v) (s +ℤ v) (i + 1)
  run-turn e t lent = record { places = filled-turn h.places lent (pos 0) e t; sum = rw (h.sum, e, add-one i, sum_z-column f i) }

  pub run_end : n ≤ i → length l ≡ n → (s ≡ sum_z (column n f)) × (m ≡ column n f)
  run_end t lent =
      let e : i ≡ n = omega (arith, h.places.some) in
      (rw e at h.sum, filled-end h.places lent t)
