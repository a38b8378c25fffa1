-- The reasons that a loop writes beside step 3 are those of the column of step 3; and what is lent of an array of zeros is a column of them.
use Prim.Native.Nat.{ℕ, zero, suc, ◌≤◌, ◌<◌}
use mathlib.Core.Path.{◌≡◌, refl, sym, ap, ◌∙◌}
use mathlib.Core.Bool.{not}
use mathlib.Core.List.{List}
use native.Mathlib.Omega.{arith}
use native.Mathlib.Decide.{dec_lt}
use lib.IntN.{ℤ, pos}
use lib.ListN.{length, get_or, take, replicate, length-replicate}
use lib.Seq.{length-take-le}
use Rattle.numbers.specs.Choice.{eq_z}
use Rattle.numbers.specs.Column.{column, at}
use Rattle.numbers.proofs.Choices.{pick-le}
use Rattle.numbers.proofs.Columns.{column-at, column-past, column-ext, is-column}
use Rattle.group.specs.Steps.{zero_outside, reason_of}
use Rattle.group.specs.Group.{margins_at, step3_all, reasons_all}
use Rattle.group.specs.Inner.{zeros, Explained}
use Rattle.group.proofs.Ranges.{third_at}

-- the reason of the unit of an index
abbrev pub reason_at : List ℕ → List ℤ → List ℤ → List ℤ → List ℤ → List ℤ → ℕ → ℕ
reason_at taken n0 n1 n2 step_down step_up i =
    reason_of (get_or taken i 0) (at n0 i) (at n1 i) (at n2 i) (third_at n2 step_down step_up i) (margins_at step_down step_up i)

module _ {taken : List ℕ} {n0 n1 n2 step_down step_up : List ℤ} (h : Explained taken n0 n1 n2 step_down step_up) where
  pub reasons-end : {n3 : List ℤ} {why : List ℕ} → n3 ≡ step3_all n2 step_down step_up → why ≡ column (length n2) (reason_at taken n0 n1 n2 step_down step_up)
      → why ≡ reasons_all taken n0 n1 n2 n3 step_down step_up
  unfolding reasons_all step3_all
  reasons-end {n3} {why} third e =
      let f = reason_at taken n0 n1 n2 step_down step_up in
      e
      ∙ ap (λ (n : ℕ). column n f) h.seconds
      ∙ column-ext f
      (λ i. reason_of (get_or taken i 0) (at n0 i) (at n1 i) (at n2 i) (at n3 i) (margins_at step_down step_up i))
      (length n0)
      (λ i l. ap (λ (z : ℤ). reason_of (get_or taken i 0) (at n0 i) (at n1 i) (at n2 i) z (margins_at step_down step_up i)) (sym (ap (λ (x : List ℤ). at x i) third ∙ column-at (third_at n2 step_down step_up) (length n2) i (pos 0) (omega arith))))

-- a reason is at most 31, so it fits a byte
module _ (taken : List ℕ) (told : (i : ℕ) → get_or taken i 0 ≤ 1) (n0 n1 n2 n3 step_down step_up : List ℤ) where
  pub reasons-bytes : (i : ℕ) → get_or (reasons_all taken n0 n1 n2 n3 step_down step_up) i 0 < 256
  unfolding reasons_all reason_of
  reasons-bytes i = go (dec_lt i (length n0))
    where
      f : ℕ → ℕ
      f j = reason_of (get_or taken j 0) (at n0 j) (at n1 j) (at n2 j) (at n3 j) (margins_at step_down step_up j)

      small : f i ≤ 31
      small =
          omega (
            arith,
            told i,
            pick-le (not (eq_z (at n1 i) (at n0 i))) 2,
            pick-le (not (eq_z (at n2 i) (at n1 i))) 4,
            pick-le (not (eq_z (at n3 i) (at n2 i))) 8,
            pick-le (zero_outside (at n3 i) (margins_at step_down step_up i)) 16,
          )

      go : Dec (i < length n0) → get_or (column (length n0) f) i 0 < 256
      go (yes l) = omega (arith, column-at f (length n0) i 0 l, small)
      go (no l) = omega (arith, column-past f (length n0) i 0 (omega arith))

-- a lent column of zeros
untold : (n k i : ℕ) → ◌≡◌ {A = ℕ} (get_or (take n (replicate k 0)) i 0) 0
untold zero k i = refl
untold (suc n) zero i = refl
untold (suc n) (suc k) zero = refl
untold (suc n) (suc k) (suc i) = untold n k i

pub zeros-taken : (n k : ℕ) → n ≤ k → take n (replicate k 0) ≡ zeros n
zeros-taken n k l =
    let z : ℕ = 0 in
    is-column (λ _. z) z n (take n (replicate k z)) (length-take-le n (replicate k z) (rw (length-replicate k z) l)) (λ i _. untold n k i)

pub zeros-small : (n i : ℕ) → get_or (zeros n) i 0 ≤ 1
zeros-small n i = go (dec_lt i n)
  where
    go : Dec (i < n) → get_or (zeros n) i 0 ≤ 1
    go (yes l) = omega (arith, column-at {X = ℕ} (λ (_ : ℕ). 0) n i 0 l)
    go (no l) = omega (arith, column-past {X = ℕ} (λ (_ : ℕ). 0) n i 0 (omega arith))
