-- Units that lie one after another: the place of one by its index, from wherever the counting starts.
use Prim.Native.Nat.{ℕ, zero, suc, ◌≤◌, ◌<◌}
use mathlib.Core.Path.{◌≡◌, refl, ap}
use mathlib.Core.List.{List}
use native.Mathlib.Omega.{arith}
use native.Mathlib.Decide.{dec_lt}
use Rattle.records.specs.Reading.{unit_end, place_from}
use Rattle.records.proofs.UnitHeads.{unit-past}

module _ (s : List ℕ) (at : ℕ) where
  -- counted from the second unit on, or from the first
  pub place-later : (i : ℕ) → place_from s (unit_end s at) i ≡ place_from s at (suc i)
  unfolding place_from
  place-later zero = refl
  place-later (suc i) = ap (unit_end s) (place-later i)

  -- places rise
  pub place_up : (i j : ℕ) → i ≤ j → place_from s at i ≤ place_from s at j
  unfolding place_from
  place_up i zero h =
      let e : i ≡ zero = omega arith in
      rw e (omega arith)
  place_up i (suc j) h = go (place_up i j) (dec_lt j i)
    where
      go : (i ≤ j → place_from s at i ≤ place_from s at j) → Dec (j < i) → place_from s at i ≤ place_from s at (suc j)
      go before (yes l) =
          let e : i ≡ suc j = omega arith in
          rw e (omega arith)
      go before (no l) = omega (arith, before (omega arith), unit-past s (place_from s at j))

  pub place-from : (i : ℕ) → at ≤ place_from s at i
  unfolding place_from
  place-from i = place_up zero i (omega arith)
