-- The last of rising starts that is no later than a number is the one between whose start and the next the number lies.
use Prim.Native.Nat.{ℕ, zero, suc, ◌+◌, ◌-◌, ◌≤◌, ◌<◌}
use mathlib.Core.Path.{◌≡◌}
use Rattle.std.proofs.Common.{rules, tests}
use Rattle.std.proofs.lemmas.Bool.Decides.{nat_tests}
use native.Mathlib.Nat.{add-zero, add-suc}
use native.Mathlib.Omega.{arith}
use Rattle.calendar.specs.Calendar.{last_begun}

-- the number lies from a start up to the next one
pub record Between (start : ℕ → ℕ) (n k : ℕ) : Type 0 where
  pub low : start k ≤ n
  pub high : n < start (suc k)

module _ (start : ℕ → ℕ) (n : ℕ) where
  pub begun-le : (k : ℕ) → last_begun start n k ≤ k
  unfolding last_begun
  begun-le zero = omega arith
  begun-le (suc k) =
      let r = begun-le k in
      search rules

  pub begun : (k : ℕ) → start 0 ≤ n → n < start (suc k) → Between start n (last_begun start n k)
  unfolding last_begun
  begun zero l h = record { low = l; high = h }
  begun (suc k) l h =
      let r = begun k l in
      search (rules, tests)

module _ (start : ℕ → ℕ) (rises : (a : ℕ) → start a ≤ start (suc a)) where
  pub rise : (a d : ℕ) → start a ≤ start (a + d)
  rise a zero = simp add-zero (omega arith)
  rise a (suc d) = simp add-suc (omega (arith, rise a d, rises (a + d)))

  pub rise-to : (a b : ℕ) → a ≤ b → start a ≤ start b
  rise-to a b h =
      let e : a + (b - a) ≡ b = omega arith in
      rw e at (rise a (b - a))

  pub is-begun : (n j k : ℕ) → j ≤ k → Between start n j → last_begun start n k ≡ j
  unfolding last_begun
  is-begun n j zero h b = omega arith
  is-begun n j (suc k) h b =
      let r = is-begun n j k in
      let g = rise-to (suc j) (suc k) in
      grind (arith, nat_tests)
