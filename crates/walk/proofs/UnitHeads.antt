-- The heads of units one after another are a reading by steps, which the first refusal ends; those that were all read lie within the bytes.
use Prim.Native.Nat.{ℕ, zero, suc, ◌+◌, ◌-◌, ◌≤◌, ◌<◌}
use mathlib.Core.Path.{◌≡◌}
use mathlib.Core.Bool.{true}
use mathlib.Core.List.{List}
use native.Mathlib.Omega.{arith}
use lib.ListN.{length}
use Rattle.terms.specs.Reply.{is, next}
use Rattle.terms.proofs.Replies.{need-is, next-is}
use Rattle.records.specs.Layouts.{group_length, group_at}
use Rattle.terms.specs.Checks.{unit_count}
use Rattle.records.specs.Reading.{unit_head_of}
use Rattle.records.proofs.UnitHeads.{unit-past, read-end, read-long}
use Rattle.walk.specs.Walk.{heads_of, block_end_of}

-- one unit more of those that are left, and none
pub heads_more : (s : List ℕ) (at n i : ℕ) → i < n → heads_of s at (n - i) ≡ next (unit_head_of s at) (λ end. heads_of s end (n - (i + 1)))
unfolding heads_of
heads_more s at n i h =
    let e : n - i ≡ suc (n - (i + 1)) = omega arith in
    rw e

pub heads_none : (s : List ℕ) (at n i : ℕ) → n ≤ i → heads_of s at (n - i) ≡ is at
unfolding heads_of
heads_none s at n i h =
    let e : n - i ≡ 0 = omega arith in
    rw e

-- heads that were all read lie one after another within the bytes
pub record Run (s : List ℕ) (at end : ℕ) : Type 0 where
  pub onward : at ≤ end
  pub within : end ≤ length s

pub heads-lie : (s : List ℕ) (at count : ℕ) {end : ℕ} → at ≤ length s → heads_of s at count ≡ is end → Run s at end
unfolding heads_of
heads-lie s at zero {end} h e =
    let q : at ≡ end = cc in
    record { onward = omega arith; within = omega arith }
heads-lie s at (suc count) {end} h e =
    let a = next-is (unit_head_of s at) (λ end. heads_of s end count) e in
    let q = read-end s at a.1.0 in
    let r = heads-lie s a.0 count (omega (arith, read-long s at a.1.0)) a.1.1 in
    record { onward = omega (arith, unit-past s at, r.onward); within = r.within }

-- a block that was read has a count that passed, and the heads of its units
pub block-is : (s : List ℕ) (at : ℕ) {end : ℕ} → block_end_of s at ≡ is end
    → (unit_count (group_at s at).count ≡ true) × (heads_of s (at + group_length) (group_at s at).count ≡ is end)
unfolding block_end_of
block-is s at e = need-is _ _ _ _ e

pub block_run : (s : List ℕ) (at : ℕ) {end : ℕ} → at + group_length ≤ length s → block_end_of s at ≡ is end → Run s (at + group_length) end
block_run s at h e = heads-lie s (at + group_length) (group_at s at).count h (block-is s at e).1
