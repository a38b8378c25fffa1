-- The checks of units one after another are a reading by steps, which the first fault ends; one that comes to its end met no fault.
use Rattle.std.specs.Prelude.{Result, Ok, Err}
use Prim.Native.Nat.{ℕ, zero, suc, ◌+◌, ◌≤◌, ◌<◌}
use mathlib.Core.Path.{◌≡◌, refl, ap, ◌∙◌}
use native.Mathlib.Omega.{arith}
use native.Mathlib.Numerals.{add-one}
use native.Mathlib.Decide.{dec_lt}
use Rattle.terms.specs.Reply.{Reply, is, refused, next}
use Rattle.terms.specs.Refusals.{number_of, why_of, passed, first_fault}
use Rattle.terms.specs.declared.refusal.Fault.{Fault}
use Rattle.terms.proofs.Replies.{never}
use Rattle.terms.proofs.FirstRefused.{Steps}

module _ (checks : ℕ → Result Unit Fault) where
  -- each unit's check is a step
  abbrev step : ℕ → Reply ℕ
  step i = passed (λ _. i) (checks i) (is i)

  pub scan_steps : Steps step (λ i _. i + 1) (λ i. i) (first_fault checks)
  unfolding first_fault passed next
  scan_steps = record { none = λ i. refl; more = λ i left. rw (add-one i) (passed-next i (checks i) _) }
    where
      passed-next : (i : ℕ) (c : Result Unit Fault) (rest : Reply ℕ) → passed (λ _. i) c rest ≡ next (passed (λ _. i) c (is i)) (λ _. rest)
      passed-next i (Ok tt) rest = refl
      passed-next i (Err fault) rest = refl

  pub step-on : {i : ℕ} → checks i ≡ Ok tt → step i ≡ is i
  unfolding passed
  step-on e = rw e

  pub step-out : {i : ℕ} {fault : Fault} → checks i ≡ Err fault → step i ≡ refused (number_of (why_of fault)) i
  unfolding passed
  step-out e = rw e

-- a reading behind checks that was not refused passed them
pub passed_is : {A : Type 0} (place : Fault → ℕ) (c : Result Unit Fault) (rest : Reply A) {a : A} → passed place c rest ≡ is a → (c ≡ Ok tt) × (rest ≡ is a)
unfolding passed
passed_is place (Ok tt) rest e = (refl, e)
passed_is place (Err fault) rest e = never e

-- units that were all counted have no fault
pub all-fine : (checks : ℕ → Result Unit Fault) (i left : ℕ) {n : ℕ} → first_fault checks i left ≡ is n → (k : ℕ) → i ≤ k → k < i + left → checks k ≡ Ok tt
unfolding first_fault
all-fine checks i zero e k l m = absurd (omega arith)
all-fine checks i (suc left) e k l m =
    let p = passed_is (λ _. i) (checks i) (first_fault checks (suc i) left) e in
    go (dec_lt i k) p.0 (all-fine checks (suc i) left p.1 k)
  where
    go : Dec (i < k) → checks i ≡ Ok tt → (suc i ≤ k → k < suc i + left → checks k ≡ Ok tt) → checks k ≡ Ok tt
    go (yes h) here later = later h (omega arith)
    go (no h) here later =
        let q : k ≡ i = omega arith in
        ap checks q ∙ here
