-- "The first refused field ends the reading", as a law: the whole of a reading by steps is what is left of it from each step on, so a loop carries one equation.
use Prim.Native.Nat.{ℕ, zero, suc, ◌+◌, ◌-◌, ◌≤◌, ◌<◌}
use mathlib.Core.Path.{◌≡◌, sym, ap, ◌∙◌}
use native.Mathlib.Omega.{arith}
use Rattle.terms.specs.Reply.{Reply, is, refused, next}

-- a reading by steps: each gives a value, by which it goes onward, or refuses; after the last it tells where it came to
pub record Steps {S X A : Type 0} (step : S → Reply X) (onward : S → X → S) (told : S → A) (reading : S → ℕ → Reply A) : Type 0 where
  pub none : (here : S) → reading here zero ≡ is (told here)
  pub more : (here : S) (left : ℕ) → reading here (suc left) ≡ next (step here) (λ x. reading (onward here x) left)

-- a loop that took i of count steps stands here
pub record Left {S A : Type 0} (reading : S → ℕ → Reply A) (total : Reply A) (count i : ℕ) (here : S) : Type 0 where
  pub within : i ≤ count
  pub so : total ≡ reading here (count - i)

module _ {S X A : Type 0} {step : S → Reply X} {onward : S → X → S} {told : S → A} {reading : S → ℕ → Reply A} (steps : Steps step onward told reading) where
  pub start : (count : ℕ) (here : S) → Left reading (reading here count) count 0 here
  start count here =
      let all : count - 0 ≡ count = omega arith in
      record { within = omega arith; so = rw all }

  module _ {total : Reply A} (count i : ℕ) {here : S} (l : Left reading total count i here) where
    one : i < count → total ≡ next (step here) (λ x. reading (onward here x) (count - (i + 1)))
    one h =
        let left : count - i ≡ suc (count - (i + 1)) = omega arith in
        l.so ∙ ap (reading here) left ∙ steps.more here (count - (i + 1))

    -- a step that gave a value
    pub turn : {x : X} → i < count → step here ≡ is x → Left reading total count (i + 1) (onward here x)
    unfolding next
    turn h e = record { within = omega arith; so = one h ∙ rw e }

    -- a step that refused
    pub stop : {n p : ℕ} → i < count → step here ≡ refused n p → refused n p ≡ total
    unfolding next
    stop h e = sym (one h ∙ rw e)

    -- no step left
    pub end : count ≤ i → is (told here) ≡ total
    end h =
        let none : count - i ≡ 0 = omega arith in
        sym (l.so ∙ ap (reading here) none ∙ steps.none here)
