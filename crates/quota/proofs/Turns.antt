-- Each turn of `marks_into` takes off no more than is left: the whole parts so far and what is left make up C.
use Prim.Native.Nat.{ℕ, ◌+◌, ◌-◌, ◌*◌, ◌/◌, ◌%◌, ◌≤◌, ◌<◌}
use mathlib.Core.Path.{◌≡◌, refl, ◌∙◌, ap, ap₂}
use mathlib.Core.List.{List}
use native.Mathlib.Omega.{arith}
use lib.ListN.{length, get_or, set}
use Rattle.numbers.specs.Sum.{sum_to}
use Rattle.numbers.proofs.Filling.{Filled, filled-start, filled_next, filled-turn, filled-end}
use Rattle.numbers.proofs.Sums.{sum_to-one, sum_to-mono}
use Rattle.quota.specs.Quota.{whole, rest, still}
use Rattle.quota.specs.Inner.{Sharing, mark_by, mark, marks_of}
use Rattle.quota.specs.declared.ratio.Ratio.{Ratio}
use Rattle.quota.proofs.Shares.{wholes-le}
use Rattle.quota.proofs.Marks.{cut-within, total-pos}

-- after i turns: the marks of i units before the sizes of the others, and what is left of C
pub record Marking (s : List ℕ) (c : ℕ) (sizes : List ℕ) (left i : ℕ) : Type 0 where
  pub places : Filled (mark s c) (length s) s sizes i
  pub taken : left + sum_to i (whole s c) ≡ c

pub marking-start : (s : List ℕ) (c : ℕ) → Marking s c s c 0
unfolding sum_to
marking-start s c = record { places = filled-start (mark s c) (length s) s; taken = omega arith }

module _ {s sizes : List ℕ} {r : Ratio} {left i : ℕ} (a : Sharing s r) (h : Marking s r.c sizes left i) where
  abbrev c : ℕ
  c = r.c

  -- the size that is read is as it was
  module _ (l : i < length s) where
    pub size_is : get_or sizes i 0 ≡ get_or s i 0
    size_is = filled_next h.places refl 0 l

    module _ (w x : ℕ) (w-is : w ≡ c * get_or sizes i 0 / r.t) (x-is : x ≡ c * get_or sizes i 0 % r.t) where
      w-whole : w ≡ whole s c i
      unfolding whole
      w-whole = w-is ∙ ap₂ (λ (n t : ℕ). c * n / t) size_is a.total

      x-rest : x ≡ rest s c i
      unfolding rest
      x-rest = x-is ∙ ap₂ (λ (n t : ℕ). c * n % t) size_is a.total

      -- no more is taken off than is left
      pub whole-left : w ≤ left
      whole-left =
          omega (arith, h.taken, w-whole, sum_to-one i (whole s c), sum_to-mono (i + 1) (length s) (whole s c) (omega arith), wholes-le s c (total-pos a) (cut-within a))

      pub marking-turn : Marking s c (set sizes i (mark_by w x)) (left - w) (i + 1)
      marking-turn =
          record {
            places = filled-turn h.places refl 0 (ap₂ mark_by w-whole x-rest) l;
            taken = omega (arith, h.taken, whole-left, w-whole, sum_to-one i (whole s c));
          }

  pub marking-end : length s ≤ i → (left ≡ still s c) × (sizes ≡ marks_of s c)
  unfolding still marks_of
  marking-end full =
      let e : i ≡ length s = omega (arith, h.places.some) in
      (omega (arith, h.taken, ap (λ (n : ℕ). sum_to n (whole s c)) e), filled-end h.places refl full)
