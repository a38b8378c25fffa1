-- Demand 3 of every group that is not refused (`Accepting.accepted`): the laws of `Cuts`, `Landing` and `Margins` read off its n1, n2 and n3.
use Prim.Native.Nat.{ℕ, ◌<◌}
use mathlib.Core.Path.{◌≡◌, sym, ◌∙◌, ap}
use mathlib.Core.Bool.{true}
use native.Mathlib.Omega.{arith}
use native.Mathlib.Decide.{dec_lt}
use lib.IntN.{ℤ, pos, nat_abs, ◌-ℤ◌}
use lib.ListN.{length, get_or}
use lib.Signed.{lt_z}
use Rattle.numbers.specs.Choice.{pick}
use Rattle.numbers.specs.Column.{at}
use Rattle.numbers.specs.Sum.{sum_z, sum_to}
use Rattle.numbers.proofs.Integers.{zarith, minus, abs-z, one_side}
use Rattle.numbers.proofs.Choices.{pick_ind}
use Rattle.numbers.proofs.Sums.{sum_to-cong}
use Rattle.terms.specs.Quantities.{standing, size_in}
use Rattle.terms.specs.declared.quantity.Standing.{Standing}
use Rattle.terms.specs.declared.quantity.Standing.TheVariants.{NotEnabled, Enabled}
use Rattle.terms.specs.declared.quantity.Direction.{Direction}
use Rattle.terms.specs.declared.quantity.Direction.TheVariants.{Injections, Withdrawals}
use Rattle.group.specs.Steps.{direction_of}
use Rattle.group.specs.Group.{Group, units, position, excess, n1, n2}
use Rattle.group.specs.Accepted.{Accepted}
use Rattle.group.specs.Demand3.{direction, size, cut, IsCut, Of, class_cut, Demand3}
use Rattle.group.specs.Inner.{Classed, loss_at}
use Rattle.group.proofs.Sides.{size_in-side}
use Rattle.group.proofs.Bearing.{Toward, Bears}
use Rattle.group.proofs.Ranges.{step1-length, step2-length}
use Rattle.group.proofs.Landing.{landed, sum_less}
use Rattle.group.proofs.Margins.{all-inside}
use Rattle.group.proofs.Accepting.{bearable-of}
use Rattle.group.proofs.Cuts as law

-- what is left with nothing on its side is at zero
gone : (d : Direction) {m n : ℤ} → Toward m n → 0 < size_in d n → size_in d m ≡ 0 → m ≡ pos 0
gone Injections {m} {n} t l h = omega (zarith, size_in-side Injections m, size_in-side Injections n, one_side n)
gone Withdrawals {m} {n} t l h = omega (zarith, size_in-side Withdrawals m, size_in-side Withdrawals n, one_side n)

-- in the direction of an excess above zero lie numbers above zero, and below zero below
sign : (e n : ℤ) → 0 < size_in (direction_of e) n → (lt_z (pos 0) e ≡ true → lt_z (pos 0) n ≡ true) × (lt_z e (pos 0) ≡ true → lt_z n (pos 0) ≡ true)
sign e n =
    pick_ind (lt_z e (pos 0)) Withdrawals Injections
    (λ d. 0 < size_in d n → (lt_z (pos 0) e ≡ true → lt_z (pos 0) n ≡ true) × (lt_z e (pos 0) ≡ true → lt_z n (pos 0) ≡ true))
    (λ h l. omega (zarith, size_in-side Withdrawals n, one_side n))
    (λ h l. omega (zarith, size_in-side Injections n, one_side n))

module _ (g : Group) (accepted : Accepted g) where
  n1-classed : Classed (n1 g) g.class
  n1-classed = (bearable-of g accepted).classed

  bears : Bears (excess g) (n1 g) g.class
  bears = (bearable-of g accepted).borne

  moved : (i : ℕ) → law.Nearer (direction g) (at (n1 g) i) (loss_at (excess g) (n1 g) g.class i) (at (n2 g) i)
  moved i = law.step2-nearer (excess g) (n1 g) g.class bears n1-classed i

  same : (i : ℕ) → cut g i ≡ 0 → at (n2 g) i ≡ at (n1 g) i
  same i h = omega (zarith, minus (at (n1 g) i) (at (n2 g) i), abs-z (at (n1 g) i -ℤ at (n2 g) i))

  differs : (i : ℕ) → IsCut g i → 0 < cut g i
  differs i ne = go (dec_lt 0 (cut g i))
    where
      go : Dec (0 < cut g i) → 0 < cut g i
      go (yes l) = l
      go (no l) = absurd (ne (same i (omega arith)))

  -- so a unit that is cut has a size in the direction
  has-size : (i : ℕ) → IsCut g i → 0 < size g i
  has-size i ne = omega (arith, differs i ne, moved i)

  -- a sum over the units, as `Cuts` writes it
  over-units : (f h : ℕ → ℕ) → ((i : ℕ) → f i ≡ h i) → sum_to (units g) f ≡ sum_to (length (n1 g)) h
  over-units f h e = sum_to-cong (units g) f h (λ i _. e i) ∙ ap (λ (n : ℕ). sum_to n h) (sym (step1-length g.n0 g.step_down g.step_up))

  total-cut : sum_to (units g) (cut g) ≡ nat_abs (excess g)
  total-cut = over-units (cut g) (loss_at (excess g) (n1 g) g.class) (λ i. (moved i).lost) ∙ law.losses (excess g) (n1 g) g.class bears n1-classed

  sum_moved : sum_z (n2 g) ≡ sum_z (n1 g) -ℤ excess g
  sum_moved = sum_less (excess g) (n1 g) g.class bears n1-classed

  enabled-last : (i j : ℕ) → Of g Enabled i → IsCut g i → Of g NotEnabled j → 0 < size g j → at (n2 g) j ≡ pos 0
  enabled-last i j hi ne hj l =
      let all : loss_at (excess g) (n1 g) g.class j ≡ size g j =
      law.enabled-last (excess g) (n1 g) g.class bears n1-classed i j hi (omega (arith, differs i ne, (moved i).lost)) hj in
      gone (direction g) (moved j).toward l (omega (arith, (moved j).left))

  class-cut : (k : Standing) → sum_to (units g) (λ i. pick (standing k (get_or g.class i 0)) (cut g i) 0) ≡ class_cut g k
  class-cut k =
      over-units (λ i. pick (standing k (get_or g.class i 0)) (cut g i) 0)
      (λ i. pick (standing k (get_or g.class i 0)) (loss_at (excess g) (n1 g) g.class i) 0)
      (λ i. ap (λ (c : ℕ). pick (standing k (get_or g.class i 0)) c 0) (moved i).lost)
      ∙ law.class-losses (excess g) (n1 g) g.class bears n1-classed k

  pub group-demand3 : Demand3 g
  group-demand3 =
      let end = landed (position g) (sum_z (n1 g)) in
      record {
        total-cut = total-cut;
        sum_moved = sum_moved;
        down-to-band = λ h. sum_moved ∙ end.above h;
        up-to-band = λ h. sum_moved ∙ end.below h;
        stays-in-band = λ h l. sum_moved ∙ end.inside h l;
        injections-only = λ h i ne. (sign (excess g) (at (n1 g) i) (has-size i ne)).0 h;
        withdrawals-only = λ h i ne. (sign (excess g) (at (n1 g) i) (has-size i ne)).1 h;
        nothing-cut = λ h i. same i (omega (zarith, (moved i).lost, law.loss-le (excess g) (n1 g) g.class bears i, ap nat_abs h));
        enabled-last = enabled-last;
        class-cut = class-cut;
        near = λ k i h l. rw (moved i).lost (law.near (excess g) (n1 g) g.class bears n1-classed k i h l);
        cut-within = λ i. omega (arith, moved i);
        larger = λ k i j hi hj l. rw ((moved i).lost, (moved j).lost) (law.larger (excess g) (n1 g) g.class bears n1-classed k i j hi hj l);
        between = λ i. omega (zarith, (moved i).toward, one_side (at (n1 g) i), one_side (at (n2 g) i));
        ends-inside =
            all-inside g.n0 (n2 g) g.step_down g.step_up (λ i. (accepted.sound i).ordered) (λ i. (moved i).toward)
            (step2-length (excess g) (n1 g) g.class ∙ step1-length g.n0 g.step_down g.step_up);
      }
