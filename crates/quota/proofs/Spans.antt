-- A span that is made narrower by one count, and what it decides in the end: above a larger number are no more marks, and above a mark fewer than above any number below it.
use Prim.Native.Nat.{ℕ, ◌+◌, ◌≤◌, ◌<◌}
use mathlib.Core.Path.{◌≡◌, refl, sym, ◌∙◌, ap, subst₂}
use mathlib.Core.Bool.{Bool}
use mathlib.Core.Logic.{◌⊎◌, inl, inr, ⊎_elim}
use mathlib.Core.List.{List}
use native.Mathlib.Omega.{arith}
use native.Mathlib.Nat.{le_refl}
use native.Mathlib.Decide.{dec_lt}
use lib.Dec.{ltb}
use lib.ListN.{length, get_or}
use borrow.Author.Tests.{ltb-true, lt-ltb, le-ltb}
use Rattle.numbers.specs.Sum.{bit, count}
use Rattle.numbers.proofs.Sums.{sum_to-lt, sum_to-none, bit_le, count-le}
use Rattle.quota.specs.Inner.{above, Spans, Narrowed, Parted}

pub above-mono : (l : List ℕ) (x y : ℕ) → x ≤ y → above l y ≤ above l x
unfolding above
above-mono l x y h =
    count-le (length l) (λ (j : ℕ). ltb y (get_or l j 0)) (λ (j : ℕ). ltb x (get_or l j 0))
    (λ j _ e. lt-ltb x (get_or l j 0) (omega (arith, ltb-true y (get_or l j 0) e)))

above-strict : (l : List ℕ) (x k : ℕ) → k < length l → x < get_or l k 0 → above l (get_or l k 0) < above l x
unfolding above count
above-strict l x k kl h =
    sum_to-lt (length l) (λ (j : ℕ). bit (ltb (get_or l k 0) (get_or l j 0))) (λ (j : ℕ). bit (ltb x (get_or l j 0)))
    (λ j _. bit_le (ltb (get_or l k 0) (get_or l j 0)) (ltb x (get_or l j 0))
    (λ e. lt-ltb x (get_or l j 0) (omega (arith, ltb-true (get_or l k 0) (get_or l j 0) e))))
    k kl
    (subst₂ (λ (p q : Bool). bit p < bit q) (sym (le-ltb (get_or l k 0) (get_or l k 0) (le_refl (get_or l k 0)))) (sym (lt-ltb x (get_or l k 0) h)) (le_refl 1))

-- none is above what none passes
none_above : (l : List ℕ) (x : ℕ) → ((k : ℕ) → get_or l k 0 ≤ x) → above l x ≡ 0
unfolding above count
none_above l x h = sum_to-none (length l) (λ (j : ℕ). bit (ltb x (get_or l j 0))) (λ j. ap bit (le-ltb x (get_or l j 0) (h j)))

-- the whole span, in which nothing is decided
pub at_first : {l : List ℕ} {left low high : ℕ} → 0 < left → low < high → ((k : ℕ) → get_or l k 0 ≤ high) → Spans l left low high
at_first {l} {left} {low} {high} some wide h =
    record { order = omega arith; highs = λ _. omega (arith, none_above l high h); met = λ e. absurd (omega arith) }

module _ {l : List ℕ} {left low high : ℕ} (x : ℕ) (h : Spans l left low high) where
  same : (x ≤ low) ⊎ (high ≤ x) → Narrowed l left low high x low high
  same d = record { spans = h; lower = le_refl low; higher = le_refl high; lows = inl refl; decided = d }

  module _ (a : low < x) (b : x < high) where
    pub fewer : above l x < left → Narrowed l left low high x low x
    fewer e =
        record {
          spans = record { order = omega arith; highs = λ _. e; met = λ f. absurd (omega arith) };
          lower = le_refl low;
          higher = omega arith;
          lows = inl refl;
          decided = inr (le_refl x);
        }

    pub more : left < above l x → Narrowed l left low high x x high
    more e =
        record {
          spans = record { order = omega arith; highs = λ _. h.highs (omega arith); met = λ f. absurd (omega arith) };
          lower = omega arith;
          higher = le_refl high;
          lows = inr (omega arith);
          decided = inl (le_refl x);
        }

    pub so-many : above l x ≡ left → Narrowed l left low high x x x
    so-many e =
        record {
          spans = record { order = le_refl x; highs = λ f. absurd (omega arith); met = λ _. e };
          lower = omega arith;
          higher = omega arith;
          lows = inr (omega arith);
          decided = inl (le_refl x);
        }

-- after some turns: the first j marks are decided
pub record Decided (l : List ℕ) (left low low' high' j : ℕ) : Type 0 where
  pub upto : j ≤ length l
  pub spans : Spans l left low' high'
  pub lower : low ≤ low'
  pub lows : (low' ≡ low) ⊎ (left ≤ above l low')
  pub done : (k : ℕ) → k < j → (get_or l k 0 ≤ low') ⊎ (high' ≤ get_or l k 0)

-- where the lower end is told once more
lows-on : (l : List ℕ) {left low low₁ low₂ : ℕ} → (low₁ ≡ low) ⊎ (left ≤ above l low₁) → (low₂ ≡ low₁) ⊎ (left ≤ above l low₂)
    → (low₂ ≡ low) ⊎ (left ≤ above l low₂)
lows-on l p q = ⊎_elim (λ e. ⊎_elim (λ d. inl (e ∙ d)) (λ d. inr (omega (arith, ap (above l) e))) p) (λ e. inr e) q

pub decided-none : {l : List ℕ} {left low high : ℕ} → Spans l left low high → Decided l left low low high 0
decided-none {l} {left} {low} h = record { upto = omega arith; spans = h; lower = le_refl low; lows = inl refl; done = λ k b. absurd (omega arith) }

pub decided-more : {l : List ℕ} {left low low₁ high₁ low₂ high₂ j : ℕ} → Decided l left low low₁ high₁ j → j < length l →
    Narrowed l left low₁ high₁ (get_or l j 0) low₂ high₂ → Decided l left low low₂ high₂ (j + 1)
decided-more {l} {left} {low} {low₁} {high₁} {low₂} {high₂} {j} h jl n =
    record {
      upto = omega arith;
      spans = n.spans;
      lower = omega (arith, h.lower, n.lower);
      lows = lows-on l h.lows n.lows;
      done = λ k m. go k m (dec_lt k j);
    }
  where
    go : (k : ℕ) → k < j + 1 → Dec (k < j) → (get_or l k 0 ≤ low₂) ⊎ (high₂ ≤ get_or l k 0)
    go k m (yes b) = ⊎_elim (λ p. inl (omega (arith, n.lower))) (λ p. inr (omega (arith, n.higher))) (h.done k b)
    go k m (no b) =
        let e : k ≡ j = omega arith in
        rw e n.decided

-- all marks are decided, or both ends are one number
pub decided-end : {l : List ℕ} {left low low' high' j : ℕ} → Decided l left low low' high' j → (length l ≤ j) ⊎ (high' ≤ low') → Parted l left low low' high'
decided-end h end =
    record {
      spans = h.spans;
      lower = h.lower;
      lows = h.lows;
      decided = λ apart k kl. ⊎_elim (λ e. h.done k (omega arith)) (λ e. absurd (omega arith)) end;
    }

-- parted from where two numbers had been tried is parted from the start
pub tried-parted : {l : List ℕ} {left low high x y low₁ high₁ low₂ high₂ low₃ high₃ : ℕ} → Narrowed l left low high x low₁ high₁
    → Narrowed l left low₁ high₁ y low₂ high₂ → Parted l left low₂ low₃ high₃ → Parted l left low low₃ high₃
tried-parted {l} n m p =
    record {
      spans = p.spans;
      lower = omega (arith, n.lower, m.lower, p.lower);
      lows = lows-on l (lows-on l n.lows m.lows) p.lows;
      decided = p.decided;
    }

module _ {l : List ℕ} {left low low' high' : ℕ} (p : Parted l left low low' high') where
  below-low : (k : ℕ) → low < get_or l k 0 → get_or l k 0 ≤ low' → left ≤ above l (get_or l k 0)
  below-low k a m = ⊎_elim (λ e. absurd (omega arith)) (λ e. omega (arith, above-mono l (get_or l k 0) low' m)) p.lows

  -- where the ends are two numbers every mark below the upper one has at least as many above it as are left
  pub below-high : low' < high' → (k : ℕ) → k < length l → low < get_or l k 0 → get_or l k 0 < high' → left ≤ above l (get_or l k 0)
  below-high apart k kl a m = ⊎_elim (λ d. below-low k a d) (λ d. absurd (omega arith)) (p.decided apart k kl)

  above_low : (k : ℕ) → k < length l → low' < get_or l k 0 → Dec (low' < high') → above l (get_or l k 0) < left
  above_low k kl m (yes apart) =
      ⊎_elim (λ d. absurd (omega arith)) (λ d. omega (arith, above-mono l high' (get_or l k 0) d, p.spans.highs apart)) (p.decided apart k kl)
  above_low k kl m (no shut) = omega (arith, above-strict l low' k kl m, p.spans.met (omega (arith, p.spans.order)))

  -- the lower end parts the marks above where the span began, by how many are above them
  pub parted : (k : ℕ) → k < length l → low < get_or l k 0 → ltb low' (get_or l k 0) ≡ ltb (above l (get_or l k 0)) left
  parted k kl a = go (dec_lt low' (get_or l k 0))
    where
      go : Dec (low' < get_or l k 0) → ltb low' (get_or l k 0) ≡ ltb (above l (get_or l k 0)) left
      go (yes m) = rw (lt-ltb low' (get_or l k 0) m, lt-ltb (above l (get_or l k 0)) left (above_low k kl m (dec_lt low' high')))
      go (no m) =
          let d : get_or l k 0 ≤ low' = omega arith in
          rw (le-ltb low' (get_or l k 0) d, le-ltb (above l (get_or l k 0)) left (below-low k a d))
