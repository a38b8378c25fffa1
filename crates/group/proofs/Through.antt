-- Step 2 as the code takes it: those not enabled share out the excess or, where they lose all, those enabled share out the rest of it, and that is the rule.
use Prim.Native.Nat.{ℕ, ◌-◌, ◌≤◌, ◌<◌, min}
use mathlib.Core.Path.{◌≡◌, refl, sym, ap, ◌∙◌}
use mathlib.Core.Bool.{Bool, true, false}
use mathlib.Core.List.{List}
use native.Mathlib.Omega.{arith}
use borrow.Author.Tests.{leb-true, leb-false}
use Rattle.std.proofs.Common.{T, subst}
use lib.Dec.{leb}
use lib.IntN.{ℤ, nat_abs}
use lib.ListN.{length, get_or}
use Rattle.numbers.specs.Choice.{pick}
use Rattle.numbers.specs.Column.{column, at}
use Rattle.numbers.specs.Sum.{sum}
use Rattle.numbers.proofs.Choices.{pick_ind}
use Rattle.numbers.proofs.Columns.{column-ext, column-self}
use Rattle.terms.specs.Quantities.{standing, size_in}
use Rattle.terms.specs.declared.quantity.Standing.{Standing}
use Rattle.terms.specs.declared.quantity.Standing.TheVariants.{NotEnabled, Enabled}
use Rattle.terms.specs.declared.quantity.Direction.{Direction}
use Rattle.quota.specs.Quota.{cuts_of}
use Rattle.quota.specs.Inner.{Asked, Own}
use Rattle.quota.proofs.Fairness.{length-cuts}
use Rattle.group.specs.Steps.{direction_of}
use Rattle.group.specs.Group.{size_of, sizes_of, share_of, cuts_for}
use Rattle.group.specs.Inner.{Bearable, SharedOut, loss_of, loss_at, losses_of}
use Rattle.group.proofs.Sides.{sizes-length, size-at, size-of, size-not}
use Rattle.group.proofs.Cuts.{all-cut, cut-within, loss-of}
use Rattle.group.proofs.Ranges.{sizes-sized}
use Rattle.group.proofs.Uncut.{none-at}

-- the size of a unit that bears a part is the one that n1 tells
sizes-own : (d : Direction) (k : Standing) (n1 : List ℤ) (class : List ℕ) → Own d n1 (sizes_of d k n1 class)
unfolding size_of
sizes-own d k n1 class =
    record {
      places = sym (sizes-length d k n1 class);
      own = λ i p.
          pick_ind (standing k (get_or class i 0)) (size_in d (at n1 i)) 0 (λ (x : ℕ). 0 < x → size_in d (at n1 i) ≡ x)
          (λ _ _. refl) (λ _ q. absurd (omega arith)) (omega (arith, size-at d k n1 class i)) ∙ sym (size-at d k n1 class i);
    }

apart-tests : ◌≡◌ {A = Bool} true false → ⊥
apart-tests e = absurd (subst T e tt)

-- who bears a part tells whether the units not enabled lose all
apart : NotEnabled ≡ Enabled → ⊥
apart e = apart-tests (ap (λ (k : Standing). standing k 0) e)

borne-by-enabled : (all : Bool) → pick all Enabled NotEnabled ≡ Enabled → all ≡ true
borne-by-enabled true e = refl
borne-by-enabled false e = absurd (apart e)

borne-by-others : (all : Bool) → pick all Enabled NotEnabled ≡ NotEnabled → all ≡ false
borne-by-others true e = absurd (apart (sym e))
borne-by-others false e = refl

module _ {e : ℤ} {n1 : List ℤ} {class : List ℕ} (h : Bearable e n1 class) where
  -- the sizes of those that bear a part, and the total of those not enabled
  abbrev bearers : Bool → List ℕ
  bearers all = sizes_of (direction_of e) (pick all Enabled NotEnabled) n1 class

  abbrev first : ℕ
  first = sum (sizes_of (direction_of e) NotEnabled n1 class)

  part-borne : (all : Bool) → all ≡ leb first (nat_abs e) → nat_abs e - pick all first 0 ≤ sum (bearers all)
  part-borne true w = omega (arith, h.borne)
  part-borne false w = omega (arith, leb-false first (nat_abs e) (sym w))

  loss-is : (all : Bool) → all ≡ leb first (nat_abs e) → (i : ℕ)
      → loss_of (direction_of e) all (get_or class i 0) (at n1 i) (get_or (cuts_of (bearers all) (nat_abs e - pick all first 0)) i 0) ≡ loss_at e n1 class i
  unfolding loss_of cuts_for share_of
  loss-is true w i =
      let m : min (nat_abs e) first ≡ first = omega (arith, leb-true first (nat_abs e) (sym w)) in
      let d : Direction = direction_of e in
      let cut : ℕ = get_or (cuts_of (bearers true) (nat_abs e - first)) i 0 in
      pick_ind (standing NotEnabled (get_or class i 0)) (size_in d (at n1 i)) cut (λ c. c ≡ loss_at e n1 class i)
      (λ q. sym (loss-of e n1 class h.borne h.classed NotEnabled i q ∙ all-cut e n1 class h.borne NotEnabled i m ∙ size-of d NotEnabled (get_or class i 0) (at n1 i) q))
      (λ q.
      let p : cut ≡ get_or (cuts_for e Enabled n1 class) i 0 = ap (λ (c : ℕ). get_or (cuts_of (bearers true) (nat_abs e - c)) i 0) (sym m) in
      omega (arith, p, cut-within e n1 class h.borne NotEnabled i, size-not d NotEnabled (get_or class i 0) (at n1 i) q))
  loss-is false w i =
      let l = leb-false first (nat_abs e) (sym w) in
      let m : nat_abs e - 0 ≡ min (nat_abs e) first = omega arith in
      let k : nat_abs e - min (nat_abs e) first ≡ 0 = omega arith in
      let p : get_or (cuts_of (bearers false) (nat_abs e - 0)) i 0 ≡ get_or (cuts_for e NotEnabled n1 class) i 0 = ap (λ (c : ℕ). get_or (cuts_of (bearers false) c) i 0) m in
      let q : get_or (cuts_for e Enabled n1 class) i 0 ≡ 0 = ap (λ (c : ℕ). get_or (cuts_of (bearers true) c) i 0) k ∙ none-at (bearers true) i in
      omega (arith, p, q)

  -- so much is lost by the cuts, and all of those not enabled where they lose all
  abbrev lost : Direction → Bool → List ℕ → List ℕ
  lost d all cuts = column (length n1) (λ i. loss_of d all (get_or class i 0) (at n1 i) (get_or cuts i 0))

  losses-are : (all : Bool) → all ≡ leb first (nat_abs e) → lost (direction_of e) all (cuts_of (bearers all) (nat_abs e - pick all first 0)) ≡ losses_of e n1 class
  unfolding losses_of
  losses-are all w = column-ext _ _ (length n1) (λ i _. loss-is all w i)

  module _ {d : Direction} {c t part : ℕ} {k : Standing} {sizes : List ℕ} (de : d ≡ direction_of e) (ce : c ≡ nat_abs e) (s : SharedOut d c n1 class k t part sizes) where
    -- those not enabled lose all
    abbrev all : Bool
    all = leb (sum (sizes_of d NotEnabled n1 class)) c

    whole_is : all ≡ leb first (nat_abs e)
    whole_is = rw (← de, ← ce) refl

    sizes-are : sizes ≡ bearers all
    sizes-are = rw (← de) (s.borne ∙ ap (λ (j : Standing). sizes_of d j n1 class) s.whole)

    part-is : part ≡ nat_abs e - pick all first 0
    part-is = rw (← de, ← ce) s.rest

    pub through-asked : Asked sizes t part
    through-asked =
        rw (s.total, sizes-are, part-is)
        (record {
          sized = sizes-sized h.classed (direction_of e) (pick all Enabled NotEnabled);
          total = refl;
          within = part-borne all whole_is;
        })

    pub through-own : Own d n1 sizes
    through-own = rw s.borne (sizes-own d k n1 class)

    module _ {cuts : List ℕ} (cut : cuts ≡ cuts_of sizes part) where
      cuts_are : cuts ≡ cuts_of (bearers all) (nat_abs e - pick all first 0)
      cuts_are = cut ∙ rw (sizes-are, part-is)

      pub through-places : length cuts ≡ length n1
      through-places =
          ap length cuts_are ∙ length-cuts (bearers all) (nat_abs e - pick all first 0) ∙ sizes-length (direction_of e) (pick all Enabled NotEnabled) n1 class

      lost-is : lost d all cuts ≡ losses_of e n1 class
      lost-is =
          ap (λ (x : Direction). lost x all cuts) de ∙ ap (lost (direction_of e) all) cuts_are ∙ losses-are all whole_is

      pub through-all : k ≡ Enabled → lost d true cuts ≡ losses_of e n1 class
      through-all q = rw (borne-by-enabled all (sym s.whole ∙ q)) at lost-is

      -- where they do not, the cuts are all that is lost
      pub through-part : k ≡ NotEnabled → cuts ≡ losses_of e n1 class
      unfolding loss_of
      through-part q = column-self 0 cuts ∙ rw through-places (rw (borne-by-others all (sym s.whole ∙ q)) at lost-is)
