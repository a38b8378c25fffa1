-- The eight fields with their numbers kept at the caps: each field is read from the place that the one before it gives, which no cap changes.
use Prim.Native.Nat.{ℕ, ◌≤◌, ◌<◌}
use mathlib.Core.Path.{◌≡◌, refl, ◌∙◌}
use mathlib.Core.List.{List}
use native.Mathlib.Omega.{arith}
use borrow.Author.Tests.{le-leb, lt-leb}
use Rattle.terms.specs.Reply.{Reply, is, refused, need, next}
use Rattle.partner.specs.declared.fields.Held.{Held}
use Rattle.partner.specs.Form.{numeral_of, quantity_of, unit_number_of, form_of}
use Rattle.partner.specs.Inner.{number_cap, quarter_cap, capped, capped_kwh, capped_form, mapped, quantities_behind}
use Rattle.partner.proofs.Amounts.{Whole}

-- ---- a reading of one thing after another
mapped_next : {A B C : Type 0} (g : B → C) (x : Reply A) (r : A → Reply B) → mapped g (next x r) ≡ next x (λ a. mapped g (r a))
unfolding mapped next
mapped_next g (is a) r = refl
mapped_next g (refused n p) r = refl

mapped-through : {A B C D : Type 0} (f : A → B) (g : C → D) (x : Reply A) (r : A → Reply C) (q : B → Reply D) → ((a : A) → mapped g (r a) ≡ q (f a)) → mapped g (next x r) ≡ next (mapped f x) q
unfolding mapped next
mapped-through f g (is a) r q h = h a
mapped-through f g (refused n p) r q h = refl

next-each : {A B : Type 0} (x : Reply A) (r q : A → Reply B) → ((a : A) → r a ≡ q a) → next x r ≡ next x q
unfolding next
next-each (is a) r q h = h a
next-each (refused n p) r q h = refl

pub form-kept : (s : List ℕ) → mapped capped_form (form_of s)
    ≡ next (unit_number_of s) λ number.
    next (mapped (capped quarter_cap) (numeral_of s number.next 59)) λ quarter.
    quantities_behind s number quarter
unfolding form_of mapped quantities_behind
form-kept s =
    mapped_next capped_form (unit_number_of s) _
    ∙ next-each (unit_number_of s) _ _ λ number.
    mapped-through (capped quarter_cap) capped_form (numeral_of s number.next 59) _ _ λ quarter.
    mapped-through capped_kwh capped_form (quantity_of s quarter.next 59) _ _ λ n.
    mapped-through capped_kwh capped_form (quantity_of s n.next 59) _ _ λ down.
    mapped-through capped_kwh capped_form (quantity_of s down.next 10) _ _ λ up.
    refl

pub ruleset forming = (form-kept)

-- ---- the unit's number
module _ (s : List ℕ) where
  pub number-refused : {n p : ℕ} → numeral_of s 0 59 ≡ refused n p → unit_number_of s ≡ refused n p
  unfolding unit_number_of next
  number-refused e = rw e

  module _ (m : Held ℕ) (w : Whole s 0 59 number_cap m) where
    pub number-large : 65535 < m.value → unit_number_of s ≡ refused 20 0
    unfolding unit_number_of next need
    number-large h =
        rw (w.read, lt-leb w.one.value 65535 (omega (arith, w.value)))

    pub number-right : m.value ≤ 65535 → unit_number_of s ≡ is m
    unfolding unit_number_of next need
    number-right h =
        let same : w.one.value ≡ m.value = omega (arith, w.value) in
        rw (w.read, le-leb w.one.value 65535 (omega (arith, w.value)), same, w.next)
