-- Every reply of an offer is one that an answer gives: each number that it can be refused with is a reason's.
use Prim.Native.Nat.{ℕ}
use mathlib.Core.Path.{◌≡◌, refl}
use mathlib.Core.List.{List}
use borrow.Author.Tests.{eqb-true}
use lib.Dec.{eqb}
use Rattle.terms.specs.Reply.{Reply, refused}
use Rattle.terms.specs.Refusals.{number_of}
use Rattle.terms.proofs.Same.{why_by}
use Rattle.terms.proofs.Numbers.{each, By}
use Rattle.terms.proofs.Numbers as numbers
use Rattle.day.specs.declared.value.Day.{Day}
use Rattle.day.specs.Offers.{offer_of}
use Rattle.day.specs.Answered.{Sayable, value, reason}
use Rattle.day.proofs.Numbers.{offer_numbers, by-offer}

said : {A : Type 0} {x : Reply A} → By offer_numbers x → Sayable x
said (numbers.value a) = value a
said {A} (numbers.number n p k) = go (number_of (why_by n)) (eqb-true (number_of (why_by n)) n (each (λ m. eqb (number_of (why_by m)) m) offer_numbers n refl k)) (reason (record { why = why_by n; place = p }))
  where
    go : (m : ℕ) → m ≡ n → Sayable {A = A} (refused m p) → Sayable {A = A} (refused n p)
    go m e h = rw e at h

pub offer-sayable : (s : List ℕ) (day : Day) (room : ℕ) → Sayable (offer_of day s room)
offer-sayable s day room = said (by-offer day s room)
