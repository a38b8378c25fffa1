-- Every offer gets one answer: a reply that an answer gives, two outcomes that are the same, and an outcome that is right and the only one.
use Rattle.std.specs.Prelude.{ℕ, ◌≡◌, List}
use Rattle.terms.specs.Reply.{Reply, is}
use Rattle.terms.specs.Refusals.{refusal}
use Rattle.terms.specs.declared.refusal.Refusal.{Refusal}
use Rattle.day.specs.declared.value.Day.{Day}
use Rattle.day.specs.Outcome.{Offered}
use Rattle.day.specs.Offers.{Offers}

-- a reply that an answer gives: a value, or a refusal with a reason of its own
pub data Sayable {A : Type 0} : Reply A → Type 0 where
  value : (a : A) → Sayable (is a)
  reason : (r : Refusal) → Sayable (refusal r)

-- two outcomes of one call
pub record Same (r q : Offered) (x y : List ℕ) : Type 0 where
  pub reply : r ≡ q
  pub room : x ≡ y

-- one outcome of an offer
pub record One (day : Day) (s entry : List ℕ) : Type 0 where
  pub answer : Offered
  pub room : List ℕ
  pub right : Offers day s entry answer room
  pub only : (other : Offered) (other-room : List ℕ) → Offers day s entry other other-room → Same other answer other-room room
