-- The contracts of `head_in`, of `next`, `step` and `walk_at` leave one answer each: two answers with one reply are one, by cases. The walker that `advance` leaves is told by an equation of its own, as are the other contracts of the crate.
use mathlib.Core.Path.{◌≡◌, sym, ◌∙◌}
use Rattle.std.specs.Prelude.{Option, Result}
use Rattle.terms.specs.Reply.{Reply}
use Rattle.terms.proofs.Same.{reply-same}
use Rattle.terms.specs.declared.refusal.Refusal.{Refusal}
use Rattle.terms.specs.Refusals.{reply}
use Rattle.walk.specs.declared.table.Head.{Head}
use Rattle.walk.specs.declared.step.Extent.{Extent}
use Rattle.walk.specs.declared.walker.Walker.{Walker}
use Rattle.walk.specs.Stands.{there, walker_after}

pub head-in-unique : {r : Reply Head} (x y : Result Head Refusal) → reply x ≡ r → reply y ≡ r → x ≡ y
head-in-unique x y p q = reply-same x y (p ∙ sym q)

pub step-unique : {r : Reply (Option Extent)} (x y : Result (Option Extent) Refusal) → reply x ≡ r → reply y ≡ r → x ≡ y
step-unique x y p q = reply-same x y (p ∙ sym q)

-- two answers of `advance`, and the walkers that they leave
pub advance-unique : (w : Walker) (x y : Result (Option Extent) Refusal) (v u : Walker) → reply x ≡ there w → v ≡ walker_after w (there w)
    → reply y ≡ there w → u ≡ walker_after w (there w) → (x ≡ y) × (v ≡ u)
advance-unique w x y v u p l q m = (step-unique x y p q, l ∙ sym m)
