-- A walk so many steps ahead: a loop's turn is one of them, and what is replied there is what the walk replies after so many records.
use Prim.Native.Nat.{ℕ, zero, suc, ◌+◌, ◌-◌, ◌≤◌, ◌<◌}
use mathlib.Core.Path.{◌≡◌, refl, sym, ap, ◌∙◌}
use native.Mathlib.Omega.{arith}
use Rattle.std.specs.Prelude.{Option, Some, None}
use Rattle.terms.specs.Reply.{Reply, is, refused}
use Rattle.walk.specs.declared.step.Extent.{Extent}
use Rattle.walk.specs.declared.walker.Walker.{Walker}
use Rattle.walk.specs.Walk.{follow, walk_from}
use Rattle.walk.specs.Stands.{there, walker_past, walker_after, ahead_of}

-- a walker that no reply moves stays where it stands
pub stays : (w : Walker) (steps : ℕ) → walker_after w (there w) ≡ w → ahead_of w steps ≡ w
unfolding ahead_of
stays w zero e = refl
stays w (suc more) e = rw e (stays w more e)

pub one_ahead : (w : Walker) (steps i : ℕ) → i < steps → ahead_of w (steps - i) ≡ ahead_of (walker_after w (there w)) (steps - (i + 1))
unfolding ahead_of
one_ahead w steps i h =
    let left : steps - i ≡ suc (steps - (i + 1)) = omega arith in
    rw left

pub none_ahead : (w : Walker) (steps i : ℕ) → steps ≤ i → ahead_of w (steps - i) ≡ w
unfolding ahead_of
none_ahead w steps i h =
    let left : steps - i ≡ 0 = omega arith in
    rw left

pub reply-ahead : (w : Walker) (steps : ℕ) → (walk_from w.bytes.now w.state w.place steps).reply ≡ there (ahead_of w steps)
unfolding walk_from ahead_of
reply-ahead w zero = refl
reply-ahead w (suc more) = go (there w) refl (λ e. reply-ahead (walker_past w e) more)
  where
    go : (r : Reply (Option Extent)) → there w ≡ r
        → ((e : Extent) → (walk_from w.bytes.now e.after e.end more).reply ≡ there (ahead_of (walker_past w e) more))
        → (follow r (λ e. walk_from w.bytes.now e.after e.end more)).reply ≡ there (ahead_of (walker_after w r) more)
    go (is (Some e)) q later = later e
    go (is None) q later = sym q ∙ ap there (sym (stays w more (ap (walker_after w) q)))
    go (refused n p) q later = sym q ∙ ap there (sym (stays w more (ap (walker_after w) q)))
