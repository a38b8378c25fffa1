-- The walk over a day gives the extents of its records and then is done, and is done on nothing else: each record's head by the table is its head by its kind.
use Prim.Native.Nat.{ℕ, zero, suc, ◌≤◌}
use mathlib.Core.Path.{◌≡◌, refl}
use mathlib.Core.List.{List, [], ◌∷◌}
use native.Mathlib.Omega.{arith}
use lib.ListN.{length}
use Rattle.std.specs.Prelude.{Option, Some, None}
use Rattle.terms.specs.Reply.{Reply, is, refused}
use Rattle.terms.proofs.Replies.{never}
use Rattle.walk.specs.declared.table.State.TheVariants.{Fresh, Open, Closed}
use Rattle.walk.specs.declared.step.Extent.{Extent}
use Rattle.walk.specs.Walk.{follow, whole_of, step_of, walk_from}
use Rattle.walk.specs.Extents.{Blocks, block, ending, DayOf, opening}
use Rattle.walk.proofs.Extents.{lies}
use Rattle.walk.proofs.Tiling.{step-is-done}
use Rattle.walk.proofs.Places.{step-done}
use Rattle.walk.proofs.Gives.{Given, a_day, a_block, an_end, given, step-of}

visits-blocks : (s : List ℕ) {at : ℕ} {es : List Extent} → Blocks s at es → walk_from s Open at (length es) ≡ record { extents = es; reply = is None }
unfolding walk_from whole_of
visits-blocks s (block at units end es h b more) =
    rw (step-of s Open at end _ h b, visits-blocks s more)
visits-blocks s (ending at h) =
    rw (step-of s Open at (length s) _ h refl, step-done s Closed (length s) (omega arith) refl)

pub walk-visits : (s : List ℕ) {es : List Extent} → DayOf s es → walk_from s Fresh 0 (length es) ≡ record { extents = es; reply = is None }
unfolding walk_from whole_of
walk-visits s (opening end es h b) = rw (step-of s Fresh 0 end _ h refl, visits-blocks s b)

closed-end : (s : List ℕ) (place more : ℕ) → (walk_from s Closed place more).reply ≡ is None
    → ((walk_from s Closed place more).extents ≡ []) × (length s ≤ place)
unfolding walk_from
closed-end s place zero d = (refl, (step-is-done s Closed place d).1)
closed-end s place (suc more) d = go (step_of s Closed place) refl d
  where
    none : {P : Type 0} {e : Extent} → Given s place Closed e → P
    none = elim [ ]

    go : (r : Reply (Option Extent)) → step_of s Closed place ≡ r
        → let w = follow r (λ e. walk_from s e.after e.end more) in w.reply ≡ is None → (w.extents ≡ []) × (length s ≤ place)
    go (is (Some e)) q d = none (given s place Closed e q)
    go (is None) q d = (refl, (step-is-done s Closed place q).1)
    go (refused n p) q d = never d

blocks-of : (s : List ℕ) (at more : ℕ) → (walk_from s Open at more).reply ≡ is None → Blocks s at (walk_from s Open at more).extents
unfolding walk_from
blocks-of s at zero d =
    let c = (step-is-done s Open at d).0 in
    let z : ◌≡◌ {A = ℕ} 0 1 = cc in
    absurd (omega arith)
blocks-of s at (suc more) d = go (step_of s Open at) refl (λ end. blocks-of s end more) d
  where
    onward : {e : Extent} → Given s at Open e → e.end ≤ length s
        → ((end : ℕ) → (walk_from s Open end more).reply ≡ is None → Blocks s end (walk_from s Open end more).extents)
        → (walk_from s e.after e.end more).reply ≡ is None → Blocks s at (e ∷ (walk_from s e.after e.end more).extents)
    onward (a_block units end h b) l later d = block at units end _ h b (later end d)
    onward (an_end end h) l later d =
        let c = closed-end s end more d in
        let x : end ≡ length s = omega (arith, c.1) in
        rw (c.0, x) (ending at (rw x at h))

    go : (r : Reply (Option Extent)) → step_of s Open at ≡ r
        → ((end : ℕ) → (walk_from s Open end more).reply ≡ is None → Blocks s end (walk_from s Open end more).extents)
        → let w = follow r (λ e. walk_from s e.after e.end more) in w.reply ≡ is None → Blocks s at w.extents
    go (is (Some e)) q later d = onward (given s at Open e q) (lies s Open at e q).within later d
    go (is None) q later d =
        let c = (step-is-done s Open at q).0 in
        let z : ◌≡◌ {A = ℕ} 0 1 = cc in
        absurd (omega arith)
    go (refused n p) q later d = never d

-- a walk that is done has gone over a day
pub walk-day : (s : List ℕ) (more : ℕ) → (walk_from s Fresh 0 more).reply ≡ is None → DayOf s (walk_from s Fresh 0 more).extents
unfolding walk_from
walk-day s zero d =
    let c = (step-is-done s Fresh 0 d).0 in
    let z : ◌≡◌ {A = ℕ} 0 1 = cc in
    absurd (omega arith)
walk-day s (suc more) d = go (step_of s Fresh 0) refl d
  where
    onward : {e : Extent} → Given s 0 Fresh e → (walk_from s e.after e.end more).reply ≡ is None
        → DayOf s (e ∷ (walk_from s e.after e.end more).extents)
    onward (a_day end h) d = opening end _ h (blocks-of s end more d)

    go : (r : Reply (Option Extent)) → step_of s Fresh 0 ≡ r
        → let w = follow r (λ e. walk_from s e.after e.end more) in w.reply ≡ is None → DayOf s w.extents
    go (is (Some e)) q d = onward (given s 0 Fresh e q) d
    go (is None) q d =
        let c = (step-is-done s Fresh 0 q).0 in
        let z : ◌≡◌ {A = ℕ} 0 1 = cc in
        absurd (omega arith)
    go (refused n p) q d = never d
