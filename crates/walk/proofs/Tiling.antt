-- The extents of a walk tile what was walked, each starting where the one before ends: by induction over its steps. A walk that is done has walked all.
use Prim.Native.Nat.{ℕ, zero, suc, ◌+◌, ◌-◌, ◌≤◌, ◌<◌}
use mathlib.Core.Path.{◌≡◌, refl, sym, ap, ◌∙◌}
use mathlib.Core.Bool.{Bool, true, false}
use mathlib.Core.List.{List, [], ◌∷◌, ◌++◌}
use native.Mathlib.Omega.{arith}
use native.Mathlib.Decide.{dec_lt}
use lib.ListN.{length, take, drop}
use lib.Seq.{slice, slice_empty, take-add, take-length, drop_at, drop-append-le, length-take-le}
use Rattle.std.specs.Prelude.{Option, Some, None}
use Rattle.terms.specs.Reply.{Reply, is, refused}
use Rattle.terms.proofs.Replies.{never, next-is}
use Rattle.walk.specs.declared.table.State.{State}
use Rattle.walk.specs.declared.table.State.TheVariants.{Fresh}
use Rattle.walk.specs.declared.step.Extent.{Extent}
use Rattle.walk.specs.Table.{is_closed}
use Rattle.walk.specs.Walk.{follow, record_of, step_of, walk_from}
use Rattle.walk.specs.Extents.{Tiles, last_end, bytes_in}
use Rattle.walk.proofs.Places.{step-within, step-short}
use Rattle.walk.proofs.Extents.{lies}

pub walk-tiles : (s : List ℕ) (state : State) (place more : ℕ) → let es = (walk_from s state place more).extents in Tiles s place es (last_end place es)
unfolding walk_from
walk-tiles s state place zero = refl
walk-tiles s state place (suc more) = go (step_of s state place) refl (λ e. walk-tiles s e.after e.end more)
  where
    go : (r : Reply (Option Extent)) → step_of s state place ≡ r
        → ((e : Extent) → let es = (walk_from s e.after e.end more).extents in Tiles s e.end es (last_end e.end es))
        → let es = (follow r (λ e. walk_from s e.after e.end more)).extents in Tiles s place es (last_end place es)
    go (is (Some e)) q later = (lies s state place e q, later e)
    go (is None) q later = refl
    go (refused n p) q later = refl

-- extents that tile run from the place to the end
upward : (s : List ℕ) (place : ℕ) (es : List Extent) (end : ℕ) → Tiles s place es end → place ≤ end
upward s place [] end t = omega arith
upward s place (e ∷ es) end t = omega (arith, t.0.onward, upward s e.end es end t.1)

-- a part and the part after it are one part
join : (a b c : ℕ) (l : List ℕ) → a ≤ b → b ≤ c → c ≤ length l → slice a b l ++ slice b c l ≡ slice a c l
join a b c l h k m =
    let n : length (take b l) ≡ b = length-take-le b l (omega arith) in
    let rest = take (c - b) (drop b l) in
    let q : b + (c - b) ≡ c = omega arith in
    let e : take c l ≡ take b l ++ rest = ap (λ (i : ℕ). take i l) (sym q) ∙ take-add b (c - b) l in
    rw (e, drop_at (take b l) rest b n, drop-append-le a (take b l) rest (omega arith))

-- joined, their bytes are those from the place to the end
pub pieces : (s : List ℕ) (place : ℕ) (es : List Extent) (end : ℕ) → Tiles s place es end → end ≤ length s → bytes_in s es ≡ slice place end s
pieces s place [] end t h = rw t (sym (slice_empty end s))
pieces s place (e ∷ es) end t h =
    let l = t.0 in
    let up = upward s e.end es end t.1 in
    rw (l.start, pieces s e.end es end t.1 h) (join place e.end end s (omega (arith, l.onward)) up h)

-- extents that tile end within the bytes
within : (s : List ℕ) (place : ℕ) (es : List Extent) (end : ℕ) → Tiles s place es end → place ≤ length s → end ≤ length s
within s place [] end t h = omega arith
within s place (e ∷ es) end t h = within s e.end es end t.1 t.0.within

-- only a closed day with nothing left is done
pub step-is-done : (s : List ℕ) (state : State) (place : ℕ) → step_of s state place ≡ is None → (is_closed state ≡ true) × (length s ≤ place)
unfolding record_of
step-is-done s state place q = go (dec_lt place (length s)) (is_closed state) refl
  where
    go : Dec (place < length s) → (c : Bool) → is_closed state ≡ c → (is_closed state ≡ true) × (length s ≤ place)
    go (yes h) c k =
        let a = next-is _ _ (sym (step-within s state place h) ∙ q) in
        let b = next-is _ _ a.1.1 in
        let z : ◌≡◌ {A = ℕ} 0 1 = cc in
        absurd (omega arith)
    go (no h) true k = (k, omega arith)
    go (no h) false k = never (sym (step-short s state place (omega arith) k) ∙ q)

-- a walk that is done has left nothing
pub walked_all : (s : List ℕ) (state : State) (place more : ℕ) → (walk_from s state place more).reply ≡ is None
    → length s ≤ last_end place (walk_from s state place more).extents
unfolding walk_from
walked_all s state place zero d = (step-is-done s state place d).1
walked_all s state place (suc more) d = go (step_of s state place) refl (λ e. walked_all s e.after e.end more) d
  where
    go : (r : Reply (Option Extent)) → step_of s state place ≡ r
        → ((e : Extent) → (walk_from s e.after e.end more).reply ≡ is None → length s ≤ last_end e.end (walk_from s e.after e.end more).extents)
        → let w = follow r (λ e. walk_from s e.after e.end more) in w.reply ≡ is None → length s ≤ last_end place w.extents
    go (is (Some e)) q later d = later e d
    go (is None) q later d = (step-is-done s state place q).1
    go (refused n p) q later d = never d

-- the extents of a whole day that is walked to its end hold its bytes, each once
pub walk-whole : (s : List ℕ) (more : ℕ) → (walk_from s Fresh 0 more).reply ≡ is None → bytes_in s (walk_from s Fresh 0 more).extents ≡ s
walk-whole s more d =
    let es = (walk_from s Fresh 0 more).extents in
    let t = walk-tiles s Fresh 0 more in
    let h = within s 0 es (last_end 0 es) t (omega arith) in
    let e : last_end 0 es ≡ length s = omega (arith, walked_all s Fresh 0 more d) in
    pieces s 0 es (last_end 0 es) t h ∙ rw e (take-length s)
