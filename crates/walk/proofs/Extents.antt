-- An extent that a step gave starts at the place, has bytes and lies within those that are lent: by what its heads told.
use Prim.Native.Nat.{ℕ, ◌≤◌, ◌<◌}
use mathlib.Core.Path.{◌≡◌, refl, sym, ap, ◌∙◌}
use mathlib.Core.Bool.{Bool, true, false}
use mathlib.Core.List.{List}
use native.Mathlib.Omega.{arith}
use native.Mathlib.Decide.{dec_lt}
use lib.ListN.{length}
use Rattle.numbers.specs.Choice.{pick}
use Rattle.std.specs.Prelude.{Some}
use Rattle.terms.specs.Reply.{is}
use Rattle.terms.proofs.Replies.{never, next-is}
use Rattle.walk.specs.declared.table.State.{State}
use Rattle.walk.specs.declared.table.Head.{Head}
use Rattle.walk.specs.declared.step.Extent.{Extent}
use Rattle.walk.specs.Table.{is_block, state_after, is_closed, head_in}
use Rattle.walk.specs.Extents.{Lies}
use Rattle.walk.specs.Walk.{block_end_of, whole_of, record_of, step_of}
use Rattle.walk.proofs.Coming.{came, group-whole}
use Rattle.walk.proofs.UnitHeads.{block_run}
use Rattle.walk.proofs.Places.{step-within, step-done, step-short}

-- a record ends past its start, within the bytes
ends : (s : List ℕ) (at : ℕ) (state : State) (h : Head) (end : ℕ) → head_in s at state ≡ is h → whole_of s at h ≡ is end → (at < end) × (end ≤ length s)
unfolding whole_of
ends s at state h end e w = go (is_block h.role) refl w
  where
    go : (g : Bool) → is_block h.role ≡ g → pick g (block_end_of s at) (is h.end) ≡ is end → (at < end) × (end ≤ length s)
    go true g w =
        let m = block_run s at (group-whole s at state h e g) w in
        (omega (arith, m.onward), m.within)
    go false g w =
        let m = came s at state h e in
        let q : h.end ≡ end = cc in
        (omega (arith, m.past), omega (arith, m.long))

-- a step that gave an extent: the head of the record, and where it ends
pub record Taken (s : List ℕ) (state : State) (place : ℕ) (e : Extent) : Type 0 where
  pub head : Head
  pub read : head_in s place state ≡ is head
  pub start : e.start ≡ place
  pub end : whole_of s place head ≡ is e.end
  pub after : e.after ≡ state_after head.role

module _ (s : List ℕ) (state : State) (place : ℕ) (e : Extent) (q : step_of s state place ≡ is (Some e)) where
  pub taken : Taken s state place e
  unfolding record_of
  taken = go (dec_lt place (length s))
    where
      past : (c : Bool) → is_closed state ≡ c → length s ≤ place → Taken s state place e
      past true c h =
          let f = sym (step-done s state place h c) ∙ q in
          let z : ◌≡◌ {A = ℕ} 0 1 = cc in
          absurd (omega arith)
      past false c h = never (sym (step-short s state place h c) ∙ q)

      go : Dec (place < length s) → Taken s state place e
      go (yes h) =
          let a = next-is _ _ (sym (step-within s state place h) ∙ q) in
          let b = next-is _ _ a.1.1 in
          let n : place ≡ e.start = cc in
          let m : b.0 ≡ e.end = cc in
          let w : state_after a.0.role ≡ e.after = cc in
          record { head = a.0; read = a.1.0; start = sym n; end = b.1.0 ∙ ap is m; after = sym w }
      go (no h) = past (is_closed state) refl (omega arith)

  pub lies : Lies s place e
  lies =
      let t = taken in
      let m = ends s place state t.head e.end t.read t.end in
      record { start = t.start; onward = m.0; within = m.1 }
