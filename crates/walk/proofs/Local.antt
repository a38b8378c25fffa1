-- A step that gave an extent reads no byte past it: where the bytes agree up to its end, it gives the same.
use Prim.Native.Nat.{ℕ, zero, suc, ◌+◌, ◌-◌, ◌≤◌}
use mathlib.Core.Path.{◌≡◌, refl, sym, ap, ◌∙◌}
use mathlib.Core.List.{List}
use native.Mathlib.Omega.{arith}
use lib.ListN.{length, take}
use Rattle.numbers.specs.Bytes.{byte_at}
use Rattle.std.specs.Prelude.{Some}
use Rattle.terms.specs.Reply.{is, need, next}
use Rattle.terms.proofs.Replies.{next-is}
use Rattle.records.specs.Layouts.{group_length, group_count, group_at}
use Rattle.records.specs.Reading.{unit_head_of}
use Rattle.records.proofs.UnitHeads.{read-end, read-long}
use Rattle.records.proofs.Alike.{Agree, agree, unit-head-kept}
use Rattle.walk.specs.declared.table.State.{State}
use Rattle.walk.specs.declared.table.State.TheVariants.{Fresh, Open}
use Rattle.walk.specs.declared.table.Head.{Head}
use Rattle.walk.specs.declared.step.Extent.{Extent}
use Rattle.walk.specs.Table.{head_in}
use Rattle.walk.specs.Walk.{heads_of, block_end_of, whole_of, step_of}
use Rattle.walk.proofs.Coming.{came, group-whole, head-moved}
use Rattle.walk.proofs.Extents.{lies}
use Rattle.walk.proofs.Gives.{Given, a_day, a_block, an_end, given, step-of}
use Rattle.walk.proofs.UnitHeads.{heads-lie, block-is, block_run}

module _ (s t : List ℕ) (n : ℕ) (a : Agree s t n) where
  heads-local : (at count : ℕ) {end : ℕ} → at ≤ length s → heads_of s at count ≡ is end → end ≤ n → heads_of t at count ≡ is end
  unfolding heads_of next
  heads-local at zero k e h = e
  heads-local at (suc count) {end} k e h =
      let x = next-is (unit_head_of s at) (λ end. heads_of s end count) e in
      let inside : x.0 ≤ length s = omega (arith, read-end s at x.1.0, read-long s at x.1.0) in
      let r = heads-lie s x.0 count inside x.1.1 in
      rw (unit-head-kept s t n a at (omega (arith, r.onward)) x.1.0) (heads-local x.0 count inside x.1.1 h)

  block-local : (at : ℕ) {end : ℕ} → at + group_length ≤ length s → block_end_of s at ≡ is end → end ≤ n → block_end_of t at ≡ is end
  unfolding block_end_of group_at need
  block-local at {end} k e h =
      let r = block_run s at k e in
      let count = at + group_count.place in
      let same = a.same count (omega (arith, r.onward)) in
      let x = block-is s at e in
      rw (same, x.0) (heads-local (at + group_length) (byte_at s count) k x.1 h)

  record-local : (at : ℕ) (state : State) {h : Head} → head_in s at state ≡ is h → h.end ≤ n → head_in t at state ≡ is h
  record-local at state {h} e l =
      let m = came s at state h e in
      let q : h.end ≡ at + (h.end - at) = omega (arith, m.past) in
      head-moved s t at at (h.end - at) state e q (a.same at (omega (arith, m.past))) (omega (arith, a.long)) ∙ ap (λ (end : ℕ). is (record { role = h.role; end = end })) (sym q)

pub step_local : (s t : List ℕ) (state : State) (place : ℕ) (e : Extent) → step_of s state place ≡ is (Some e) → take e.end s ≡ take e.end t
    → step_of t state place ≡ is (Some e)
unfolding whole_of
step_local s t state place e q same =
    let l = lies s state place e q in
    go (given s place state e q) (agree s t e.end l.within same)
  where
    go : {state : State} {e : Extent} → Given s place state e → Agree s t e.end → step_of t state place ≡ is (Some e)
    go (a_day end h) a = step-of t Fresh place end _ (record-local s t _ a place Fresh h (omega arith)) refl
    go (a_block units end h b) a =
        let long = group-whole s place Open _ h refl in
        let m = came s place Open _ h in
        let r = block_run s place long b in
        step-of t Open place end _ (record-local s t _ a place Open h (omega (arith, m.end, r.onward))) (block-local s t _ a place long b (omega arith))
    go (an_end end h) a = step-of t Open place end _ (record-local s t _ a place Open h (omega arith)) refl
