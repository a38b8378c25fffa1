-- What a step gives, in each state: the record that opens the day, a block or the record that closes it, by the table, and back.
use Prim.Native.Nat.{ℕ}
use mathlib.Core.Path.{◌≡◌, refl, subst}
use mathlib.Core.List.{List}
use native.Mathlib.Omega.{arith}
use Rattle.std.specs.Prelude.{Some}
use Rattle.terms.specs.Reply.{is, next}
use Rattle.walk.specs.declared.table.State.{State}
use Rattle.walk.specs.declared.table.State.TheVariants.{Fresh, Open, Closed}
use Rattle.walk.specs.declared.table.Role.TheVariants.{Opens, Block, Closes}
use Rattle.walk.specs.declared.table.Head.{Head}
use Rattle.walk.specs.declared.step.Extent.{Extent}
use Rattle.walk.specs.Table.{state_after, head_in, Coming, the_day, a_group, the_end}
use Rattle.walk.specs.Walk.{block_end_of, whole_of, record_of, step_of}
use Rattle.walk.specs.Extents.{from, headed}
use Rattle.walk.proofs.Coming.{came}
use Rattle.walk.proofs.Extents.{Taken, taken}
use Rattle.walk.proofs.Places.{step-within}

-- a record that comes at the place is the next step's extent
pub step-of : (s : List ℕ) (state : State) (at last : ℕ) (h : Head) → head_in s at state ≡ is h → whole_of s at h ≡ is last
    → step_of s state at ≡ is (Some (from at last (state_after h.role)))
unfolding record_of next
step-of s state at last h e w =
    let m = came s at state h e in
    rw (step-within s state at (omega (arith, m.past, m.long)), e, w)

-- what a step gives in each state
pub data Given (s : List ℕ) (at : ℕ) : State → Extent → Type 0 where
  a_day : (end : ℕ) → head_in s at Fresh ≡ headed Opens end → Given s at Fresh (from at end Open)
  a_block : (units end : ℕ) → head_in s at Open ≡ headed Block units → block_end_of s at ≡ is end → Given s at Open (from at end Open)
  an_end : (end : ℕ) → head_in s at Open ≡ headed Closes end → Given s at Open (from at end Closed)

module _ (s : List ℕ) (at : ℕ) (state : State) (e : Extent) (q : step_of s state at ≡ is (Some e)) where
  pub given : Given s at state e
  unfolding whole_of
  given =
      let t = taken s state at e q in
      go t (came s at state t.head t.read).which
    where
      of : (st st' : State) (end : ℕ) → state ≡ st → e.start ≡ at → e.end ≡ end → e.after ≡ st' → Given s at st (from at end st') → Given s at state e
      of st st' end f g h k x =
          let p : from at end st' ≡ from e.start e.end e.after = cc in
          rw f (subst (Given s at st) p x)

      go : (t : Taken s state at e) → Coming state t.head.role → Given s at state e
      go t (the_day f k) =
          let w = rw k at t.end in
          let x : t.head.end ≡ e.end = cc in
          of Fresh Open e.end f t.start refl (rw k at t.after) (a_day e.end (rw (f, k, x) at t.read))
      go t (a_group f k) =
          of Open Open e.end f t.start refl (rw k at t.after) (a_block t.head.end e.end (rw (f, k) at t.read) (rw k at t.end))
      go t (the_end f k) =
          let w = rw k at t.end in
          let x : t.head.end ≡ e.end = cc in
          of Open Closed e.end f t.start refl (rw k at t.after) (an_end e.end (rw (f, k, x) at t.read))
