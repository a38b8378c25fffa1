-- A step within the bytes is the record there; at their end or past it, it is done or cut short by the state alone.
use Prim.Native.Nat.{ℕ, ◌≤◌, ◌<◌}
use mathlib.Core.Path.{◌≡◌, refl}
use mathlib.Core.Bool.{true, false, and-false}
use mathlib.Core.List.{List}
use native.Mathlib.Omega.{arith}
use borrow.Author.Tests.{lt-ltb, le-ltb, eq-eqb, ne_eqb}
use lib.ListN.{length}
use Rattle.std.specs.Prelude.{None}
use Rattle.terms.specs.Reply.{is, refused, need, next}
use Rattle.walk.specs.declared.table.State.{State}
use Rattle.walk.specs.Table.{is_closed, head_in}
use Rattle.walk.specs.Walk.{record_of, step_of}

module _ (s : List ℕ) (state : State) (place : ℕ) where
  pub step-within : place < length s → step_of s state place ≡ record_of s state place
  unfolding step_of
  step-within h = simp (lt-ltb place (length s) h, ne_eqb place (length s) (λ e. omega arith), and-false)

  pub step-done : length s ≤ place → is_closed state ≡ true → step_of s state place ≡ is None
  unfolding step_of
  step-done h c = simp (le-ltb place (length s) h, eq-eqb (length s) (length s) refl, c)

  pub step-short : length s ≤ place → is_closed state ≡ false → step_of s state place ≡ refused 1 (length s)
  unfolding step_of record_of head_in next need
  step-short h c = simp (le-ltb place (length s) h, c, le-ltb (length s) (length s) (omega arith))
