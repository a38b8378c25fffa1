-- What the columns call owes at each of its answers: a refusal leaves the three columns, an acceptance writes them.
use Prim.Native.Nat.{ℕ}
use mathlib.Core.Path.{◌≡◌, sym, ap, ◌∙◌}
use mathlib.Core.Bool.{true, false}
use mathlib.Core.List.{List}
use lib.IntN.{ℤ}
use Rattle.terms.specs.Reply.{Reply, is, refused, need, next}
use Rattle.terms.specs.Refusals.{first_fault}
use Rattle.terms.specs.Checks.{unit_count}
use Rattle.group.specs.Group.{Group, units, position}
use Rattle.group.specs.Columns.{unit_checks, one_length, sums_of, judge_of, after, Judges}
use Rattle.group.specs.Inner.{Written}
use Rattle.group.specs.declared.judge.Sums.{Sums}
use Rattle.group.proofs.Judging.{told}

module _ (g : Group) (first second third : List ℤ) where
  kept : {r : Reply Sums} {number place : ℕ} → judge_of g first second third ≡ refused number place → r ≡ refused number place → Judges g first second third r first second third
  unfolding after
  kept e f = record { replied = f ∙ sym e; clamped = rw e; cut = rw e; stretched = rw e }

  pub unequal : {r : Reply Sums} → one_length g first second third ≡ false → r ≡ refused 15 0 → Judges g first second third r first second third
  unfolding judge_of need
  unequal e f = kept (rw e) f

  module _ (one : one_length g first second third ≡ true) where
    pub uncounted : {r : Reply Sums} → unit_count (units g) ≡ false → r ≡ refused 5 0 → Judges g first second third r first second third
    unfolding judge_of need
    uncounted e f = kept (rw (one, e)) f

    module _ (permitted : unit_count (units g) ≡ true) where
      pub faulty : {r : Reply Sums} {number place : ℕ} → first_fault (unit_checks g) 0 (units g) ≡ refused number place → r ≡ refused number place
          → Judges g first second third r first second third
      unfolding judge_of need next
      faulty e f = kept (rw (one, permitted, e)) f

      judged : {n : ℕ} → first_fault (unit_checks g) 0 (units g) ≡ is n → judge_of g first second third ≡ is (sums_of g)
      unfolding judge_of need next
      judged e = rw (one, permitted, e)

      pub written : {n : ℕ} {sums : Sums} {x1 x2 x3 : List ℤ} → first_fault (unit_checks g) 0 (units g) ≡ is n
          → Written (position g) g.n0 g.step_down g.step_up g.class sums x1 x2 x3
          → Judges g first second third (is sums) x1 x2 x3
      unfolding after
      written {n} {sums} e w =
          let j : judge_of g first second third ≡ is (sums_of g) = judged e in
          let t = told g w in
          record { replied = ap is t.replied ∙ sym j; clamped = rw j t.clamped; cut = rw j t.cut; stretched = rw j t.stretched }
