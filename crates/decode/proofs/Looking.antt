-- From a reading of units to whether all of them pass: a look at the columns is a look at the units.
use Rattle.std.specs.Prelude.{Option, Some, None}
use Rattle.terms.specs.Reply.{is}
use Prim.Native.Nat.{ℕ, ◌<◌}
use mathlib.Core.Path.{◌≡◌, sym, ap, ◌∙◌}
use mathlib.Core.Bool.{true, false, false≢true}
use mathlib.Core.List.{List}
use native.Mathlib.Omega.{arith}
use lib.IntN.{ℤ, pos}
use lib.ListN.{length}
use Rattle.numbers.specs.Column.{at}
use Rattle.numbers.proofs.Columns.{column-length, column-at}
use Rattle.group.specs.Inner.{faults_of, amounts_pass}
use Rattle.group.specs.Group.{margins_at}
use Rattle.group.proofs.Amounts.{amounts-all, amounts-only}
use Rattle.records.specs.declared.day.DayRecord.{DayRecord}
use Rattle.records.specs.Layouts.{margins_of}
use Rattle.records.specs.Reading.{unit_in}
use Rattle.records.specs.Decoding.{unit_n0}
use Rattle.decode.specs.declared.Reading.{Reading}
use Rattle.decode.specs.Block.{block_count}
use Rattle.decode.specs.Inner.{Begun, Decoded, Amounts, UnitsRead, UnitsPassed}
use Rattle.decode.proofs.Units.{amounts-passed, no_reading, same-reading}

-- the columns that were read are looked at as the units themselves
module _ {s : List ℕ} {p : ℤ} {class taken : List ℕ} {n0 down up : List ℤ} (d : Decoded s p class taken n0 down up) where
  start-count : length n0 ≡ block_count s
  start-count = ap length d.starts ∙ column-length _ (block_count s)

  entry : (i : ℕ) → i < block_count s → faults_of (at n0 i) (margins_at down up i) ≡ faults_of (unit_n0 (unit_in s i)) (margins_of (unit_in s i))
  entry i l =
      rw (
        d.starts,
        d.downs,
        d.ups,
        column-at (λ k. unit_n0 (unit_in s k)) (block_count s) i (pos 0) l,
        column-at (λ k. (margins_of (unit_in s k)).step_down) (block_count s) i (pos 0) l,
        column-at (λ k. (margins_of (unit_in s k)).step_up) (block_count s) i (pos 0) l,
      )

  pub looked : amounts_pass n0 down up ≡ true → (i : ℕ) → i < block_count s → Amounts s i
  looked e i l = sym (entry i l) ∙ amounts-all n0 down up e i (omega (arith, start-count))

  pub unlooked : ((i : ℕ) → i < block_count s → Amounts s i) → amounts_pass n0 down up ≡ true
  unlooked all = amounts-only n0 down up (λ i l. entry i (omega (arith, start-count)) ∙ all i (omega (arith, start-count)))

module _ {s : List ℕ} {day : DayRecord} {r q : Option Reading} {class taken : List ℕ} {n0 down up : List ℤ} (b : Begun s) (u : UnitsRead s day r class taken n0 down up) where
  -- the reading was broken off, or came to its end and all pass, or not
  pub pass-broken : r ≡ None → q ≡ None → UnitsPassed s day q class taken n0 down up
  pass-broken w e =
      record { decoded = λ _ t. absurd (no_reading e t); ends = λ _ t. absurd (no_reading e t); fails = λ _. u.fails w }

  pub pass_all : {read : Reading} → r ≡ Some read → amounts_pass n0 down up ≡ true → q ≡ Some read → UnitsPassed s day q class taken n0 down up
  pass_all {read} w e f =
      let fine = u.ends read w (looked (u.decoded read w) e) in
      record {
        decoded = λ x t. u.decoded x (w ∙ sym f ∙ t);
        ends = λ x t. fine ∙ ap (λ (y : Reading). is y.end) (same-reading f t);
        fails = λ n. absurd (no_reading n f);
      }

  pub pass-not : {read : Reading} → r ≡ Some read → amounts_pass n0 down up ≡ false → q ≡ None → UnitsPassed s day q class taken n0 down up
  pass-not {read} w e f =
      record {
        decoded = λ _ t. absurd (no_reading f t);
        ends = λ _ t. absurd (no_reading f t);
        fails = λ _ end k. absurd (false≢true (sym e ∙ unlooked (u.decoded read w) (amounts-passed s day b k)));
      }
