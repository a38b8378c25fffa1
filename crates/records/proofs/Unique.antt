-- Each call's contract leaves one answer: two answers with one reply are one answer.
use Rattle.std.specs.Prelude.{Result, Option}
use Prim.Native.Nat.{ℕ}
use mathlib.Core.Path.{◌≡◌, sym, ◌∙◌}
use mathlib.Core.List.{List}
use Rattle.terms.specs.Refusals.{reply}
use Rattle.terms.proofs.Same.{reply-same}
use Rattle.records.specs.declared.key.Key.{Key}
use Rattle.records.specs.declared.day.DayRecord.{DayRecord}
use Rattle.records.specs.declared.group.GroupRecord.{GroupRecord}
use Rattle.records.specs.declared.unit.UnitRecord.{UnitRecord}
use Rattle.records.specs.declared.end.EndRecord.{EndRecord}
use Rattle.records.specs.Reading.{head_of, day_of, group_of, end_of, unit_of, units_of}
use Rattle.terms.specs.declared.refusal.Refusal.{Refusal}

module _ (s : List ℕ) where
  pub head-unique : (at kind len : ℕ) (a b : Result ℕ Refusal) → reply a ≡ head_of s at kind len → reply b ≡ head_of s at kind len → a ≡ b
  head-unique at kind len a b p q = reply-same a b (p ∙ sym q)

  pub read-day-unique : (a b : Result DayRecord Refusal) → reply a ≡ day_of s → reply b ≡ day_of s → a ≡ b
  read-day-unique a b p q = reply-same a b (p ∙ sym q)

  pub read-group-unique : (day : DayRecord) (last : Option Key) (a b : Result GroupRecord Refusal) → reply a ≡ group_of s day last → reply b ≡ group_of s day last → a ≡ b
  read-group-unique day last a b p q = reply-same a b (p ∙ sym q)

  pub read-end-unique : (accepted : ℕ) (a b : Result EndRecord Refusal) → reply a ≡ end_of s accepted → reply b ≡ end_of s accepted → a ≡ b
  read-end-unique accepted a b p q = reply-same a b (p ∙ sym q)

  pub unit-at-unique : (at floor : ℕ) (day : DayRecord) (a b : Result UnitRecord Refusal) → reply a ≡ unit_of s at floor day → reply b ≡ unit_of s at floor day → a ≡ b
  unit-at-unique at floor day a b p q = reply-same a b (p ∙ sym q)

  pub units-from-unique : (at : ℕ) (day : DayRecord) (count : ℕ) (a b : Result ℕ Refusal) → reply a ≡ units_of s at 0 day count → reply b ≡ units_of s at 0 day count → a ≡ b
  units-from-unique at day count a b p q = reply-same a b (p ∙ sym q)
