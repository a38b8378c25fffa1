-- Which numbers the reading of each record can be refused with. A test more of a record's fields is a number here, and what rests on the numbers is worked out anew.
use Rattle.std.specs.Prelude.{Option, None}
use Prim.Native.Nat.{ℕ, zero, suc, ◌+◌}
use mathlib.Core.Path.{◌≡◌, refl}
use mathlib.Core.Bool.{true}
use mathlib.Core.List.{List, [], ◌∷◌}
use Rattle.terms.proofs.Numbers.{is_of, all_of, By, value, by-more, by-need, by-sure, by_next, fault_numbers, by-passed}
use Rattle.records.specs.declared.key.Key.{Key}
use Rattle.records.specs.declared.day.DayRecord.{DayRecord}
use Rattle.records.specs.Layouts.{group_at}
use Rattle.records.specs.Reading.{head_of, day_fields_of, group_fields_of, end_fields_of, unit_head_of, unit_end, unit_fields_of, unit_of, units_of}
use Rattle.records.proofs.Ages.{of-position}

abbrev pub head_numbers : List ℕ
head_numbers = 1 ∷ 2 ∷ []

abbrev pub day_numbers : List ℕ
day_numbers = 3 ∷ []

-- of a group record that comes first in its day, and of any
abbrev pub first_numbers : List ℕ
first_numbers = 4 ∷ 5 ∷ 10 ∷ 17 ∷ []

abbrev pub group_numbers : List ℕ
group_numbers = 13 ∷ first_numbers

abbrev pub end_numbers : List ℕ
end_numbers = 14 ∷ []

abbrev pub unit_numbers : List ℕ
unit_numbers = 1 ∷ 2 ∷ fault_numbers

module _ (s : List ℕ) where
  pub by-head : (at kind len : ℕ) → By head_numbers (head_of s at kind len)
  unfolding head_of
  by-head at kind len = by-need _ 1 _ refl (by-need _ 2 _ refl (by-need _ 1 _ refl (value _)))

  pub by-unit-head : (at : ℕ) → By head_numbers (unit_head_of s at)
  by-unit-head at = by-head at _ _

  pub by-day : By day_numbers (day_fields_of s)
  unfolding day_fields_of
  by-day = by-need _ 3 _ refl (value _)

  pub by_end : (groups : ℕ) → By end_numbers (end_fields_of s groups)
  unfolding end_fields_of
  by_end groups = by-need _ 14 _ refl (value _)

  pub by-group : (d : DayRecord) (last : Option Key) → By group_numbers (group_fields_of s d last)
  unfolding group_fields_of
  by-group d last = by-need _ 4 _ refl (by-need _ 5 _ refl (by-need _ 13 _ refl (by-need _ _ _ (of-position (λ n. is_of group_numbers n ≡ true) refl refl d.run (group_at s 0).made) (value _))))

  -- the first block of a day comes after none
  pub by_first : (d : DayRecord) → By first_numbers (group_fields_of s d None)
  unfolding group_fields_of
  by_first d = by-need _ 4 _ refl (by-need _ 5 _ refl (by-sure _ 13 _ refl (by-need _ _ _ (of-position (λ n. is_of first_numbers n ≡ true) refl refl d.run (group_at s 0).made) (value _))))

  -- a unit, by the numbers of its head
  pub by-unit : (l : List ℕ) (at floor : ℕ) (day : DayRecord) → all_of (is_of l) fault_numbers ≡ true → By l (unit_head_of s at) → By l (unit_of s at floor day)
  unfolding unit_of unit_fields_of
  by-unit l at floor day e h = by_next h (λ _ _. by-passed _ _ e (value _))

  pub by_units : (at floor : ℕ) (day : DayRecord) (left : ℕ) → By unit_numbers (units_of s at floor day left)
  unfolding units_of
  by_units at floor day zero = value at
  by_units at floor day (suc left) =
      by_next (by-unit unit_numbers at floor day refl (by-more head_numbers unit_numbers refl (by-unit-head at))) (λ u _. by_units (unit_end s at) (u.number + 1) day left)
