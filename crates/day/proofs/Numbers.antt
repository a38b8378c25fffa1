-- Which numbers an offer can be refused with, part by part: those of its records' readings, of what comes after a block's units, and 12.
use Prim.Native.Nat.{ℕ}
use mathlib.Core.Path.{◌≡◌, refl}
use mathlib.Core.Bool.{true}
use mathlib.Core.List.{List, ◌∷◌, ◌++◌}
use Rattle.numbers.proofs.Choices.{and_both}
use Rattle.terms.specs.Reply.{is}
use Rattle.terms.proofs.Numbers.{is_of, all_of, By, value, by-more, by-need, by_next, fault_numbers}
use Rattle.records.specs.declared.group.GroupRecord.{GroupRecord}
use Rattle.records.specs.Layouts.{group_length}
use Rattle.records.specs.Reading.{group_fields_of, judged_by, units_of}
use Rattle.records.proofs.Numbers.{head_numbers, day_numbers, group_numbers, end_numbers, unit_numbers, by-day, by-group, by_end, by_units}
use Rattle.walk.specs.declared.table.Role.{Role}
use Rattle.walk.specs.declared.table.Role.TheVariants.{Opens, Block, Closes}
use Rattle.walk.specs.Table.{head_in, block_head_in}
use Rattle.blocks.proofs.ByUnits.{after_units, by-block}
use Rattle.day.specs.declared.value.Day.{Day}
use Rattle.day.specs.Checking.{block_fields_of, block_head_for}
use Rattle.day.specs.Offers.{head_for, day_taken, block_taken, end_taken, taken, offer_of}

-- those of an offer that is not cut short, and all of them
abbrev pub uncut_numbers : List ℕ
uncut_numbers = 2 ∷ 12 ∷ day_numbers ++ (group_numbers ++ (end_numbers ++ (after_units ++ fault_numbers)))

abbrev pub offer_numbers : List ℕ
offer_numbers = 1 ∷ uncut_numbers

module _ (day : Day) (s : List ℕ) where
  pub by-head-for : By head_numbers (head_for day s)
  unfolding head_for head_in
  by-head-for = by-need _ 1 _ refl (by-need _ 2 _ refl (by-need _ 1 _ refl (by-need _ 2 _ refl (by-need _ 1 _ refl (value _)))))

  pub by-block-head : By head_numbers (block_head_for day s)
  unfolding block_head_for block_head_in head_in
  by-block-head =
      by-need _ 1 _ refl (by-need _ 2 _ refl (by-need _ 1 _ refl (by-need _ 2 _ refl (by-need _ 1 _ refl (by-need _ 2 _ refl (by-need _ 1 _ refl (value _)))))))

  pub by-opens : (end : ℕ) → By day_numbers (day_taken s end)
  unfolding day_taken
  by-opens end = by_next (by-day s) (λ d _. value _)

  pub by-closes : (end : ℕ) → By end_numbers (end_taken day s end)
  unfolding end_taken
  by-closes end = by_next (by_end s day.groups) (λ e _. value _)

  -- a block, by the numbers of its group record and of its units
  module _ (l : List ℕ) (after : all_of (is_of l) (12 ∷ after_units) ≡ true) (group : By l (group_fields_of s day.«record» day.last)) where
    pub by-taken : ((g : GroupRecord) → group_fields_of s day.«record» day.last ≡ is g → By l (units_of s group_length 0 (judged_by g day.«record») g.count))
        → (room : ℕ) → By l (block_taken day s room)
    unfolding block_taken block_fields_of
    by-taken units room =
        let b = and_both (is_of l 12) (all_of (is_of l) after_units) after in
        by_next (by_next group (λ g e. by-block s g _ l b.1 (units g e))) (λ block _. by-need _ 12 _ b.0 (value _))

  by-role : (room : ℕ) (role : Role) (end : ℕ) → By offer_numbers (taken day s room role end)
  by-role room Opens end = by-more day_numbers offer_numbers refl (by-opens end)
  by-role room Block end = by-taken offer_numbers refl (by-more group_numbers offer_numbers refl (by-group s _ _)) (λ g _. by-more unit_numbers offer_numbers refl (by_units s _ _ _ _)) room
  by-role room Closes end = by-more end_numbers offer_numbers refl (by-closes end)

  pub by-offer : (room : ℕ) → By offer_numbers (offer_of day s room)
  unfolding offer_of
  by-offer room = by_next (by-more head_numbers offer_numbers refl by-head-for) (λ h _. by-role room h.role h.end)
