-- A block by its units: a refusal of theirs is its own, and units that passed are a block. What a block is refused for after its units changes these laws, and no other law takes it apart.
use Prim.Native.Nat.{ℕ, ◌≤◌}
use mathlib.Core.Path.{◌≡◌, sym}
use mathlib.Core.Bool.{true}
use mathlib.Core.List.{List, []}
use Rattle.terms.specs.Reply.{Reply, is, refused, next}
use Rattle.terms.proofs.Replies.{never, next-is}
use Rattle.terms.proofs.Numbers.{is_of, all_of, By, value, by_next}
use Rattle.records.specs.declared.day.DayRecord.{DayRecord}
use Rattle.records.specs.declared.group.GroupRecord.{GroupRecord}
use Rattle.records.specs.Layouts.{group_length}
use Rattle.records.specs.Reading.{judged_by, units_of}
use Rattle.records.proofs.Alike.{Agree, units-kept}
use Rattle.blocks.specs.declared.check.Block.{Block}
use Rattle.blocks.specs.Checking.{block_of, block_units_of}

-- the numbers of refusals that come after a block's units: none
abbrev pub after_units : List ℕ
after_units = []

module _ (s : List ℕ) (group : GroupRecord) (day : DayRecord) where
  abbrev units : Reply ℕ
  units = units_of s group_length 0 (judged_by group day) group.count

  pub units-refuse : {n p : ℕ} → units ≡ refused n p → block_units_of s group day ≡ refused n p
  unfolding block_units_of next
  units-refuse e = rw e

  pub units-pass : {end : ℕ} → units ≡ is end → block_units_of s group day ≡ is (block_of group end)
  unfolding block_units_of next
  units-pass e = rw e

  -- a block came of units that passed
  pub record Made (block : Block) : Type 0 where
    pub end : ℕ
    pub passed : units ≡ is end
    pub value : block ≡ block_of group end

  pub made : {block : Block} → block_units_of s group day ≡ is block → Made block
  unfolding block_units_of
  made e =
      let a = next-is units _ e in
      record { end = a.0; passed = a.1.0; value = cc a.1.1 }

  -- a refusal by none of the numbers after the units is theirs
  pub unmade : {n p : ℕ} → (is_of after_units n ≡ true → ⊥) → block_units_of s group day ≡ refused n p → units ≡ refused n p
  unfolding block_units_of next
  unmade {n} {p} other = go units
    where
      go : (x : Reply ℕ) → next x (λ end. is (block_of group end)) ≡ refused n p → x ≡ refused n p
      go (is end) e = never (sym e)
      go (refused m q) e =
          let z : m ≡ n = cc in
          let y : q ≡ p = cc in
          rw (z, y)

  -- a block is refused by the numbers of its units, and by those after them
  pub by-block : (l : List ℕ) → all_of (is_of l) after_units ≡ true → By l units → By l (block_units_of s group day)
  unfolding block_units_of
  by-block l e h = by_next h (λ end _. value _)

-- bytes that agree as far as units go that passed make one block
pub block-alike : (s t : List ℕ) (n : ℕ) → Agree s t n → (group : GroupRecord) (day : DayRecord) {end : ℕ} → end ≤ n → units_of s group_length 0 (judged_by group day) group.count ≡ is end
    → block_units_of t group day ≡ block_units_of s group day
unfolding block_units_of
block-alike s t n a group day h e = rw (units-kept s t n a group_length 0 (judged_by group day) group.count h e, e)
