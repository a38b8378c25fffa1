-- A day's block whose group record passed: what the block's units and the room leave of it, the day counts.
use Prim.Native.Nat.{ℕ}
use mathlib.Core.Path.{◌≡◌, refl}
use mathlib.Core.Bool.{Bool, true, false}
use mathlib.Core.List.{List}
use lib.Dec.{leb}
use lib.ListN.{length}
use Rattle.terms.specs.Reply.{Reply, is, refused, need, next}
use Rattle.records.specs.declared.group.GroupRecord.{GroupRecord}
use Rattle.records.specs.Reading.{group_fields_of}
use Rattle.blocks.specs.declared.check.Block.{Block}
use Rattle.blocks.specs.Checking.{block_units_of}
use Rattle.blocks.specs.Inner.{units_taken}
use Rattle.day.specs.declared.value.Day.{Day}
use Rattle.day.specs.Outcome.{Step}
use Rattle.day.specs.Days.{counted}
use Rattle.day.specs.Offers.{block_taken}
use Rattle.day.specs.Checking.{block_fields_of}

module _ (day : Day) (s : List ℕ) (group : GroupRecord) (entry : List ℕ) (e : group_fields_of s day.«record» day.last ≡ is group) where
  abbrev taking : Reply Block
  taking = units_taken s group day.«record» (length entry)

  -- the step that a block leaves
  abbrev left : Block → Step
  left block = record { used = block.used; written = block.written; day = counted day block.key }

  taken_then : (x : Reply Block) (room : ℕ)
      → next x (λ block. need (leb block.written room) 12 0 (is (left block))) ≡ next (next x λ block. need (leb block.written room) 12 0 (is block)) (λ block. is (left block))
  unfolding next need
  taken_then (refused n p) room = refl
  taken_then (is block) room = by (leb block.written room)
    where
      by : (t : Bool) → need t 12 0 (is (left block)) ≡ next (need t 12 0 (is block)) (λ block. is (left block))
      by true = refl
      by false = refl

  pub block-then : block_taken day s (length entry) ≡ next taking (λ block. is (left block))
  unfolding block_taken block_fields_of units_taken next
  block-then = rw e (taken_then (block_units_of s group day.«record») (length entry))
