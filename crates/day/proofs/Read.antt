-- What holds of a block that passed its checks: its values are the layouts', and each is in its range.
use Prim.Native.Nat.{ℕ, ◌≤◌}
use mathlib.Core.Path.{◌≡◌, ap, ◌∙◌}
use mathlib.Core.List.{List}
use lib.ListN.{length}
use Rattle.terms.specs.Reply.{is}
use Rattle.terms.proofs.Replies.{next-is}
use Rattle.group.specs.Accepted.{Accepted}
use Rattle.records.specs.Layouts.{group_length, group_at}
use Rattle.records.specs.Reading.{group_fields_of, judged_by, units_of, unit_place}
use Rattle.records.proofs.Accepted.{block-end}
use Rattle.records.proofs.Read.{GroupPassed, group-passed}
use Rattle.blocks.specs.declared.check.Block.{Block}
use Rattle.blocks.specs.Checking.{block_of, block_units_of}
use Rattle.decode.specs.Block.{block_count}
use Rattle.blocks.specs.Blocks.{block_group}
use Rattle.blocks.proofs.Sound.{units-accepted}
use Rattle.blocks.proofs.ByUnits.{made}
use Rattle.day.specs.declared.value.Day.{Day}
use Rattle.day.specs.Checking.{block_fields_of}

pub record Read (day : Day) (s : List ℕ) (block : Block) : Type 0 where
  pub group : group_fields_of s day.«record» day.last ≡ is (group_at s 0)
  pub passed : GroupPassed s day.«record» day.last (group_at s 0)
  pub units : units_of s group_length 0 (judged_by (group_at s 0) day.«record») (block_count s) ≡ is (unit_place s (block_count s))
  pub value : block ≡ block_of (group_at s 0) (unit_place s (block_count s))
  pub accepted : Accepted (block_group s)

pub read : (day : Day) (s : List ℕ) {block : Block} → group_length ≤ length s → block_fields_of day s ≡ is block → Read day s block
unfolding block_fields_of
read day s {block} long e =
    let a = next-is _ _ e in
    let v = (group-passed s day.«record» day.last a.1.0).value in
    let group : group_fields_of s day.«record» day.last ≡ is (group_at s 0) = a.1.0 ∙ ap is v in
    let passed = group-passed s day.«record» day.last group in
    let whole : block_units_of s (group_at s 0) day.«record» ≡ is block = rw v at a.1.1 in
    let m = made s (group_at s 0) day.«record» whole in
    let end = block-end s _ (block_count s) long m.passed in
    record {
      group = group;
      passed = passed;
      units = m.passed ∙ ap is end;
      value = m.value ∙ rw end;
      accepted = units-accepted s _ (block_count s) long passed.most m.passed;
    }
