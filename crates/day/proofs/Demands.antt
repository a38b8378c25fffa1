-- The three demands on an offer, sentence by sentence, from its contract: its reply is an equation, its result the group's definitions, and its group accepted.
use Prim.Native.Nat.{ℕ, ◌<◌}
use mathlib.Core.Path.{◌≡◌, refl, sym, ◌∙◌}
use mathlib.Core.Bool.{true}
use mathlib.Core.Logic.{◌⊎◌, inl, inr}
use mathlib.Core.List.{List, ◌++◌}
use lib.IntN.{ℤ, pos}
use lib.ListN.{length, take, drop}
use lib.Signed.{le_z}
use Rattle.numbers.specs.Bytes.{byte_at}
use Rattle.numbers.specs.Column.{at}
use Rattle.numbers.proofs.Columns.{column-at}
use Rattle.terms.specs.Reply.{Reply, is}
use Rattle.terms.specs.Refusals.{refusal}
use Rattle.terms.specs.declared.refusal.Refusal.{Refusal}
use Rattle.group.specs.Group.{n3}
use Rattle.group.specs.Accepted.{Accepted}
use Rattle.group.specs.Demand3.{Demand3}
use Rattle.group.proofs.Demand3.{group-demand3}
use Rattle.records.specs.Layouts.{group_result_at, unit_result_at, margins_of}
use Rattle.records.specs.Reading.{unit_place, unit_in}
use Rattle.records.specs.Decoding.{Inside}
use Rattle.records.proofs.Accepted.{Sound, unit-in}
use Rattle.records.proofs.Working.{inside}
use Rattle.writers.specs.Results.{result_length}
use Rattle.walk.specs.declared.table.Role.TheVariants.{Block}
use Rattle.walk.specs.Table.{role_of}
use Rattle.day.specs.declared.value.Day.{Day}
use Rattle.day.specs.Outcome.{Step}
use Rattle.day.specs.Outcome.{Offered}
use Rattle.day.specs.Outcome as O
use Rattle.day.specs.Days.{counted}
use Rattle.decode.specs.Block.{block_count}
use Rattle.blocks.specs.Blocks.{group_told, block_key, block_group, block_result, unit_result}
use Rattle.day.specs.Offers.{day_after, room_after, written_of, Offering, Offers}
use Rattle.day.specs.Answered.{Sayable, value, reason, One}
use Rattle.day.proofs.Taking.{refuses, takes}
use Rattle.day.proofs.Read.{read}
use Rattle.day.proofs.Outcomes.{TakenBlock, taken-block, reply, laid_out, result-at-front, rest-kept}
use Rattle.blocks.proofs.ReadBack.{group-back, unit-back}
use Rattle.day.proofs.Sayable.{offer-sayable}
use Rattle.day.proofs.Unique.{offering-unique}

-- ---- Demand 1
one : {right : Reply Step} (bytes : List ℕ) (day : Day) (entry : List ℕ) → Sayable right → (r : Offered) × ((x : List ℕ) × Offering right bytes day entry r x)
one bytes day entry (value step) = (O.Taken step, (room_after (is step) bytes entry, record { gave = takes day step refl; room = refl }))
one bytes day entry (reason f) = (O.Refused f day, (room_after (refusal f) bytes entry, record { gave = refuses day f refl; room = refl }))

-- Every byte string, offered to any day with any room, gets one answer and leaves one content of the room.
pub offer-answered : (day : Day) (s entry : List ℕ) → One day s entry
offer-answered day s entry =
    let a = one (written_of s) day entry (offer-sayable s day (length entry)) in
    record { answer = a.0; room = a.1.0; right = a.1.1; only = λ q y o. offering-unique _ _ day entry q a.0 o a.1.1 }

-- A refusal returns the day unchanged and writes nothing into the room.
pub refusal-keeps : (day : Day) (s entry : List ℕ) (f : Refusal) (back : Day) {exit : List ℕ} → Offers day s entry (O.Refused f back) exit
    → (back ≡ day) × (exit ≡ entry)
unfolding day_after room_after
refusal-keeps day s entry f back o =
    let e = sym o.gave.replied in
    (o.gave.returned ∙ rw e, o.room ∙ rw e)

-- An accepted offer writes its result and no byte of the room beyond it.
pub taken-writes : (day : Day) (s entry : List ℕ) {step : Step} {exit : List ℕ} → Offers day s entry (O.Taken step) exit
    → (take step.written exit ≡ written_of s) × (drop step.written exit ≡ drop step.written entry)
taken-writes day s entry o = (result-at-front day s entry o, rest-kept day s entry o)

-- ---- Demands 2 and 3, for each block that is taken
module _ (day : Day) (s entry : List ℕ) {step : Step} {exit : List ℕ} (o : Offers day s entry (O.Taken step) exit) (block : role_of (byte_at s 0) ≡ Block) where
  took : TakenBlock day s (length entry) step
  took = taken-block day s (length entry) (reply day s entry o) block

  -- the result of the block stands at the front of the room
  written : written_of s ≡ block_result s
  written = rw block

  -- 2. The block's units, by the layouts, are a group that passes every check of its columns,
  pub block-accepted : Accepted (block_group s)
  block-accepted = (read day s took.long took.fields).accepted

  -- the result's bytes are those of this group's definitions, and no others are written,
  pub result-bytes : exit ≡ block_result s ++ drop (result_length (block_count s)) entry
  result-bytes = laid_out day s entry o ∙ rw (written, took.value)

  -- by the layouts its group result has the block's key and count, and the verdict, P, S1, S2, S3 and balance of the steps,
  pub group-told : group_result_at exit 0 ≡ group_told s
  group-told = group-back s (drop (result_length (block_count s)) entry) exit block-accepted result-bytes

  -- each unit result has the unit's number and reason, and its n0, n1, n2 and n3,
  pub unit-told : (i : ℕ) → i < block_count s → unit_result_at exit (result_length i) ≡ unit_result s i
  unit-told = unit-back s (drop (result_length (block_count s)) entry) exit block-accepted result-bytes

  -- and the reply tells the block's bytes as used, its result's as written, and the day with this group counted and last.
  pub step-told : step ≡ record { used = unit_place s (block_count s); written = result_length (block_count s); day = counted day (block_key s) }
  step-told = took.value

  -- 3. Step 2 of it is fair: each sentence is a field of `Demand3`.
  pub block-fair : Demand3 (block_group s)
  block-fair = group-demand3 (block_group s) block-accepted

  -- The margins of the group are the working ones: so a unit ends at zero, or inside both its margins and its interval.
  pub block_inside : (i : ℕ) → i < block_count s → (at (n3 (block_group s)) i ≡ pos 0) ⊎ Inside (unit_in s i) (at (n3 (block_group s)) i)
  block_inside i l =
      let units = (read day s took.long took.fields).units in
      go (unit-in s _ (block_count s) took.long units i l) (block-fair.ends-inside i)
    where
      down : ℕ → ℤ
      down j = (margins_of (unit_in s j)).step_down

      up : ℕ → ℤ
      up j = (margins_of (unit_in s j)).step_up

      go : Sound (unit_in s i) → (at (n3 (block_group s)) i ≡ pos 0) ⊎ ((le_z (at (block_group s).step_down i) (at (n3 (block_group s)) i) ≡ true) × (le_z (at (n3 (block_group s)) i) (at (block_group s).step_up i) ≡ true))
          → (at (n3 (block_group s)) i ≡ pos 0) ⊎ Inside (unit_in s i) (at (n3 (block_group s)) i)
      go sound (inl e) = inl e
      go sound (inr p) =
          let low : le_z (down i) (at (n3 (block_group s)) i) ≡ true = rw (column-at down (block_count s) i (pos 0) l) at p.0 in
          let high : le_z (at (n3 (block_group s)) i) (up i) ≡ true = rw (column-at up (block_count s) i (pos 0) l) at p.1 in
          inr (inside (unit_in s i) sound (at (n3 (block_group s)) i) low high)
