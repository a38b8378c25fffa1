-- What the header says of the C call: each number in its reply is one of those listed, and an accepted call is the offer of the block to the day just opened, so that the demands on an offer carry over.
use Prim.Native.Nat.{ℕ, ◌≤◌, ◌<◌}
use mathlib.Core.Path.{◌≡◌, refl, sym, ◌∙◌}
use mathlib.Core.Bool.{Bool, true, false, ◌||◌, false≢true}
use mathlib.Core.List.{List, [], ◌∷◌, ◌++◌, Memᴰ}
use native.Mathlib.Omega.{arith}
use borrow.Author.Tests.{leb-true, eqb-true}
use lib.Dec.{leb, eqb}
use lib.IntN.{ℤ, pos, neg_ℤ}
use lib.ListN.{length, drop}
use Rattle.numbers.specs.Bytes.{byte_at}
use Rattle.numbers.proofs.Choices.{and_both}
use Rattle.numbers.proofs.Integers.{zarith, neg}
use Rattle.terms.specs.Reply.{Reply, is, refused}
use Rattle.terms.specs.Checks.{most_units}
use Rattle.terms.proofs.Replies.{next-is}
use Rattle.terms.proofs.Numbers.{is_of, each, By, number, by-more, by_next}
use Rattle.group.specs.Demand3.{Demand3}
use Rattle.records.specs.declared.day.DayRecord.{DayRecord}
use Rattle.records.specs.Layouts.{group_result_at, unit_result_at}
use Rattle.records.specs.Longest.{longest_result}
use Rattle.records.specs.Reading.{day_of}
use Rattle.records.proofs.Read.{day-read}
use Rattle.records.proofs.Numbers.{head_numbers, day_numbers, first_numbers, unit_numbers, by-head, by-day, by_first, by_units}
use Rattle.writers.specs.Results.{result_length}
use Rattle.walk.specs.declared.table.Role.TheVariants.{Block}
use Rattle.walk.specs.Table.{role_of}
use Rattle.decode.specs.Block.{block_count}
use Rattle.blocks.specs.Blocks.{group_told, block_group, block_result, unit_result}
use Rattle.day.specs.Outcome.{Step}
use Rattle.day.specs.Days.{opened}
use Rattle.day.specs.Offers.{offer_of, block_offer_of, room_after}
use Rattle.day.proofs.Taking.{takes}
use Rattle.day.proofs.Read.{read}
use Rattle.day.proofs.Numbers.{by-block-head, by-taken}
use Rattle.day.proofs.Outcomes.{taken-block}
use Rattle.day.proofs.BlockAlone.{alone-offered, alone-block}
use Rattle.day.proofs.Demands.{result-bytes, group-told, unit-told, block-fair}
use Rattle.desk.specs.Desk.{first_of, call_of, given, Checks}
use Rattle.desk.specs.Header.{call_numbers, Replied, CallTaken}
use Rattle.desk.specs.Header as H
use Rattle.desk.proofs.First.{first_alone}

-- ---- the numbers
is-of : (l : List ℕ) (n : ℕ) → is_of l n ≡ true → Memᴰ n l
is-of [] n e = absurd (false≢true e)
is-of (m ∷ rest) n e = go (eqb n m) refl e (is-of rest n)
  where
    go : (t : Bool) → eqb n m ≡ t → t || is_of rest n ≡ true → (is_of rest n ≡ true → Memᴰ n rest) → Memᴰ n (m ∷ rest)
    go true same k further = Memᴰ.head (eqb-true n m same)
    go false other k further = Memᴰ.tail (further k)

by-alone : (d : DayRecord) (s : List ℕ) (room : ℕ) → By call_numbers (block_offer_of (opened d) s room)
unfolding block_offer_of
by-alone d s room =
    by_next (by-more head_numbers call_numbers refl (by-block-head (opened d) s))
    (λ _ _. by-taken (opened d) s call_numbers refl (by-more first_numbers call_numbers refl (by_first s d)) (λ g _. by-more unit_numbers call_numbers refl (by_units s _ _ _ _)) room)

by_call : (day s : List ℕ) (room : ℕ) → By call_numbers (call_of day s room)
unfolding call_of day_of
by_call day s room =
    by_next
    (by_next (by-more head_numbers call_numbers refl (by-head day 0 _ _)) (λ _ _. by-more day_numbers call_numbers refl (by-day day)))
    (λ d e. rw (first_alone d (day-read day e).passed.quarters s room) (by-alone d s room))

-- ---- an accepted call
module _ (day s : List ℕ) (room : ℕ) {step : Step} (e : call_of day s room ≡ is step) where
  -- the day that was opened, and the block offered alone to it
  parts : (d : DayRecord) × ((day_of day ≡ is d) × (block_offer_of (opened d) s room ≡ is step))
  unfolding call_of
  parts =
      let a = next-is (day_of day) (λ d. first_of d s room) e in
      (a.0, (a.1.0, sym (first_alone a.0 (day-read day a.1.0).passed.quarters s room) ∙ a.1.1))

  block-is : role_of (byte_at s 0) ≡ Block
  block-is = alone-block (opened parts.0) s room parts.1.1

  offered : offer_of (opened parts.0) s room ≡ is step
  offered = sym (alone-offered (opened parts.0) s block-is room) ∙ parts.1.1

  written_in : (result_length 1 ≤ step.written) × (step.written ≤ longest_result)
  written_in =
      let d = parts.0 in
      let t = taken-block (opened d) s room offered block-is in
      let g = (read (opened d) s t.long t.fields).passed in
      let few = g.most in
      let some = leb-true 1 (block_count s) (and_both (leb 1 (block_count s)) (leb (block_count s) most_units) g.counted).0 in
      rw t.value (omega arith, omega arith)

-- The reply is a length, from that of one unit's result to the longest, or minus one of the numbers listed, never 0.
pub reply-in : (day block entry : List ℕ) {z : ℤ} {exit : List ℕ} → Checks day block entry z exit → Replied z
unfolding given
reply-in day block entry c = rw c.replied (go (call_of day block (length entry)) refl (by_call day block (length entry)))
  where
    go : (x : Reply Step) → call_of day block (length entry) ≡ x → By call_numbers x → Replied (given x)
    go (is step) e h =
        let w = written_in day block (length entry) e in
        H.length step.written w.0 w.1
    go (refused n p) e (number m q k) = H.refusal m (is-of call_numbers m k)

-- An accepted call is the offer of the block to the day just opened, taken.
pub call-taken : (day block entry : List ℕ) (n : ℕ) {exit : List ℕ} → Checks day block entry (pos n) exit → CallTaken day block entry n exit
unfolding given room_after
call-taken day block entry n {exit} c = go (call_of day block (length entry)) refl (by_call day block (length entry)) c.replied c.room
  where
    go : (x : Reply Step) → call_of day block (length entry) ≡ x → By call_numbers x → pos n ≡ given x → exit ≡ room_after x (block_result block) entry → CallTaken day block entry n exit
    go (is step) e h w r =
        let k = block-is day block (length entry) e in
        let o = offered day block (length entry) e in
        let d = (parts day block (length entry) e).0 in
        record {
          opens = d;
          read = (parts day block (length entry) e).1.0;
          step = step;
          is_block = k;
          taken = record { gave = takes (opened d) step o; room = rw (o, k) r };
          told = omega zarith;
        }
    go (refused n' p') e (number m p k) w r =
        let b = leb-true 1 m (each (leb 1) call_numbers m refl k) in
        absurd (omega (zarith, neg (pos m)))

-- A refused call leaves the room as it was.
pub call-keeps : (day block entry : List ℕ) (n : ℕ) {exit : List ℕ} → 1 ≤ n → Checks day block entry (neg_ℤ (pos n)) exit → exit ≡ entry
unfolding given room_after
call-keeps day block entry n {exit} l c = go (call_of day block (length entry)) c.replied c.room
  where
    go : (x : Reply Step) → neg_ℤ (pos n) ≡ given x → exit ≡ room_after x (block_result block) entry → exit ≡ entry
    go (is step) w r = absurd (omega (zarith, neg (pos n)))
    go (refused m p) w r = r

-- Demands 2 and 3 carry over.
module _ (day block entry : List ℕ) {n : ℕ} {exit : List ℕ} (c : CallTaken day block entry n exit) where
  pub call-bytes : exit ≡ block_result block ++ drop (result_length (block_count block)) entry
  call-bytes = result-bytes (opened c.opens) block entry c.taken c.is_block

  pub call-group-told : group_result_at exit 0 ≡ group_told block
  call-group-told = group-told (opened c.opens) block entry c.taken c.is_block

  pub call-unit-told : (i : ℕ) → i < block_count block → unit_result_at exit (result_length i) ≡ unit_result block i
  call-unit-told = unit-told (opened c.opens) block entry c.taken c.is_block

  pub call-fair : Demand3 (block_group block)
  call-fair = block-fair (opened c.opens) block entry c.taken c.is_block
