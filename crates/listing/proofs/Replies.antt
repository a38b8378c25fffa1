-- The ends of a step, and what was offered: the lines by the room after the call are those by the block's result.
use Rattle.std.proofs.Common.{◌≡◌, ℕ, ◌+◌, ◌<◌, ◌≤◌, Bool, true, false, not, ◌&&◌, List, [], ◌++◌, length, drop, sym, refl, ap, ◌∙◌, append_assoc, append-nil, arith, length-append, take-append-drop, ltb-true, lt-ltb, le-ltb}
use Rattle.std.specs.Array.{IsFirstChunk}
use Rattle.std.proofs.lemmas.List.{drop-append-le}
use mathlib.Core.Bool.{and-false}
use Rattle.numbers.specs.Bytes.{byte_at}
use Rattle.numbers.specs.Choice.{pick}
use Rattle.numbers.proofs.Laid.{laid_none, laid-front}
use Rattle.terms.specs.Reply.{is}
use Rattle.terms.specs.Refusals.{number_of, refusal}
use Rattle.terms.specs.declared.refusal.Refusal.{Refusal}
use Rattle.terms.proofs.Replies.{need-is, next-is}
use Rattle.records.specs.declared.group_result.GroupResult.{GroupResult}
use Rattle.records.specs.Layouts.{result_count, group_result_at}
use Rattle.writers.specs.Results.{result_length}
use Rattle.writers.proofs.Runs.{run-same}
use Rattle.walk.specs.declared.table.Role.{Role}
use Rattle.walk.specs.declared.table.Role.TheVariants.{Opens, Block, Closes}
use Rattle.walk.specs.Table.{role_of, is_block}
use Rattle.day.specs.declared.value.Day.{Day}
use Rattle.records.specs.Longest.{longest_result}
use Rattle.day.specs.Outcome.{Step}
use Rattle.day.specs.Outcome as O
use Rattle.decode.specs.Block.{block_count}
use Rattle.blocks.specs.Blocks.{group_result, group_told, block_result}
use Rattle.day.specs.Offers.{head_for, offer_of, written_of, Offers}
use Rattle.day.proofs.Taking.{result-length}
use Rattle.day.proofs.Outcomes.{taken-block, reply}
use Rattle.blocks.proofs.ReadBack.{group-back, unit-back}
use Rattle.day.proofs.Demands.{block-accepted, result-bytes, group-told, unit-told}
use Rattle.lines.specs.Lines.{unit_line, unit_line_at, result_lines, longest_lines}
use Rattle.lines.specs.Inner.{Readable}
use Rattle.listing.specs.declared.list.Listing.{Listing}
use Rattle.listing.specs.declared.list.Listed.{Listed}
use Rattle.listing.specs.declared.list.Listed.TheVariants.{Full, Done}
use Rattle.listing.specs.Listing.{answer_of, waits, full, done, Outcome, outcome, accepted_lines, list_taken, list_refused, list_reply, must_wait, list_offered, over, list_of, Lists}

module _ (l : Listing) (s : List ℕ) (ended : Bool) (entry : List ℕ) where
  -- an answer that writes nothing
  silent : (r : Listed) → list_of l s ended (length entry) ≡ outcome (answer_of r) [] → Lists (list_of l s ended (length entry)) entry r entry
  silent r e = rw e (record { replied = refl; room = laid_none entry 0 })

  is-full : length entry < longest_lines → list_of l s ended (length entry) ≡ outcome full []
  unfolding list_of
  is-full h = rw (lt-ltb (length entry) longest_lines h)

  pub when-full : length entry < longest_lines → Lists (list_of l s ended (length entry)) entry Full entry
  when-full h = silent Full (is-full h)

  module _ (h : longest_lines ≤ length entry) where
    is-done : (ended && over l.day s) ≡ true → list_of l s ended (length entry) ≡ outcome done []
    unfolding list_of
    is-done c = rw (le-ltb (length entry) longest_lines h, c)

    pub when-done : (ended && over l.day s) ≡ true → Lists (list_of l s ended (length entry)) entry Done entry
    when-done c = silent Done (is-done c)

    pub offered : (ended && over l.day s) ≡ false → list_of l s ended (length entry) ≡ list_offered l.place s ended (offer_of l.day s longest_result)
    unfolding list_of
    offered c = rw (le-ltb (length entry) longest_lines h, c)

-- what was offered is there
pub present : (day : Day) (s : List ℕ) (room : ℕ) {step : Step} → offer_of day s room ≡ is step → 0 < length s
unfolding offer_of head_for
present day s room e = ltb-true 0 (length s) (need-is _ _ _ _ (next-is _ _ e).1.0).0

module _ (day : Day) (s entry : List ℕ) (long : length entry ≡ longest_result) where
  module _ {step : Step} {exit : List ℕ} (o : Offers day s entry (O.Taken step) exit) where
    module _ (block : role_of (byte_at s 0) ≡ Block) where
      told : group_result_at exit 0 ≡ group_told s
      told = group-told day s entry o block

      told-again : group_result_at (block_result s) 0 ≡ group_told s
      told-again = group-back s [] (block_result s) (block-accepted day s entry o block) (sym (append-nil (block_result s)))

      same-unit : (i : ℕ) → i < block_count s → unit_line_at exit i ≡ unit_line_at (block_result s) i
      same-unit i l =
          ap unit_line
          (unit-told day s entry o block i l ∙ sym (unit-back s [] (block_result s) (block-accepted day s entry o block) (sym (append-nil (block_result s))) i l))

      same_lines : result_lines exit ≡ result_lines (block_result s)
      unfolding result_lines group_result
      same_lines = rw (told, told-again, run-same (unit_line_at exit) (unit_line_at (block_result s)) (block_count s) same-unit)

      counted : byte_at exit result_count.place ≡ block_count s
      unfolding group_result_at group_result
      counted = ap (λ (g : GroupResult). g.count) told

      pub readable : Readable exit
      readable =
          let t = taken-block day s (length entry) (reply day s entry o) block in
          let n : length exit ≡ length (block_result s) + length (drop (result_length (block_count s)) entry) =
          ap length (result-bytes day s entry o block) ∙ length-append (block_result s) (drop (result_length (block_count s)) entry) in
          let m = result-length s in
          record { few = omega (arith, counted, t.enough, long); long = omega (arith, counted) }

    lines-agree : (left : Day) → accepted_lines (role_of (byte_at s 0)) left exit ≡ accepted_lines (role_of (byte_at s 0)) left (written_of s)
    unfolding accepted_lines
    lines-agree left = go (role_of (byte_at s 0)) refl
      where
        go : (role : Role) → role_of (byte_at s 0) ≡ role → accepted_lines role left exit ≡ accepted_lines role left (pick (is_block role) (block_result s) [])
        go Opens q = refl
        go Block q = same_lines q
        go Closes q = refl

    pub taken : (place : ℕ) (ended : Bool) → list_taken place step (role_of (byte_at s 0)) exit ≡ list_offered place s ended (offer_of day s longest_result)
    unfolding list_taken list_reply list_offered
    taken place ended =
        let e : offer_of day s longest_result ≡ is step = rw long at (reply day s entry o) in
        rw (e, and-false (not ended), lines-agree step.day)

    pub at-hand : 0 < length s
    at-hand = present day s (length entry) (reply day s entry o)

  pub refused : (f : Refusal) (back : Day) {exit : List ℕ} → Offers day s entry (O.Refused f back) exit → (place : ℕ) (ended : Bool)
      → pick (must_wait (refusal f) ended) (outcome waits []) (list_refused place (number_of f.why) f.place) ≡ list_offered place s ended (offer_of day s longest_result)
  unfolding list_reply list_offered
  refused f back o place ended =
      let e : offer_of day s longest_result ≡ refusal f = rw long at (sym o.gave.replied) in
      rw e

-- lines at the front of a room that keeps its length: the rest is as it was
pub in-front : {right : Outcome} {entry front exit : List ℕ} {n : ℕ} {r : Listed} → IsFirstChunk entry front n → length (exit ++ drop n entry) ≡ length entry
    → Lists right front r exit → Lists right entry r (exit ++ drop n entry)
in-front {right} {entry} {front} {exit} {n} chunk kept a =
    let lines = right.lines in
    let rest = drop n entry in
    let after = drop (length lines) front in
    let whole : entry ≡ front ++ rest = rw chunk.same (sym (take-append-drop n entry)) in
    let e : exit ≡ lines ++ after = a.room ∙ laid-front front lines in
    let few : length lines ≤ length front = omega (arith, ap length e, ap length whole, length-append exit rest, length-append front rest, length-append lines after) in
    let behind : drop (length lines) entry ≡ after ++ rest = ap (drop (length lines)) whole ∙ drop-append-le (length lines) front rest few in
    record { replied = a.replied; room = rw (e, append_assoc lines after rest, ← behind) (sym (laid-front entry lines)) }
