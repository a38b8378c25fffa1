-- What a step used lies in the bytes at hand, and what it wrote in the room.
use Rattle.std.proofs.Common.{◌≡◌, ℕ, ◌≤◌, Bool, true, false, ◌&&◌, ltb, List, [], length, drop, refl, ap, ◌∙◌, arith, length-append, length-drop}
use Rattle.numbers.specs.Choice.{pick}
use Rattle.numbers.proofs.Laid.{laid-front}
use Rattle.terms.specs.Reply.{Reply, is, refused}
use Rattle.records.specs.Longest.{longest_result}
use Rattle.day.specs.Outcome.{Step}
use Rattle.day.specs.Offers.{offer_of}
use Rattle.day.proofs.Beyond.{inside}
use Rattle.lines.specs.Lines.{longest_lines}
use Rattle.listing.specs.declared.list.Listing.{Listing}
use Rattle.listing.specs.declared.list.Listed.{Listed}
use Rattle.listing.specs.Listing.{Answer, accepts, refuses, waits, full, done, answer_of, Outcome, outcome, list_taken, list_refused, list_reply, must_wait, list_offered, over, list_of, Lists}

-- the bytes that an answer tells as used, and as written
abbrev pub used_by : Answer → ℕ
used_by (accepts p) = p.used
used_by (refuses number inside place n) = 0
used_by waits = 0
used_by full = 0
used_by done = 0

abbrev pub written_by : Answer → ℕ
written_by (accepts p) = p.written
written_by (refuses number inside place n) = n
written_by waits = 0
written_by full = 0
written_by done = 0

-- what holds of each end of a step holds of its outcome
module _ (l : Listing) (s : List ℕ) (ended : Bool) (room : ℕ) (P : Outcome → Type 0) where
  by_end : P (outcome full []) → P (outcome done []) → P (outcome waits []) → P (list_reply l.place s (offer_of l.day s longest_result)) → P (list_of l s ended room)
  unfolding list_of list_offered
  by_end f d w r = go (ltb room longest_lines) (ended && over l.day s) (must_wait (offer_of l.day s longest_result) ended)
    where
      go : (a b c : Bool) → P (pick a (outcome full []) (pick b (outcome done []) (pick c (outcome waits []) (list_reply l.place s (offer_of l.day s longest_result)))))
      go true b c = f
      go false true c = d
      go false false true = w
      go false false false = r

module _ (l : Listing) (s : List ℕ) (ended : Bool) (room : ℕ) where
  reply-inside : (x : Reply Step) → offer_of l.day s longest_result ≡ x → used_by (list_reply l.place s x).answer ≤ length s
  unfolding list_reply list_taken list_refused
  reply-inside (is step) e = inside l.day s longest_result e
  reply-inside (refused n p) e = omega arith

  pub step-inside : used_by (list_of l s ended room).answer ≤ length s
  step-inside =
      by_end l s ended room (λ o. used_by o.answer ≤ length s) (omega arith) (omega arith) (omega arith) (reply-inside (offer_of l.day s longest_result) refl)

  reply-long : (x : Reply Step) → written_by (list_reply l.place s x).answer ≡ length (list_reply l.place s x).lines
  unfolding list_reply list_taken list_refused
  reply-long (is step) = refl
  reply-long (refused n p) = refl

  pub step-long : written_by (list_of l s ended room).answer ≡ length (list_of l s ended room).lines
  step-long =
      by_end l s ended room (λ o. written_by o.answer ≡ length o.lines) refl refl refl (reply-long (offer_of l.day s longest_result))

module _ (l : Listing) (s : List ℕ) (ended : Bool) (entry : List ℕ) {r : Listed} {exit : List ℕ} (o : Lists (list_of l s ended (length entry)) entry r exit) where
  pub used-inside : used_by (answer_of r) ≤ length s
  used-inside = rw o.replied (step-inside l s ended (length entry))

  pub written-inside : length exit ≡ length entry → written_by (answer_of r) ≤ length entry
  written-inside h =
      let lines = (list_of l s ended (length entry)).lines in
      let n = ap length (o.room ∙ laid-front entry lines) ∙ length-append lines (drop (length lines) entry) in
      let w : written_by (answer_of r) ≡ length lines = ap written_by o.replied ∙ step-long l s ended (length entry) in
      omega (arith, length-drop (length lines) entry)
