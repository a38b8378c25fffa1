-- "The day list": one step of it, from the bytes of the input that are at hand.
use Rattle.std.specs.Prelude.{◌≡◌, ℕ, ◌+◌, ◌%◌, ◌^◌, Bool, not, ◌&&◌, List, [], length, ◌==◌, nat_lt}
use Rattle.numbers.specs.Bytes.{byte_at, laid_at}
use Rattle.numbers.specs.Choice.{pick}
use Rattle.terms.specs.Reply.{Reply, is, refused}
use Rattle.terms.specs.Refusals.{number_of}
use Rattle.records.specs.Longest.{longest_result}
use Rattle.walk.specs.declared.table.Role.{Role}
use Rattle.walk.specs.declared.table.Role.TheVariants.{Opens, Block, Closes}
use Rattle.walk.specs.Table.{role_of, is_closed}
use Rattle.day.specs.declared.value.Day.{Day}
use Rattle.day.specs.Outcome.{Step}
use Rattle.day.specs.Offers.{offer_of, written_of, is_cut_short}
use Rattle.lines.specs.Lines.{day_line, end_line, refused_line, result_lines, longest_lines}
use Rattle.listing.specs.declared.list.Listing.{Listing}
use Rattle.listing.specs.declared.list.Part.{Part}
use Rattle.listing.specs.declared.list.Listed.{Listed}
use Rattle.listing.specs.declared.list.Listed.TheVariants.{Taken, Refused, Waits, Full, Done}

-- a place of the input, in 64 bits
abbrev pub further : ℕ → ℕ → ℕ
further place n = (place + n) % 2 ^ 64

-- what a step answers: what was accepted, what was refused by its number, its place in what was offered, its place in the input and the length of its line, or that it waits, lacks room or is done
pub data Answer : Type 0 where
  accepts : Part → Answer
  refuses : ℕ → ℕ → ℕ → ℕ → Answer
  waits : Answer
  full : Answer
  done : Answer

abbrev pub answer_of : Listed → Answer
answer_of (Taken part) = accepts part
answer_of (Refused stop) = refuses (number_of stop.refusal.why) stop.refusal.place stop.place stop.written
answer_of Waits = waits
answer_of Full = full
answer_of Done = done

-- the answer of a step, and the lines that it writes
pub record Outcome : Type 0 where
  pub answer : Answer
  pub lines : List ℕ

abbrev pub outcome : Answer → List ℕ → Outcome
outcome answer lines = record { answer = answer; lines = lines }

-- the lines of what was accepted, by what it is to the day: it left this day, and wrote this result
unfoldable pub accepted_lines : Role → Day → List ℕ → List ℕ
accepted_lines Opens day result = day_line day.«record»
accepted_lines Block day result = result_lines result
accepted_lines Closes day result = end_line day.groups

unfoldable pub list_taken : ℕ → Step → Role → List ℕ → Outcome
list_taken place step role result =
    let lines = accepted_lines role step.day result in
    outcome (accepts (record { used = step.used; written = length lines; listing = record { day = step.day; place = further place step.used } })) lines

-- after a refusal its number and its place in the input, and the list stops
unfoldable pub list_refused : ℕ → ℕ → ℕ → Outcome
list_refused place number inside =
    let lines = refused_line number (further place inside) in
    outcome (refuses number inside (further place inside) (length lines)) lines

unfoldable pub list_reply : ℕ → List ℕ → Reply Step → Outcome
list_reply place s (is step) = list_taken place step (role_of (byte_at s 0)) (written_of s)
list_reply place s (refused number inside) = list_refused place number inside

-- more must come where what is at hand is only cut short, and may come
abbrev pub must_wait : Reply Step → Bool → Bool
must_wait reply ended = not ended && is_cut_short reply

-- what was offered is listed once it need not wait
unfoldable pub list_offered : ℕ → List ℕ → Bool → Reply Step → Outcome
list_offered place s ended reply = pick (must_wait reply ended) (outcome waits []) (list_reply place s reply)

-- closed with nothing left
abbrev pub over : Day → List ℕ → Bool
over day s = length s == 0 && is_closed day.state

-- the step: the next record or block of the input is offered to the day
unfoldable pub list_of : Listing → List ℕ → Bool → ℕ → Outcome
list_of l s ended room =
    pick (nat_lt room longest_lines) (outcome full [])
    (pick (ended && over l.day s) (outcome done [])
    (list_offered l.place s ended (offer_of l.day s longest_result)))

-- the answer is the right one, and the lines stand at the front of the room, which is else as it was
pub record Lists (right : Outcome) (entry : List ℕ) (r : Listed) (exit : List ℕ) : Type 0 where
  pub replied : answer_of r ≡ right.answer
  pub room : exit ≡ laid_at entry 0 right.lines

-- two outcomes of one step
pub record SameListed (r q : Listed) (x y : List ℕ) : Type 0 where
  pub reply : r ≡ q
  pub room : x ≡ y
