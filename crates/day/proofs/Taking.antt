-- The two ends of an offer: what was refused left the day and the room as they were, and what was taken wrote its result at the front of the room.
use Prim.Native.Nat.{ℕ}
use mathlib.Core.Path.{◌≡◌, refl, sym, ◌∙◌}
use mathlib.Core.List.{List, []}
use native.Mathlib.Omega.{arith}
use lib.ListN.{length, length-append}
use Rattle.numbers.specs.Bytes.{laid_at}
use Rattle.numbers.proofs.Laid.{laid-front}
use Rattle.terms.specs.Reply.{Reply, is, refused, next}
use Rattle.terms.specs.Refusals.{refusal}
use Rattle.terms.specs.declared.refusal.Refusal.{Refusal}
use Rattle.records.specs.declared.group_result.GroupResult.{GroupResult}
use Rattle.records.specs.Reading.{day_fields_of, end_fields_of}
use Rattle.records.specs.Layouts.{group_result_bytes}
use Rattle.writers.specs.Results.{Results, result_length, result_bytes, unit_results_bytes}
use Rattle.writers.proofs.Lengths.{length-group-result, length-results}
use Rattle.day.specs.declared.value.Day.{Day}
use Rattle.day.specs.Outcome.{Step}
use Rattle.day.specs.Outcome as O
use Rattle.decode.specs.Block.{block_count}
use Rattle.blocks.specs.Blocks.{group_result, result_in, block_result}
use Rattle.day.specs.Days.{opened, closed}
use Rattle.day.specs.Offers.{day_taken, end_taken, day_after, room_after, Gave, Offering}

module _ {right : Reply Step} (day : Day) where
  pub refuses : (f : Refusal) → right ≡ refusal f → Gave right day (O.Refused f day)
  unfolding day_after
  refuses f e = record { replied = sym e; returned = rw e }

  pub takes : (step : Step) → right ≡ is step → Gave right day (O.Taken step)
  unfolding day_after
  takes step e = record { replied = sym e; returned = rw e }

  module _ (bytes entry : List ℕ) where
    pub refuses-room : (f : Refusal) → right ≡ refusal f → Offering right bytes day entry (O.Refused f day) entry
    unfolding room_after
    refuses-room f e = record { gave = refuses f e; room = rw e }

    pub takes-room : {exit : List ℕ} (step : Step) → right ≡ is step → length bytes ≡ step.written → exit ≡ laid_at entry 0 bytes
        → Offering right bytes day entry (O.Taken step) exit
    unfolding room_after
    takes-room step e l h = record { gave = takes step e; room = rw (e, h, laid-front, l) }

-- a reply that writes nothing leaves the room as it was
unwritten : {A : Type 0} (x : Reply A) (f : A → Step) (room : List ℕ) → ((a : A) → (f a).written ≡ 0) → room ≡ room_after (next x λ a. is (f a)) [] room
unfolding room_after next
unwritten (is a) f room h = rw (h a)
unwritten (refused n p) f room h = refl

pub day-room : (s : List ℕ) (end : ℕ) (room : List ℕ) → room ≡ room_after (day_taken s end) [] room
unfolding day_taken
day-room s end room = unwritten (day_fields_of s) (λ d. record { used = end; written = 0; day = opened d }) room (λ _. refl)

pub end-room : (day : Day) (s : List ℕ) (end : ℕ) (room : List ℕ) → room ≡ room_after (end_taken day s end) [] room
unfolding end_taken
end-room day s end room = unwritten (end_fields_of s day.groups) (λ _. record { used = end; written = 0; day = closed day }) room (λ _. refl)

-- the length of a block's result
length-result : (g : GroupResult) (r : Results) → length (result_bytes g r) ≡ result_length g.count
unfolding result_bytes
length-result g r =
    let a = length-group-result g in
    let b = length-results r g.count in
    length-append (group_result_bytes g) (unit_results_bytes r g.count) ∙ omega arith

pub result-length : (s : List ℕ) → length (block_result s) ≡ result_length (block_count s)
unfolding result_in group_result
result-length s = length-result _ _
