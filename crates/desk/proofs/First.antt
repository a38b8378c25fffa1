-- A block offered as the first of its day: it is the block offered alone to the day just opened, and what it writes is short.
use Prim.Native.Nat.{ℕ, ◌≤◌}
use mathlib.Core.Path.{◌≡◌, refl, sym, ap, ◌∙◌}
use mathlib.Core.Bool.{true}
use mathlib.Core.List.{List}
use native.Mathlib.Omega.{arith}
use lib.IntN.{pos, neg_ℤ}
use Rattle.std.specs.Prelude.{Result, Ok, Err, IfOk}
use Rattle.terms.specs.Reply.{Reply, is, refused, next}
use Rattle.terms.specs.Refusals.{number_of, refusal, reply}
use Rattle.terms.specs.declared.refusal.Refusal.{Refusal}
use Rattle.records.specs.declared.day.DayRecord.{DayRecord}
use Rattle.records.specs.Longest.{longest_result}
use Rattle.records.specs.Reading.{permitted, day_of}
use Rattle.records.proofs.Read.{day-read}
use Rattle.walk.specs.declared.table.State.TheVariants.{Open}
use Rattle.walk.specs.declared.table.Head.{Head}
use Rattle.walk.specs.Table.{block_head_in}
use Rattle.day.specs.declared.value.Day.{Day}
use Rattle.day.specs.declared.offer.Lengths.{Lengths}
use Rattle.day.specs.Outcome.{Step, outcome}
use Rattle.day.specs.Others.{lengths_of}
use Rattle.day.specs.Days.{opened}
use Rattle.day.specs.Checking.{block_head_for}
use Rattle.day.specs.Offers.{block_taken, offer_of, block_offer_of, offer_reply}
use Rattle.day.proofs.ByKind.{offer-block}
use Rattle.day.proofs.BlockAlone.{block-for, head-possible, alone-offered, alone-block}
use Rattle.day.proofs.Read.{read}
use Rattle.day.proofs.Outcomes.{taken-block}
use Rattle.desk.specs.Desk.{first_of, call_of, given}

-- what the lengths tell of a reply is what C is given
pub given-lengths : (right : Reply Step) {n : Lengths} → is n ≡ lengths_of right → pos n.written ≡ given right
unfolding given
given-lengths (is step) {n} e =
    let same : n ≡ record { used = step.used; written = step.written } = cc in
    ap (λ (x : Lengths). pos x.written) same
given-lengths (refused number place) e = cc

pub given-refusal : (right : Reply Step) (r : Refusal) → refusal r ≡ lengths_of right → neg_ℤ (pos (number_of r.why)) ≡ given right
unfolding given
given-refusal (is step) r e = cc
given-refusal (refused number place) r e =
    let same : number_of r.why ≡ number = cc in
    ap (λ (n : ℕ). neg_ℤ (pos n)) same

-- an answer tells the lengths of its outcome
pub lengths-told : (r : Result Lengths Refusal) (day : Day) {right : Reply Step} → offer_reply (outcome r day) ≡ right → reply r ≡ lengths_of right
lengths-told (Ok n) day e = rw (← e) refl
lengths-told (Err f) day e = rw (← e) refl

module _ (d : DayRecord) (p : permitted d.quarters ≡ true) (s : List ℕ) (room : ℕ) where
  -- for the day just opened the table decides alone
  head_first : block_head_for (opened d) s ≡ block_head_in s 0 Open
  head_first = head-possible (opened d) s (rw p)

  pub first_alone : first_of d s room ≡ block_offer_of (opened d) s room
  unfolding first_of block_offer_of next
  first_alone = rw head_first (go (block_head_in s 0 Open) refl)
    where
      go : (x : Reply Head) → block_head_in s 0 Open ≡ x → next x (λ _. offer_of (opened d) s room) ≡ next x (λ _. block_taken (opened d) s room)
      go (is head) e =
          let b = block-for (opened d) s (head_first ∙ e) in
          offer-block (opened d) s head b.came b.role room
      go (refused n q) e = refl

-- a call whose day bytes are read is the block offered alone to the day that they open
pub call-alone : (day s : List ℕ) (room : ℕ) {d : DayRecord} → day_of day ≡ is d → call_of day s room ≡ block_offer_of (opened d) s room
unfolding call_of next
call-alone day s room {d} e = rw e (first_alone d (day-read day e).passed.quarters s room)

-- a block that was taken has a short result
short : (day : Day) (s : List ℕ) (room : ℕ) (step : Step) → block_offer_of day s room ≡ is step → step.written ≤ longest_result
short day s room step e =
    let k = alone-block day s room e in
    let t = taken-block day s room (sym (alone-offered day s k room) ∙ e) k in
    let few = (read day s t.long t.fields).passed.most in
    rw t.value (omega arith)

pub told-short : (day : Day) (s : List ℕ) (room : ℕ) (r : Result Lengths Refusal) (left : Day) → offer_reply (outcome r left) ≡ block_offer_of day s room
    → IfOk r (λ n. n.written ≤ longest_result)
told-short day s room (Ok n) left e = short day s room _ (sym e)
told-short day s room (Err f) left e = tt
