-- Each call's contract leaves one answer, one day and one content of the room: its parts are equations, and two answers with one reply are one.
use Prim.Native.Nat.{ℕ}
use mathlib.Core.Path.{◌≡◌, sym, ap, ap₂, ◌∙◌}
use mathlib.Core.List.{List}
use Rattle.std.specs.Prelude.{Result, Ok, Err}
use Rattle.terms.specs.Reply.{Reply}
use Rattle.terms.specs.Refusals.{reply}
use Rattle.terms.specs.declared.refusal.Refusal.{Refusal}
use Rattle.terms.proofs.Replies.{never}
use Rattle.terms.proofs.Same.{refusal-same, reply-same}
use Rattle.blocks.specs.declared.check.Block.{Block}
use Rattle.day.specs.declared.value.Day.{Day}
use Rattle.day.specs.declared.offer.Lengths.{Lengths}
use Rattle.day.specs.Outcome.{Step, Offered, outcome}
use Rattle.day.specs.Outcome as O
use Rattle.day.specs.Checking.{check_of}
use Rattle.day.specs.Offers.{offer_reply, day_back, Offering, Offers}
use Rattle.day.specs.Answered.{Same}

pub offered-same : (a b : Offered) → offer_reply a ≡ offer_reply b → day_back a ≡ day_back b → a ≡ b
offered-same (O.Taken x) (O.Taken y) e d = ap O.Taken (cc)
offered-same (O.Taken x) (O.Refused q day) e d = never (sym e)
offered-same (O.Refused r day) (O.Taken y) e d = never e
offered-same (O.Refused r day) (O.Refused q other) e d = ap₂ O.Refused (refusal-same r q e) d

-- one outcome is one answer and one day
pub outcome-same : (r q : Result Lengths Refusal) (d e : Day) → outcome r d ≡ outcome q e → (r ≡ q) × (d ≡ e)
outcome-same (Ok a) (Ok b) d e p =
    let s : ◌≡◌ {A = Step} (record { used = a.used; written = a.written; day = d }) (record { used = b.used; written = b.written; day = e }) = cc in
    let n : a ≡ b = λ i. record { used = (s i).used; written = (s i).written } in
    (ap Ok n, ap (λ (x : Step). x.day) s)
outcome-same (Ok a) (Err q) d e p = cc
outcome-same (Err r) (Ok b) d e p = cc
outcome-same (Err r) (Err q) d e p =
    let f : r ≡ q = cc in
    (ap Err f, cc)

pub check-block-unique : (day : Day) (s : List ℕ) (a b : Result Block Refusal) → reply a ≡ check_of day s → reply b ≡ check_of day s → a ≡ b
check-block-unique day s a b p q = reply-same a b (p ∙ sym q)

pub offering-unique : (right : Reply Step) (bytes : List ℕ) (day : Day) (entry : List ℕ) (r q : Offered) {x y : List ℕ}
    → Offering right bytes day entry r x → Offering right bytes day entry q y → Same r q x y
offering-unique right bytes day entry r q a b =
    record {
      reply = offered-same r q (a.gave.replied ∙ sym b.gave.replied) (a.gave.returned ∙ sym b.gave.returned);
      room = a.room ∙ sym b.room;
    }

pub offer-unique : (day : Day) (s entry : List ℕ) (r q : Offered) {x y : List ℕ} → Offers day s entry r x → Offers day s entry q y → Same r q x y
offer-unique day s entry r q a b = offering-unique _ _ day entry r q a b

-- so two answers of `offer`, and the days and rooms that they leave, are one
pub offer-once : (right : Reply Step) (bytes : List ℕ) (day : Day) (entry : List ℕ) (r q : Result Lengths Refusal) (d e : Day) {x y : List ℕ}
    → Offering right bytes day entry (outcome r d) x → Offering right bytes day entry (outcome q e) y → ((r ≡ q) × (d ≡ e)) × (x ≡ y)
offer-once right bytes day entry r q d e a b =
    let same = offering-unique right bytes day entry _ _ a b in
    (outcome-same r q d e same.reply, same.room)
