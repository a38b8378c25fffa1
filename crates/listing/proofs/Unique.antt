-- The contract of a step leaves one answer and one content of the room: both are equations, and the number of a refusal leads back to why.
use Rattle.std.proofs.Common.{◌≡◌, ℕ, Bool, List, length, sym, refl, ap, ◌∙◌}
use Rattle.terms.specs.Refusals.{number_of}
use Rattle.terms.specs.declared.refusal.Why.{Why}
use Rattle.terms.specs.declared.refusal.Why.TheVariants as W
use Rattle.terms.proofs.Same.{why-same}
use Rattle.listing.specs.declared.list.Listing.{Listing}
use Rattle.listing.specs.declared.list.Listed.{Listed}
use Rattle.listing.specs.declared.list.Listed.TheVariants.{Taken, Refused, Waits, Full, Done}
use Rattle.listing.specs.Listing.{Answer, accepts, refuses, waits, full, done, answer_of, list_of, Lists, SameListed}

-- an answer leads back to what was answered, but for why it is refused, which its number tells
abbrev why_in : Listed → Why
why_in (Taken part) = W.CutShort
why_in (Refused stop) = stop.refusal.why
why_in Waits = W.CutShort
why_in Full = W.CutShort
why_in Done = W.CutShort

abbrev number_in : Answer → ℕ
number_in (accepts part) = 1
number_in (refuses number inside place n) = number
number_in waits = 1
number_in full = 1
number_in done = 1

abbrev listed_by : Answer → Why → Listed
listed_by (accepts part) why = Taken part
listed_by (refuses number inside place n) why = Refused (record { refusal = record { why = why; place = inside }; place = place; written = n })
listed_by waits why = Waits
listed_by full why = Full
listed_by done why = Done

back : (r : Listed) → listed_by (answer_of r) (why_in r) ≡ r
back (Taken part) = refl
back (Refused stop) = refl
back Waits = refl
back Full = refl
back Done = refl

numbered : (r : Listed) → number_of (why_in r) ≡ number_in (answer_of r)
numbered (Taken part) = refl
numbered (Refused stop) = refl
numbered Waits = refl
numbered Full = refl
numbered Done = refl

pub answers-same : (r q : Listed) → answer_of r ≡ answer_of q → r ≡ q
answers-same r q e =
    let w = why-same (why_in r) (why_in q) (numbered r ∙ ap number_in e ∙ sym (numbered q)) in
    sym (back r) ∙ ap (λ (a : Answer). listed_by a (why_in r)) e ∙ ap (listed_by (answer_of q)) w ∙ back q

pub list-next-unique : (l : Listing) (s : List ℕ) (ended : Bool) (entry : List ℕ) (r q : Listed) {x y : List ℕ}
    → Lists (list_of l s ended (length entry)) entry r x → Lists (list_of l s ended (length entry)) entry q y → SameListed r q x y
list-next-unique l s ended entry r q a b = record { reply = answers-same r q (a.replied ∙ sym b.replied); room = a.room ∙ sym b.room }
