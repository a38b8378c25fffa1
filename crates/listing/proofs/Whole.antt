-- However the input comes, its list is one: a step that does not wait gives what it would give with all of the input at hand.
use Rattle.std.proofs.Common.{◌≡◌, ℕ, zero, suc, ◌+◌, ◌<◌, ◌≤◌, Bool, true, false, not, ◌&&◌, eqb, ltb, List, [], ◌++◌, length, drop, sym, refl, ap, append-nil, arith, length-append, length-drop, ltb-true, ne_eqb}
use lib.ListN.{get_or-append}
use Rattle.numbers.specs.Bytes.{byte_at}
use Rattle.numbers.specs.Choice.{pick}
use Rattle.numbers.proofs.Choices.{and_both}
use Rattle.terms.specs.Reply.{Reply, is, refused, need, next}
use Rattle.walk.specs.Table.{role_of, head_in}
use Rattle.day.specs.declared.value.Day.{Day}
use Rattle.records.specs.Longest.{longest_block, longest_result}
use Rattle.day.specs.Outcome.{Step}
use Rattle.day.specs.Days.{fresh, possible}
use Rattle.day.specs.Offers.{head_for, taken, offer_of, written_of, is_cut_short}
use Rattle.day.proofs.Beyond.{used, inside, offer-unread}
use Rattle.day.proofs.Stands.{offer-stands, cut_short}
use Rattle.lines.specs.Lines.{refused_line, longest_lines}
use Rattle.listing.specs.declared.list.Listing.{Listing}
use Rattle.listing.specs.declared.list.Part.{Part}
use Rattle.listing.specs.Listing.{further, Answer, accepts, refuses, waits, full, done, Outcome, outcome, accepted_lines, list_taken, list_refused, list_reply, must_wait, list_offered, over, list_of}
use Rattle.listing.specs.Whole.{following, onward, lines_from, day_list, Steps, went, stopped, finished}

-- what an answer says of a step
data Told (l : Listing) (s : List ℕ) (ended : Bool) : Answer → List ℕ → Type 0 where
  room-wanted : {lines : List ℕ} → Told l s ended full lines
  more-wanted : {lines : List ℕ} → Told l s ended waits lines
  over_by : {lines : List ℕ} → ended ≡ true → over l.day s ≡ true → lines ≡ [] → Told l s ended done lines
  taken-by : {part : Part} {lines : List ℕ} (step : Step) → (ended && over l.day s) ≡ false → offer_of l.day s longest_result ≡ is step
      → part.used ≡ step.used → part.listing ≡ following l step → lines ≡ accepted_lines (role_of (byte_at s 0)) step.day (written_of s)
      → Told l s ended (accepts part) lines
  refused-by : {number inside place n : ℕ} {lines : List ℕ} → (ended && over l.day s) ≡ false → offer_of l.day s longest_result ≡ refused number inside
      → place ≡ further l.place inside → (not ended && eqb number 1) ≡ false → lines ≡ refused_line number (further l.place inside)
      → Told l s ended (refuses number inside place n) lines

told : (l : Listing) (s : List ℕ) (ended : Bool) (room : ℕ) {answer : Answer} {lines : List ℕ} → list_of l s ended room ≡ outcome answer lines → Told l s ended answer lines
unfolding list_of list_offered list_reply list_taken list_refused
told l s ended room {answer} {lines} = go (ltb room longest_lines) (ended && over l.day s) (offer_of l.day s longest_result) refl refl
  where
    refuse : (number inside : ℕ) (w : Bool) → (not ended && eqb number 1) ≡ w → (ended && over l.day s) ≡ false → offer_of l.day s longest_result ≡ refused number inside
        → pick w (outcome waits []) (list_refused l.place number inside) ≡ outcome answer lines → Told l s ended answer lines
    refuse number inside true p q r e = rw (← ap (λ (o : Outcome). o.answer) e) more-wanted
    refuse number inside false p q r e = rw (← ap (λ (o : Outcome). o.answer) e) (refused-by q r refl p (sym (ap (λ (o : Outcome). o.lines) e)))

    accept : (step : Step) (w : Bool) → (not ended && false) ≡ w → (ended && over l.day s) ≡ false → offer_of l.day s longest_result ≡ is step
        → pick w (outcome waits []) (list_reply l.place s (is step)) ≡ outcome answer lines → Told l s ended answer lines
    accept step true p q r e = rw (← ap (λ (o : Outcome). o.answer) e) more-wanted
    accept step false p q r e = rw (← ap (λ (o : Outcome). o.answer) e) (taken-by step q r refl refl (sym (ap (λ (o : Outcome). o.lines) e)))

    go : (a b : Bool) (x : Reply Step) → (ended && over l.day s) ≡ b → offer_of l.day s longest_result ≡ x
        → pick a (outcome full []) (pick b (outcome done []) (list_offered l.place s ended x)) ≡ outcome answer lines
        → Told l s ended answer lines
    go true b x q r e = rw (← ap (λ (o : Outcome). o.answer) e) room-wanted
    go false true x q r e = let t = and_both ended (over l.day s) q in rw (← ap (λ (o : Outcome). o.answer) e) (over_by t.0 t.1 (sym (ap (λ (o : Outcome). o.lines) e)))
    go false false (is step) q r e = accept step (not ended && false) refl q r e
    go false false (refused number inside) q r e = refuse number inside (not ended && eqb number 1) refl q r e

-- where nothing is at hand, what is offered is only cut short
some : (day : Day) (s : List ℕ) (room : ℕ) → is_cut_short (offer_of day s room) ≡ false → 0 < length s
unfolding offer_of head_for next need
some day s room = go (ltb 0 (length s)) refl
  where
    go : (t : Bool) → ltb 0 (length s) ≡ t
        → is_cut_short (next (need t 1 (length s) (need (possible day) 2 0 (head_in s 0 day.state))) λ head. taken day s room head.role head.end) ≡ false → 0 < length s
    go true q c = ltb-true 0 (length s) q
    go false q c =
        let z : ◌≡◌ {A = ℕ} 0 1 = cc in
        absurd (omega arith)

-- a step that does not wait answers as it would with all of the input at hand
module _ (day : Day) (s more : List ℕ) where
  same-offer : (ended : Bool) → must_wait (offer_of day s longest_result) ended ≡ false → (ended ≡ true → more ≡ []) → offer_of day (s ++ more) longest_result ≡ offer_of day s longest_result
  same-offer true w h = rw (h refl, append-nil s)
  same-offer false w h = offer-stands day s more longest_result w

  not-over : (ended : Bool) → (ended && over day s) ≡ false → must_wait (offer_of day s longest_result) ended ≡ false → (ended ≡ true → more ≡ []) → over day (s ++ more) ≡ false
  not-over true c w h = rw (h refl, append-nil s) c
  not-over false c w h =
      let n = some day s longest_result w in
      rw (ne_eqb (length (s ++ more)) 0 (λ e. omega (arith, length-append s more)))

-- the lines of a run of steps are those of what is left of the input
listed : {l : Listing} {input lines : List ℕ} → Steps l input lines → (n : ℕ) → length input < n → lines ≡ lines_from n l input
unfolding lines_from onward
listed (went s more ended room i h e r) zero k = absurd (omega arith)
listed {l} {input} (went {lines = lines} {rest = rest} {part = part} s more ended room i h e r) (suc n) k =
    go (told l s ended room e) (λ p q. listed r n (omega (arith, length-drop part.used input)))
  where
    go : Told l s ended (accepts part) lines → (0 < part.used → part.used ≤ length input → rest ≡ lines_from n part.listing (drop part.used input))
        → lines ++ rest ≡ lines_from (suc n) l input
    go (taken-by step c o u v x) f =
        let some = used l.day s longest_result o in
        let within = inside l.day s longest_result o in
        let first : byte_at (s ++ more) 0 ≡ byte_at s 0 = get_or-append s more 0 0 (omega arith) in
        let unread = offer-unread l.day s more longest_result o in
        let left : over l.day (s ++ more) ≡ false = rw (ne_eqb (length (s ++ more)) 0 (λ e. omega (arith, length-append s more))) in
        let y : rest ≡ lines_from n (following l step) (drop step.used (s ++ more)) =
        rw (u, v, i) at (f (omega arith) (omega (arith, ap length i, length-append s more))) in
        rw (i, left, unread.0, unread.1, first, x, y)
listed (stopped s more ended room i h e) zero k = absurd (omega arith)
listed {l} {input} (stopped {lines = lines} {number = m} {inside = j} {place = p} {n = w} s more ended room i h e) (suc n) k = go (told l s ended room e)
  where
    go : Told l s ended (refuses m j p w) lines → lines ≡ lines_from (suc n) l input
    go (refused-by c o t w x) =
        let q : must_wait (offer_of l.day s longest_result) ended ≡ false = rw o w in
        rw (i, not-over l.day s more ended c q h, same-offer l.day s more ended q h, o) x
listed (finished s more ended room i h e) zero k = absurd (omega arith)
listed {l} {input} (finished {lines = lines} s more ended room i h e) (suc n) k = go (told l s ended room e)
  where
    go : Told l s ended done lines → lines ≡ lines_from (suc n) l input
    go (over_by t c x) = rw (i, h t, append-nil s, c) x

-- with all of it at hand there is such a run
run : (n : ℕ) (l : Listing) (input : List ℕ) → length input < n → Steps l input (lines_from n l input)
unfolding lines_from onward list_of list_offered list_reply list_taken list_refused
run zero l input k = absurd (omega arith)
run (suc n) l input k =
    go (over l.day input) (offer_of l.day input longest_result) refl refl
    (λ step o. run n (following l step) (drop step.used input) (omega (arith, used l.day input longest_result o, inside l.day input longest_result o, length-drop step.used input)))
  where
    go : (c : Bool) (x : Reply Step) → over l.day input ≡ c → offer_of l.day input longest_result ≡ x
        → ((step : Step) → offer_of l.day input longest_result ≡ is step → Steps (following l step) (drop step.used input) (lines_from n (following l step) (drop step.used input)))
        → Steps l input (pick c [] (onward l input x (lines_from n)))
    go true x c o f =
        let e : list_of l input true longest_lines ≡ outcome done [] = rw c in
        finished input [] true longest_lines (sym (append-nil input)) (λ _. refl) e
    go false (is step) c o f =
        let lines = accepted_lines (role_of (byte_at input 0)) step.day (written_of input) in
        let e : list_of l input true longest_lines ≡ outcome (accepts (record { used = step.used; written = length lines; listing = following l step })) lines = rw (c, o) in
        went input [] true longest_lines (sym (append-nil input)) (λ _. refl) e (f step o)
    go false (refused number place) c o f =
        let lines = refused_line number (further l.place place) in
        let e : list_of l input true longest_lines ≡ outcome (refuses number place (further l.place place) (length lines)) lines = rw (c, o) in
        stopped input [] true longest_lines (sym (append-nil input)) (λ _. refl) e

-- However the input comes, the lines of all steps are the list of the input.
pub list-unique : {input lines : List ℕ} → Steps (record { day = fresh; place = 0 }) input lines → lines ≡ day_list input
unfolding day_list
list-unique {input} r = listed r (length input + 1) (omega arith)

pub list-whole : (input : List ℕ) → Steps (record { day = fresh; place = 0 }) input (day_list input)
unfolding day_list
list-whole input = run (length input + 1) (record { day = fresh; place = 0 }) input (omega arith)

-- from any step on, too
pub steps-from : (l : Listing) (input : List ℕ) → (lines : List ℕ) × Steps l input lines
steps-from l input = (lines_from (length input + 1) l input, run (length input + 1) l input (omega arith))

-- a step that finds the list at its end writes nothing
pub done-silent : (l : Listing) (s : List ℕ) (ended : Bool) (room : ℕ) → (list_of l s ended room).answer ≡ done → (list_of l s ended room).lines ≡ []
done-silent l s ended room e =
    let o = list_of l s ended room in
    go (told l s ended room (ap (λ (a : Answer). outcome a o.lines) e))
  where
    go : {lines : List ℕ} → Told l s ended done lines → lines ≡ []
    go (over_by t c x) = x

-- one that refuses tells the day's own refusal of the bytes at hand, and its place in the input
pub record Refuses (l : Listing) (s : List ℕ) (number inside place : ℕ) : Type 0 where
  pub replied : offer_of l.day s longest_result ≡ refused number inside
  pub there : place ≡ further l.place inside

pub step-refuses : (l : Listing) (s : List ℕ) (ended : Bool) (room : ℕ) {number inside place n : ℕ} → (list_of l s ended room).answer ≡ refuses number inside place n
    → Refuses l s number inside place
step-refuses l s ended room {number} {inside} {place} {n} e =
    let o = list_of l s ended room in
    go (told l s ended room (ap (λ (a : Answer). outcome a o.lines) e))
  where
    go : {lines : List ℕ} → Told l s ended (refuses number inside place n) lines → Refuses l s number inside place
    go (refused-by c o t w x) = record { replied = o; there = t }

-- one that waits has less at hand than the longest block, of an input that has not ended
pub record Short (s : List ℕ) (ended : Bool) : Type 0 where
  pub unended : ended ≡ false
  pub few : length s < longest_block

pub waits-short : (l : Listing) (s : List ℕ) (ended : Bool) (room : ℕ) → (list_of l s ended room).answer ≡ waits → Short s ended
unfolding list_of list_offered list_reply list_taken list_refused
waits-short l s ended room = go (ltb room longest_lines) (ended && over l.day s) (offer_of l.day s longest_result) refl
  where
    speaks : (x : Reply Step) → (list_reply l.place s x).answer ≡ waits → Short s ended
    speaks (is step) p = let z : ◌≡◌ {A = ℕ} 0 1 = cc in absurd (omega arith)
    speaks (refused number inside) p = let z : ◌≡◌ {A = ℕ} 0 1 = cc in absurd (omega arith)

    short : (x : Reply Step) (b : Bool) → offer_of l.day s longest_result ≡ x → b ≡ ended → (not b && is_cut_short x) ≡ true → Short s ended
    short x true q e c = let z : ◌≡◌ {A = ℕ} 0 1 = cc in absurd (omega arith)
    short x false q e c = record { unended = sym e; few = cut_short l.day s longest_result (rw q c) }

    cut : (x : Reply Step) (w : Bool) → offer_of l.day s longest_result ≡ x → (not ended && is_cut_short x) ≡ w
        → (pick w (outcome waits []) (list_reply l.place s x)).answer ≡ waits → Short s ended
    cut x true q c p = short x ended q refl c
    cut x false q c p = speaks x p

    go : (a b : Bool) (x : Reply Step) → offer_of l.day s longest_result ≡ x
        → (pick a (outcome full []) (pick b (outcome done []) (list_offered l.place s ended x))).answer ≡ waits → Short s ended
    go true b x q p = let z : ◌≡◌ {A = ℕ} 0 1 = cc in absurd (omega arith)
    go false true x q p = let z : ◌≡◌ {A = ℕ} 0 1 = cc in absurd (omega arith)
    go false false x q p = cut x (not ended && is_cut_short x) q refl p
