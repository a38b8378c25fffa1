-- What a run hands over to be written is the list of what its reads gave: what waits and what is at hand carry the list on from turn to turn.
use Prim.Native.Nat.{ℕ, ◌+◌, ◌-◌, ◌≤◌}
use mathlib.Core.Path.{◌≡◌, refl, sym, ap, ◌∙◌, subst}
use mathlib.Core.Bool.{Bool, true, false}
use mathlib.Core.List.{List, [], ◌++◌, append_assoc, append-nil}
use native.Mathlib.Omega.{arith}
use lib.ListN.{length, take}
use lib.Seq.{drop-append-le}
use Rattle.numbers.specs.Bytes.{laid_at}
use Rattle.numbers.specs.Choice.{pick}
use Rattle.terms.specs.Refusals.{number_of}
use Rattle.terms.specs.declared.refusal.Refusal.{Refusal}
use Rattle.day.specs.Days.{fresh}
use Rattle.listing.specs.declared.list.Listing.{Listing}
use Rattle.listing.specs.declared.list.Part.{Part}
use Rattle.listing.specs.Listing.{Answer, accepts, refuses, waits, done, Outcome, outcome}
use Rattle.listing.specs.Whole.{day_list, Steps, went, stopped, finished}
use Rattle.listing.proofs.Inside.{used_by, written_by, step-inside, step-long}
use Rattle.listing.proofs.Whole.{list-unique, steps-from, done-silent, waits-short}
use Rattle.daylist.specs.declared.work.Run.{Run}
use Rattle.daylist.specs.declared.work.Run.TheVariants.{Going, Whole, Refused, InputFailed, OutputFailed}
use Rattle.daylist.specs.declared.work.Work.{Work}
use Rattle.daylist.specs.Works.{fresh_work, is_going, hand_of, held_of, advanced_by, stopped_by, wrote_by, Refilled, more, none, Waited, unread, wrote, list_step, TookTurn, lists, stops, ends, writes, reads}
use Rattle.daylist.specs.Runs.{refill_gave, wait_gave, turn_gave, turn_handed, Turns, begin, turn, Ran, all_handed, is_listed}
use Rattle.daylist.proofs.Buffers.{hand_on, held_on, held_fits}
use Rattle.daylist.proofs.Filling.{clash}

abbrev start : Listing
start = record { day = fresh; place = 0 }

-- the steps from here on, with all that may still come, carry on those from the start
abbrev Onward : List ℕ → List ℕ → Work → List ℕ → Type 0
Onward given out w hand = (later rest : List ℕ) → (w.ended ≡ true → later ≡ []) → Steps w.listing (hand ++ later) rest → Steps start (given ++ later) (out ++ rest)

-- so what was handed over and what waits are the front of the list, and all of it where the list has come to its end
record Carries (given handed : List ℕ) (w : Work) (input output : List ℕ) : Type 0 where
  fits : w.full ≤ length output
  onward : is_going w.run ≡ true → Onward given (handed ++ held_of w output) w (hand_of w input)
  front : (rest : List ℕ) × Steps start given (handed ++ held_of w output ++ rest)
  complete : is_listed w.run ≡ true → Steps start given (handed ++ held_of w output)

is-going : (run : Run) → is_going run ≡ true → run ≡ Going
is-going Going e = refl
is-going Whole e = clash (is_going Whole) e refl
is-going (Refused told place) e = clash (is_going (Refused told place)) e refl
is-going InputFailed e = clash (is_going InputFailed) e refl
is-going OutputFailed e = clash (is_going OutputFailed) e refl

-- ---- by how far the run is
module _ (given handed : List ℕ) (w : Work) (input output : List ℕ) (fits : w.full ≤ length output) where
  goes : is_going w.run ≡ true → Onward given (handed ++ held_of w output) w (hand_of w input) → Carries given handed w input output
  goes g on =
      let hand = hand_of w input in
      let s = steps-from w.listing hand in
      let f = on [] s.0 (λ _. refl) (rw (append-nil hand) s.1) in
      record {
        fits = fits;
        onward = λ _. on;
        front = (s.0, rw (append-nil given) at f);
        complete = λ l. clash (is_listed w.run) l (ap is_listed (is-going w.run g));
      }

  comes-to : is_going w.run ≡ false → Steps start given (handed ++ held_of w output) → Carries given handed w input output
  comes-to g s =
      record {
        fits = fits;
        onward = λ h. clash (is_going w.run) h g;
        front = ([], rw (append-nil (handed ++ held_of w output)) s);
        complete = λ _. s;
      }

  fails : is_going w.run ≡ false → is_listed w.run ≡ false → (rest : List ℕ) × Steps start given (handed ++ held_of w output ++ rest)
      → Carries given handed w input output
  fails g l f =
      record {
        fits = fits;
        onward = λ h. clash (is_going w.run) h g;
        front = f;
        complete = λ h. clash (is_listed w.run) h l;
      }

-- ---- turn by turn
module _ {given handed : List ℕ} {w : Work} {input output : List ℕ} (c : Carries given handed w input output) (g : is_going w.run ≡ true) where
  abbrev step : Outcome
  step = list_step w input

  abbrev hand : List ℕ
  hand = hand_of w input

  abbrev held : List ℕ
  held = held_of w output

  told : {a : Answer} → step.answer ≡ a → step ≡ outcome a step.lines
  told e = ap (λ (a : Answer). outcome a step.lines) e

  long : {a : Answer} → step.answer ≡ a → written_by a ≡ length step.lines
  long e = sym (ap written_by e) ∙ step-long w.listing hand w.ended (65536 - w.full)

  abbrev laid : List ℕ
  laid = laid_at output w.full step.lines

  laid-fits : (n : ℕ) → n ≡ length step.lines → w.full + n ≤ length laid
  laid-fits n e = omega (arith, held_fits output step.lines w.full c.fits)

  laid-held : (n : ℕ) → n ≡ length step.lines → handed ++ held ++ step.lines ≡ handed ++ held_of (stopped_by w Whole n) laid
  laid-held n e = rw (e, held_on output step.lines w.full c.fits) (append_assoc handed held step.lines)

  on-lists : (part : Part) → step.answer ≡ accepts part → Carries given handed (advanced_by w part) input laid
  on-lists part a =
      let used : part.used ≤ length hand = omega (arith, ap used_by a, step-inside w.listing hand w.ended (65536 - w.full)) in
      goes given handed (advanced_by w part) input laid (laid-fits part.written (long a)) g λ later rest h s.
      let t = rw (hand_on w.from w.end part.used input used, ← drop-append-le part.used hand later used) at s in
      let u = c.onward g later (step.lines ++ rest) h (went hand later w.ended (65536 - w.full) refl h (told a) t) in
      subst (λ (x : List ℕ). Steps start (given ++ later) x)
      (sym (append_assoc (handed ++ held) step.lines rest) ∙ ap (λ (x : List ℕ). x ++ rest) (laid-held part.written (long a))) u

  on-stops : (by : Refusal) (place n : ℕ) → step.answer ≡ refuses (number_of by.why) by.place place n
      → Carries given handed (stopped_by w (Refused by place) n) input laid
  on-stops by place n a =
      let u = c.onward g [] step.lines (λ _. refl) (stopped hand [] w.ended (65536 - w.full) refl (λ _. refl) (told a)) in
      comes-to given handed (stopped_by w (Refused by place) n) input laid (laid-fits n (long a)) refl
      (subst (λ (x : List ℕ). Steps start given x) (laid-held n (long a)) (rw (append-nil given) at u))

  on-ends : step.answer ≡ done → Carries given handed (stopped_by w Whole 0) input output
  on-ends a =
      let silent = done-silent w.listing hand w.ended (65536 - w.full) a in
      let same : w.full ≡ w.full + 0 = omega arith in
      let u = c.onward g [] step.lines (λ _. refl) (finished hand [] w.ended (65536 - w.full) refl (λ _. refl) (told a)) in
      comes-to given handed (stopped_by w Whole 0) input output (omega (arith, c.fits)) refl
      (subst (λ (k : ℕ). Steps start given (handed ++ take k output)) same
      (subst (λ (x : List ℕ). Steps start given x) (ap (λ (x : List ℕ). handed ++ held ++ x) silent ∙ append-nil (handed ++ held)) (rw (append-nil given) at u)))

  -- what was handed over no longer waits
  passed_on : (rest : List ℕ) → handed ++ held ++ rest ≡ handed ++ held ++ [] ++ rest
  passed_on rest = ap (λ (x : List ℕ). x ++ rest) (sym (append-nil (handed ++ held)))

  still-front : (rest : List ℕ) × Steps start given (handed ++ held ++ [] ++ rest)
  still-front = (c.front.0, subst (λ (x : List ℕ). Steps start given x) (passed_on c.front.0) c.front.1)

  on-wrote : (taken : Bool) → Carries given (handed ++ held) (wrote_by w taken) input output
  on-wrote true =
      goes given (handed ++ held) (wrote_by w true) input output (omega arith) g λ later rest h s.
      subst (λ (x : List ℕ). Steps start (given ++ later) x) (passed_on rest) (c.onward g later rest h s)
  on-wrote false = fails given (handed ++ held) (wrote_by w false) input output (omega arith) refl refl still-front

  on-refilled : {r : Work} {exit : List ℕ} → step.answer ≡ waits → (f : Refilled (wrote_by w true) input r exit) → Carries (given ++ refill_gave f) (handed ++ held) r exit output
  on-refilled {exit = exit} a (more bytes e h) =
      let unended = (waits-short w.listing hand w.ended (65536 - w.full) a).unended in
      let there = rw e at h in
      rw e
      (goes (given ++ bytes) (handed ++ held) _ exit output (omega arith) g λ later rest k s.
      let t = rw (there, append_assoc hand bytes later) at s in
      let u = c.onward g (bytes ++ later) rest (λ q. clash w.ended q unended) t in
      subst (λ (x : List ℕ). Steps start (given ++ bytes ++ later) x) (passed_on rest) (rw (append_assoc given bytes later) u))
  on-refilled {exit = exit} a (none n e) = rw (e, append-nil given) (fails given (handed ++ held) (stopped_by (wrote_by w true) InputFailed 0) exit output (omega arith) refl refl still-front)

  on-waited : {r : Work} {exit : List ℕ} → step.answer ≡ waits → (f : Waited w input r exit) → Carries (given ++ wait_gave f) (handed ++ held) r exit output
  on-waited {exit = exit} a (unread e) = rw (e, append-nil given) (fails given (handed ++ held) (wrote_by w false) exit output (omega arith) refl refl still-front)
  on-waited a (wrote f) = on-refilled a f

  turned : {r : Work} {input_after output_after : List ℕ} → (t : TookTurn w input output r input_after output_after)
      → Carries (given ++ turn_gave t) (handed ++ turn_handed t) r input_after output_after
  turned (lists part a e i o) = rw (e, i, o, append-nil given, append-nil handed) (on-lists part a)
  turned (stops by place n a e i o) = rw (e, i, o, append-nil given, append-nil handed) (on-stops by place n a)
  turned (ends a e i o) = rw (e, i, o, append-nil given, append-nil handed) (on-ends a)
  turned (writes a e i o) = rw (e.left, i, o, append-nil given) (on-wrote e.taken)
  turned (reads a f o) = rw o (on-waited a f)

carries : {given handed : List ℕ} {w : Work} {input output : List ℕ} → Turns given handed w input output → Carries given handed w input output
carries {input = input} {output = output} begin = goes [] [] fresh_work input output (omega arith) refl (λ later rest h s. s)
carries (turn ts g t) = turned (carries ts) g t

-- ---- what a run hands over
-- at every turn it is a front part of the list
pub front-handed : {given handed : List ℕ} {w : Work} {input output : List ℕ} → Turns given handed w input output → (rest : List ℕ) × (handed ++ rest ≡ day_list given)
front-handed {handed = handed} {w = w} {output = output} ts =
    let f = (carries ts).front in
    (held_of w output ++ f.0, sym (append_assoc handed (held_of w output) f.0) ∙ list-unique f.1)

pub run-front : {run : Run} (r : Ran run) → (rest : List ℕ) × (all_handed r ++ rest ≡ day_list r.given)
run-front r =
    let f = (carries r.turns).front in
    (f.0, list-unique f.1)

-- and all of it where the list is whole or ends in a refusal
pub run-listed : {run : Run} (r : Ran run) → is_listed run ≡ true → all_handed r ≡ day_list r.given
run-listed {run} r l = list-unique ((carries r.turns).complete (go r.wrote.taken (rw (r.came, r.wrote.left) at l)))
  where
    go : (taken : Bool) → is_listed (pick taken r.work.run OutputFailed) ≡ true → is_listed r.work.run ≡ true
    go true e = e
    go false e = clash false e refl
