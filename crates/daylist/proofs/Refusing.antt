-- What is said of a run that ended refused is the line of that refusal: its last turn was the step that refused, which leaves the day and the bytes at hand.
use Prim.Native.Nat.{ℕ, ◌-◌, ◌≤◌}
use mathlib.Core.Path.{◌≡◌, refl, sym, ap, ◌∙◌}
use mathlib.Core.Bool.{Bool, true, false}
use mathlib.Core.List.{List}
use native.Mathlib.Omega.{arith}
use lib.ListN.{length, take}
use lib.Seq.{length-take-le}
use Rattle.std.proofs.Math.Logic.{∥∥₁_elim}
use Rattle.std.proofs.Props.{props}
use Rattle.numbers.specs.Choice.{pick}
use Rattle.terms.specs.Refusals.{number_of}
use Rattle.terms.specs.declared.refusal.Refusal.{Refusal}
use Rattle.day.specs.declared.value.Day.{Day}
use Rattle.naming.specs.Words.{Names}
use Rattle.naming.proofs.Inside.{name-inside}
use Rattle.listing.proofs.Whole.{Refuses, step-refuses}
use Rattle.daylist.specs.declared.work.Run.{Run}
use Rattle.daylist.specs.declared.work.Run.TheVariants.{Going, Whole, Refused, InputFailed, OutputFailed}
use Rattle.daylist.specs.declared.work.Work.{Work}
use Rattle.daylist.specs.Works.{is_going, hand_of, wrote_by, Refilled, more, none, Waited, unread, wrote, TookTurn, lists, stops, ends, writes, reads}
use Rattle.daylist.specs.Runs.{Turns, begin, turn}
use Rattle.daylist.specs.Saying.{Ended, Named}
use Rattle.daylist.proofs.Filling.{clash}

-- ---- which runs are refused
abbrev is_refused : Run → Bool
is_refused Going = false
is_refused Whole = false
is_refused (Refused told place) = true
is_refused InputFailed = false
is_refused OutputFailed = false

-- ---- the last turn
module _ {told : Refusal} {place : ℕ} where
  unlike : {P : Type 0} (run : Run) → is_refused run ≡ false → run ≡ Refused told place → P
  unlike run f e = clash (is_refused run) (ap is_refused e) f

  still : {P : Type 0} (run : Run) → is_going run ≡ true → run ≡ Refused told place → P
  still run g e = clash (is_going run) g (ap is_going e)

  unwritten : {P : Type 0} (run : Run) (taken : Bool) → is_going run ≡ true → pick taken run OutputFailed ≡ Refused told place → P
  unwritten run true g e = still run g e
  unwritten run false g e = unlike OutputFailed refl e

  unfilled : {P : Type 0} {w r : Work} {entry exit : List ℕ} → is_going w.run ≡ true → Refilled w entry r exit → r.run ≡ Refused told place → P
  unfilled {w = w} g (more bytes e h) q = still w.run g (sym (ap (λ (x : Work). x.run) e) ∙ q)
  unfilled g (none n e) q = unlike InputFailed refl (sym (ap (λ (x : Work). x.run) e) ∙ q)

  unwaited : {P : Type 0} {w r : Work} {entry exit : List ℕ} → is_going w.run ≡ true → Waited w entry r exit → r.run ≡ Refused told place → P
  unwaited g (unread e) q = unlike OutputFailed refl (sym (ap (λ (x : Work). x.run) e) ∙ q)
  unwaited g (wrote f) q = unfilled g f q

  turn-refuses : {w r : Work} {input output input_after output_after : List ℕ} → is_going w.run ≡ true → TookTurn w input output r input_after output_after
      → r.run ≡ Refused told place → Refuses r.listing (hand_of r input_after) (number_of told.why) told.place place
  turn-refuses {w = w} g (lists part a e i o) q = still w.run g (sym (ap (λ (x : Work). x.run) e) ∙ q)
  turn-refuses {w = w} {input = input} g (stops by there n a e i o) q =
      let came = sym (ap (λ (x : Work). x.run) e) ∙ q in
      let k : by ≡ told = cc in
      let j : there ≡ place = cc in
      rw (e, i) (rw (k, j) at (step-refuses w.listing (hand_of w input) w.ended (65536 - w.full) a))
  turn-refuses g (ends a e i o) q = unlike Whole refl (sym (ap (λ (x : Work). x.run) e) ∙ q)
  turn-refuses {w = w} g (writes a e i o) q = unwritten w.run e.taken g (sym (ap (λ (x : Work). x.run) e.left) ∙ q)
  turn-refuses g (reads a f o) q = unwaited g f q

  turns-refuse : {given handed : List ℕ} {w : Work} {input output : List ℕ} → Turns given handed w input output → w.run ≡ Refused told place
      → Refuses w.listing (hand_of w input) (number_of told.why) told.place place
  turns-refuse begin q = unlike Going refl q
  turns-refuse (turn ts g t) q = turn-refuses g t q

  -- ---- what is written at last leaves the day and the bytes at hand
  run-refuses : {w : Work} {input : List ℕ} → Ended w input → w.run ≡ Refused told place → Refuses w.listing (hand_of w input) (number_of told.why) told.place place
  run-refuses {w} {input} d q =
      let r = d.ran in
      let left : w ≡ wrote_by r.work r.wrote.taken = sym d.kept ∙ r.wrote.left in
      let came = go r.wrote.taken (sym (ap (λ (x : Work). x.run) left) ∙ q) in
      rw (left, ← d.bytes) (turns-refuse r.turns came)
    where
      go : (taken : Bool) → pick taken d.ran.work.run OutputFailed ≡ Refused told place → d.ran.work.run ≡ Refused told place
      go true e = e
      go false e = unlike OutputFailed refl e

  -- so the line is that of the refusal that the run came to, whichever run it was
  pub refusal-named : {w : Work} {input entry exit : List ℕ} {n : ℕ} → ∥ Ended w input ∥₁ → w.run ≡ Refused told place → Names w.listing.day (hand_of w input) told entry n exit
      → Named w input told place entry n exit
  refusal-named {w} {input} {entry} {exit} {n} t q o = ∥∥₁_elim t (Prim.hlevel props) named
    where
      named : Ended w input → Named w input told place entry n exit
      named d =
          let f = run-refuses d q in
          record { replied = f.replied; place = f.there; line = o }

-- what is told to have been written lies in the line
module _ {day : Day} {s : List ℕ} {r : Refusal} {entry exit : List ℕ} {n : ℕ} (o : Names day s r entry n exit) (h : length exit ≡ length entry) where
  pub said-inside : n ≤ length exit
  said-inside = omega (arith, h, name-inside day s r entry n exit o h)

  pub said-whole : n ≡ length (take n exit)
  said-whole = sym (length-take-le n exit said-inside)
