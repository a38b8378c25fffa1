-- What the pieces of a turn leave: at hand what was and behind it what a read gave, once the lines that wait are written.
use Prim.Native.Nat.{ℕ, ◌+◌, ◌-◌, ◌≤◌, ◌<◌}
use mathlib.Core.Path.{◌≡◌, refl, sym, ap, ◌∙◌}
use mathlib.Core.Bool.{Bool, true, false, false≢true}
use mathlib.Core.List.{List, [], ◌∷◌, ◌++◌, append_assoc, append-nil}
use native.Mathlib.Omega.{arith}
use borrow.Author.Tests.{lt-ltb, le-ltb}
use lib.IntN.{pos, negsuc}
use lib.ListN.{length, take, drop, length-append, length-drop, drop_of_length-le}
use lib.Seq.{length-take-le, take_all, take-append-le, take_at, drop-drop}
use Rattle.std.specs.List.{copy_within}
use Rattle.std.specs.Prelude.{Result, Ok, Err, MatchResult}
use Rattle.std.specs.Io.{ReadsAtMost}
use Rattle.numbers.specs.Bytes.{laid_at}
use Rattle.numbers.proofs.Laid.{laid-front, laid_none}
use Rattle.listing.specs.declared.list.Listed.{Listed}
use Rattle.listing.specs.Listing.{waits, answer_of, list_of, Lists}
use Rattle.listing.proofs.Inside.{written_by, step-long}
use Rattle.listing.proofs.Whole.{waits-short}
use Rattle.daylist.specs.declared.work.Work.{Work}
use Rattle.daylist.specs.Inner.{Places}
use Rattle.daylist.specs.Works.{is_going, hand_of, wrote_by, WroteOut, read_by, Read, gave, failed, Refilled, more, none, Waited, wrote, list_step}
use Rattle.daylist.proofs.Buffers.{hand-read, moved}

-- ---- what a read answered
pub read-answered : {E : Type 0} {w r : Work} {from end : ℕ} {free : List ℕ} (got : Result ℕ E) → ReadsAtMost got free
    → MatchResult got (λ (n : ℕ). r ≡ read_by w from end (pos n)) (λ (x : E). r ≡ read_by w from end (negsuc 0)) → Read w from end free r
read-answered (Ok n) m e = gave n m.0 e
read-answered (Err x) m e = failed 0 e

-- ---- more of the input, read into the part of the buffer behind the bytes at hand
module _ {w r : Work} {input free : List ℕ} (p : Places w) (long : length input ≡ 65536) (post : List ℕ) where
  pub behind : w.end < 65536 → Read w w.from w.end free r → Refilled w input r (take w.end input ++ (free ++ post))
  behind h (gave n k e) =
      let room = lt-ltb w.end 65536 h in
      more (take n free) (rw (room, length-take-le n free k) e)
      (rw e
      (hand-read w.from w.end n input (free ++ post) p.order (omega (arith, p.hand))
      ∙ ap (λ (x : List ℕ). take (w.end - w.from) (drop w.from input) ++ x) (take-append-le n free post k)))
  behind h (failed n e) = none n e

  -- once these were moved to the front
  in-front : 65536 ≤ w.end → Read w 0 (w.end - w.from) free r
      → Refilled w input r (take (w.end - w.from) (moved input w.from (w.end - w.from)) ++ (free ++ post))
  in-front h (gave n k e) =
      let m = w.end - w.from in
      let room = le-ltb w.end 65536 h in
      let some : length (take m (drop w.from input)) ≡ m = length-take-le m (drop w.from input) (omega (arith, length-drop w.from input, p.hand)) in
      let all : m ≤ length (moved input w.from m) = omega (arith, length-append (take m (drop w.from input)) (drop m input)) in
      let same : m - 0 ≡ m = omega arith in
      more (take n free) (rw (room, length-take-le n free k) e)
      (rw e
      (hand-read 0 m n (moved input w.from m) (free ++ post) (omega arith) all
      ∙ ap (λ (j : ℕ). take j (moved input w.from m) ++ take n (free ++ post)) same
      ∙ ap (λ (x : List ℕ). x ++ take n (free ++ post)) (take_at (take m (drop w.from input)) (drop m input) m some)
      ∙ ap (λ (x : List ℕ). take m (drop w.from input) ++ x) (take-append-le n free post k)))
  in-front h (failed n e) = none n e

  pub behind_moved : (front : List ℕ) → front ≡ copy_within input w.from w.end 0 → 65536 ≤ w.end → Read w 0 (w.end - w.from) free r
      → Refilled w input r (take (w.end - w.from) front ++ (free ++ post))
  behind_moved front f h d =
      let m = w.end - w.from in
      let z : 0 + m ≡ m = omega arith in
      let e : front ≡ moved input w.from m = f ∙ ap (λ (k : ℕ). take m (drop w.from input) ++ drop k input) z in
      rw e (in-front h d)

-- ---- first what is held, then more
pub clash : {P : Type 0} (t : Bool) → t ≡ true → t ≡ false → P
clash t a b = absurd (false≢true (sym b ∙ a))

module _ {w f : Work} {input : List ℕ} (e : WroteOut w f) where
  pub then-read : {r : Work} {exit : List ℕ} → is_going f.run ≡ true → Refilled f input r exit → Waited w input r exit
  then-read {r} {exit} g m = go e.taken refl
    where
      go : (t : Bool) → e.taken ≡ t → Waited w input r exit
      go true q =
          let left : f ≡ wrote_by w true = rw q at e.left in
          wrote (rw left at m)
      go false q =
          let left : f ≡ wrote_by w false = rw q at e.left in
          clash (is_going f.run) g (ap (λ (x : Work). is_going x.run) left)

-- ---- the list's step, in the part of the buffer behind the lines that wait
nothing : (xs : List ℕ) → length xs ≡ 0 → xs ≡ []
nothing [] e = refl
nothing (x ∷ xs) e = absurd (omega arith)

-- what lies behind the lines that wait, and the part of it that is lent: all of it
abbrev behind_held : Work → List ℕ → List ℕ
behind_held w output = drop w.full output

abbrev lent : Work → List ℕ → List ℕ
lent w output = take (65536 - w.full) (behind_held w output)

module _ (w : Work) (input output : List ℕ) {after : List ℕ} {listed : Listed} (p : Places w) (long : length output ≡ 65536)
    (o : Lists (list_of w.listing (hand_of w input) w.ended (length (lent w output))) (lent w output) listed after) where
  room : length (lent w output) ≡ 65536 - w.full
  room = length-take-le (65536 - w.full) (behind_held w output) (omega (arith, length-drop w.full output, long))

  pub answered : (list_step w input).answer ≡ answer_of listed
  answered = sym (o.replied ∙ ap (λ (n : ℕ). (list_of w.listing (hand_of w input) w.ended n).answer) room)

  pub laid : take w.full output ++ (after ++ drop (65536 - w.full) (behind_held w output)) ≡ laid_at output w.full (list_step w input).lines
  unfolding laid_at
  laid =
      let lines = (list_step w input).lines in
      let long-enough : length (behind_held w output) ≤ 65536 - w.full = omega (arith, length-drop w.full output, long) in
      let whole : lent w output ≡ behind_held w output = take_all (65536 - w.full) (behind_held w output) long-enough in
      let gone : drop (65536 - w.full) (behind_held w output) ≡ [] = drop_of_length-le (behind_held w output) long-enough in
      let said : after ≡ laid_at (lent w output) 0 lines =
      o.room ∙ ap (λ (n : ℕ). laid_at (lent w output) 0 (list_of w.listing (hand_of w input) w.ended n).lines) room in
      let front : after ≡ lines ++ drop (length lines) (behind_held w output) = said ∙ laid-front (lent w output) lines ∙ ap (λ (x : List ℕ). lines ++ drop (length lines) x) whole in
      ap (λ (x : List ℕ). take w.full output ++ (after ++ x)) gone
      ∙ ap (λ (x : List ℕ). take w.full output ++ x) (append-nil after ∙ front)
      ∙ sym (append_assoc (take w.full output) lines (drop (length lines) (behind_held w output)))
      ∙ ap (λ (x : List ℕ). take w.full output ++ lines ++ x) (drop-drop (length lines) w.full output)

  -- an answer that tells no bytes leaves the buffer as it was
  pub silent : written_by (answer_of listed) ≡ 0 → take w.full output ++ (after ++ drop (65536 - w.full) (behind_held w output)) ≡ output
  silent e =
      let none = nothing (list_step w input).lines (sym (step-long w.listing (hand_of w input) w.ended (65536 - w.full)) ∙ ap written_by answered ∙ e) in
      laid ∙ ap (laid_at output w.full) none ∙ sym (laid_none output w.full)

  -- where it waits there is room for more
  pub room-left : length input ≡ 65536 → answer_of listed ≡ waits → w.end - w.from < 65536
  room-left h e =
      let few = (waits-short w.listing (hand_of w input) w.ended (65536 - w.full) (answered ∙ e)).few in
      omega (arith, length-take-le (w.end - w.from) (drop w.from input) (omega (arith, length-drop w.from input, p.hand)))
