-- What follows of lines from their one spelling: how long one is, that two of the same values are the same bytes, that what follows a line is not read, and which refusal tells of a value past its limit.
use Rattle.std.specs.Prelude.{Result}
use Prim.Native.Nat.{ℕ, ◌/◌, ◌≤◌, ◌<◌}
use mathlib.Core.Path.{◌≡◌, sym, ap, ◌∙◌}
use mathlib.Core.Bool.{true, false}
use mathlib.Core.List.{List, ◌++◌}
use native.Mathlib.Omega.{arith}
use borrow.Author.Tests.{ltb-true, lt-ltb, le-ltb, le-leb}
use lib.IntN.{ℤ, nat_abs}
use lib.ListN.{length, take, drop, length-append}
use lib.Seq.{take_at}
use Rattle.numbers.proofs.Digits.{some-digit, no_more}
use Rattle.terms.specs.Reply.{is, refused, need, next}
use Rattle.terms.specs.Refusals.{reply}
use Rattle.terms.specs.Checks.{in_range}
use Rattle.terms.proofs.Passing.{range-within}
use Rattle.writers.specs.Writing.{room_for}
use Rattle.writers.proofs.Back.{front}
use Rattle.partner.specs.declared.form.Form.{Form}
use Rattle.partner.specs.declared.line.Line.{Line}
use Rattle.partner.specs.declared.line.LineRead.{LineRead}
use Rattle.partner.specs.Form.{form_of}
use Rattle.partner.specs.Line.{within, read_of, quantity_bytes, line_of, at_zero, write_of, LineWritten}
use Rattle.partner.proofs.Lays.{amount-long}
use Rattle.partner.proofs.RoundTrip.{Limited, limits-passed, line_reads, line-accepted-back, was_read, line-bytes-again}
use Rattle.terms.specs.declared.refusal.Refusal.{Refusal}

-- ---- a line that was read
module _ (s : List ℕ) (l : LineRead) (e : read_of s ≡ is l) where
  pub used-length : l.used ≡ length (line_of l.line)
  used-length = omega (arith, (was_read s l e).spelled.ends)

  -- bytes behind it are not read
  pub rest-unread : (more : List ℕ) → read_of (take l.used s ++ more) ≡ is l
  rest-unread more =
      let r = was_read s l e in
      rw (line-bytes-again s l e) (line_reads l.line more r.number r.limits ∙ rw (← used-length))

pub line-spelled-once : (s t : List ℕ) (l m : LineRead) → read_of s ≡ is l → read_of t ≡ is m → l.line ≡ m.line → take l.used s ≡ take m.used t
line-spelled-once s t l m e f v = line-bytes-again s l e ∙ ap line_of v ∙ sym (line-bytes-again t m f)

-- ---- "What our writers make reads back as the values given; what is accepted, written again, gives the same bytes."
pub line-back : (l : Line) {entry exit : List ℕ} {r : Result ℕ Refusal} {n : ℕ} → l.number ≤ 65535 → reply r ≡ is n → LineWritten l entry r exit
    → read_of exit ≡ is (record { line = l; used = n })
line-back l {entry} {n = n} small done w =
    let f = front (line_of l) entry w done in
    rw f.1 (line-accepted-back l (drop n entry) (length entry) small f.0)

pub line-again : (s : List ℕ) (l : LineRead) → read_of s ≡ is l → (lent : List ℕ) {left : List ℕ} {r : Result ℕ Refusal} → l.used ≤ length lent → LineWritten l.line lent r left
    → (reply r ≡ is l.used) × (take l.used left ≡ take l.used s)
unfolding write_of room_for need
line-again s l e lent fits w =
    let n = used-length s l e in
    let taken : write_of l.line (length lent) ≡ is l.used =
    rw (limits-passed l.line at_zero (room_for (length (line_of l.line)) (length lent)) (was_read s l e).limits, ← n, le-leb l.used (length lent) fits) in
    let done = w.replied ∙ taken in
    let f = front (line_of l.line) lent w done in
    (done, rw f.1 (take_at (line_of l.line) (drop l.used lent) l.used (sym n)) ∙ sym (line-bytes-again s l e))

-- ---- how long a line is
amount-lengths : (z : ℤ) (stop : ℕ) → in_range z ≡ true → (8 ≤ length (quantity_bytes z stop)) × (length (quantity_bytes z stop) ≤ 11)
amount-lengths z stop e =
    let w = range-within z e in
    let m = nat_abs z / 1000 in
    let f = some-digit m in
    let t = no_more 3 m (omega arith) in
    let k = amount-long z stop in
    (omega arith, omega arith)

line-lengths : (l : Line) → Limited l → l.number ≤ 65535 → (28 ≤ length (line_of l)) × (length (line_of l) ≤ 42)
unfolding line_of
line-lengths l p h =
    let q = ltb-true l.quarter 100 p.quarter in
    let a = some-digit l.number in
    let b = no_more 4 l.number (omega arith) in
    let c = some-digit l.quarter in
    let d = no_more 1 l.quarter (omega arith) in
    let n = amount-lengths l.n.0 59 p.n in
    let k = amount-lengths l.margins.step_down 59 p.down in
    let u = amount-lengths l.margins.step_up 10 p.up in
    simp length-append (omega arith, omega arith)

pub used-bounds : (s : List ℕ) (l : LineRead) → read_of s ≡ is l → (28 ≤ l.used) × (l.used ≤ 42)
used-bounds s l e =
    let r = was_read s l e in
    rw (used-length s l e) (line-lengths l.line r.limits r.number)

-- ---- "A well-formed amount or quarter past its limit, however long, is too large, not malformed."
module _ (s : List ℕ) (f : Form) (e : form_of s ≡ is f) where
  -- a quarter: 4 at its start
  pub quarter-too-large : 100 ≤ f.quarter.value → read_of s ≡ refused 4 f.number.next
  unfolding read_of within next need
  quarter-too-large h = rw (e, le-ltb f.quarter.value 100 h)

  -- an amount: 8 at its own start, the first of them
  module _ (q : f.quarter.value < 100) where
    pub n-too-large : in_range f.n.value ≡ false → read_of s ≡ refused 8 f.quarter.next
    unfolding read_of within next need
    n-too-large h = rw (e, lt-ltb f.quarter.value 100 q, h)

    module _ (n : in_range f.n.value ≡ true) where
      pub down-too-large : in_range f.step_down.value ≡ false → read_of s ≡ refused 8 f.n.next
      unfolding read_of within next need
      down-too-large h = rw (e, lt-ltb f.quarter.value 100 q, n, h)

      pub up-too-large : in_range f.step_down.value ≡ true → in_range f.step_up.value ≡ false → read_of s ≡ refused 8 f.step_down.next
      unfolding read_of within next need
      up-too-large d h = rw (e, lt-ltb f.quarter.value 100 q, n, d, h)
