-- A line that is written reads back as its values, and a line that is read is written as its own bytes: each field stands where the one before it ends, spelled in its one way.
use Prim.Native.Nat.{ℕ, ◌≤◌}
use mathlib.Core.Path.{◌≡◌, refl}
use mathlib.Core.Bool.{true}
use mathlib.Core.List.{List, ◌++◌}
use native.Mathlib.Omega.{arith}
use borrow.Author.Tests.{leb-true, le-leb, ltb-true}
use lib.Dec.{ltb}
use lib.ListN.{length, take}
use lib.Seq.{take_at}
use lib.Signed.{le_z}
use Rattle.terms.specs.Reply.{Reply, is, need, next}
use Rattle.terms.specs.Checks.{in_range}
use Rattle.terms.proofs.Replies.{need-is, next-is}
use Rattle.terms.proofs.Passing.{range-within}
use Rattle.writers.specs.Writing.{room_for}
use Rattle.partner.specs.declared.fields.Held.{Held}
use Rattle.partner.specs.declared.form.Form.{Form}
use Rattle.partner.specs.declared.limits.Places.{Places}
use Rattle.partner.specs.declared.line.Line.{Line}
use Rattle.partner.specs.declared.line.LineRead.{LineRead}
use Rattle.partner.specs.Form.{held, numeral_of, quantity_of, unit_number_of, form_of}
use Rattle.partner.specs.Line.{within, line_in, starts_in, read_of, numeral, quantity_bytes, line_of, at_zero, write_of}
use Rattle.partner.proofs.Spelled.{Spelled, both, parts, whole}
use Rattle.partner.proofs.FieldTrips.{numeral_reads, numeral-writes, amount-reads, amount-writes}

-- ---- the limits
pub record Limited (l : Line) : Type 0 where
  pub quarter : ltb l.quarter 100 ≡ true
  pub n : in_range l.n.0 ≡ true
  pub down : in_range l.margins.step_down ≡ true
  pub up : in_range l.margins.step_up ≡ true
  pub ordered : le_z l.margins.step_down l.margins.step_up ≡ true

module _ {A : Type 0} (l : Line) (at : Places) (rest : Reply A) where
  pub limited : {a : A} → within l at rest ≡ is a → Limited l × (rest ≡ is a)
  unfolding within
  limited e =
      let q = need-is _ _ _ _ e in
      let n = need-is _ _ _ _ q.1 in
      let d = need-is _ _ _ _ n.1 in
      let u = need-is _ _ _ _ d.1 in
      let o = need-is _ _ _ _ u.1 in
      (record { quarter = q.0; n = n.0; down = d.0; up = u.0; ordered = o.0 }, o.1)

  pub limits-passed : Limited l → within l at rest ≡ rest
  unfolding within need
  limits-passed p = rw (p.quarter, p.n, p.down, p.up, p.ordered)

-- ---- the eight fields, each read where the one before it ends
pub record Formed (s : List ℕ) (f : Form) : Type 0 where
  pub number : numeral_of s 0 59 ≡ is f.number
  pub small : f.number.value ≤ 65535
  pub quarter : numeral_of s f.number.next 59 ≡ is f.quarter
  pub n : quantity_of s f.quarter.next 59 ≡ is f.n
  pub down : quantity_of s f.n.next 59 ≡ is f.step_down
  pub up : quantity_of s f.step_down.next 10 ≡ is f.step_up

module _ (s : List ℕ) where
  number_is : (h : Held ℕ) → unit_number_of s ≡ is h → (numeral_of s 0 59 ≡ is h) × (h.value ≤ 65535)
  unfolding unit_number_of
  number_is h e =
      let a = next-is (numeral_of s 0 59) _ e in
      let n = need-is _ _ _ _ a.1.1 in
      let v : a.0 ≡ h = cc in
      rw (← v) (a.1.0, leb-true _ 65535 n.0)

  pub formed : (f : Form) → form_of s ≡ is f → Formed s f
  unfolding form_of
  formed f e =
      let a = next-is (unit_number_of s) _ e in
      let b = next-is _ _ a.1.1 in
      let c = next-is _ _ b.1.1 in
      let d = next-is _ _ c.1.1 in
      let u = next-is _ _ d.1.1 in
      let n = number_is a.0 a.1.0 in
      let v : record { number = a.0; quarter = b.0; n = c.0; step_down = d.0; step_up = u.0 } ≡ f = cc in
      rw (← v) (record { number = n.0; small = n.1; quarter = b.1.0; n = c.1.0; down = d.1.0; up = u.1.0 })

  pub forms : (f : Form) → Formed s f → form_of s ≡ is f
  unfolding form_of unit_number_of next need
  forms f p = rw (p.number, le-leb f.number.value 65535 p.small, p.quarter, p.n, p.down, p.up)

-- ---- reading what was written
-- where the fields of a line start as it is written
abbrev pub starts_of : Line → Places
starts_of l =
    record {
      quarter = length (numeral l.number 59);
      n = length (numeral l.number 59 ++ numeral l.quarter 59);
      step_down = length (numeral l.number 59 ++ numeral l.quarter 59 ++ quantity_bytes l.n.0 59);
      step_up = length (numeral l.number 59 ++ numeral l.quarter 59 ++ quantity_bytes l.n.0 59 ++ quantity_bytes l.margins.step_down 59);
    }

-- the form with these values and places
abbrev pub form_with : Line → Places → ℕ → Form
form_with l at end =
    record {
      number = held l.number at.quarter;
      quarter = held l.quarter at.n;
      n = held l.n.0 at.step_down;
      step_down = held l.margins.step_down at.step_up;
      step_up = held l.margins.step_up end;
    }

module _ (l : Line) (more : List ℕ) (number : l.number ≤ 65535) (p : Limited l) where
  pub form-reads : form_of (line_of l ++ more) ≡ is (form_with l (starts_of l) (length (line_of l)))
  unfolding line_of
  form-reads =
      let s = line_of l ++ more in
      let a = numeral l.number 59 in
      let b = numeral l.quarter 59 in
      let c = quantity_bytes l.n.0 59 in
      let d = quantity_bytes l.margins.step_down 59 in
      let e = quantity_bytes l.margins.step_up 10 in
      let four = parts s (a ++ b ++ c ++ d) e (whole (line_of l) more) in
      let three = parts s (a ++ b ++ c) d four.0 in
      let two = parts s (a ++ b) c three.0 in
      let one = parts s a b two.0 in
      let q = ltb-true l.quarter 100 p.quarter in
      let at = starts_of l in
      let m = l.margins in
      forms s (form_with l at (length (line_of l)))
      record {
        number = numeral_reads s 0 59 l.number at.quarter refl (omega arith) one.0;
        small = number;
        quarter = numeral_reads s at.quarter 59 l.quarter at.n refl (omega arith) one.1;
        n = amount-reads s at.n 59 l.n.0 at.step_down (range-within l.n.0 p.n).size two.1;
        down = amount-reads s at.step_down 59 m.step_down at.step_up (range-within m.step_down p.down).size three.1;
        up = amount-reads s at.step_up 10 m.step_up (length (line_of l)) (range-within m.step_up p.up).size four.1;
      }

  pub line_reads : read_of (line_of l ++ more) ≡ is (record { line = l; used = length (line_of l) })
  unfolding read_of next
  line_reads = rw form-reads (limits-passed l (starts_of l) _ p)

pub line-bytes-back : (l : Line) (more : List ℕ) → l.number ≤ 65535 → within {A = ℕ} l at_zero (is 0) ≡ is 0
    → read_of (line_of l ++ more) ≡ is (record { line = l; used = length (line_of l) })
line-bytes-back l more h e = line_reads l more h (limited l at_zero (is 0) e).0

-- what the writer accepts
pub line-accepted-back : (l : Line) (more : List ℕ) (room : ℕ) {n : ℕ} → l.number ≤ 65535 → write_of l room ≡ is n
    → read_of (line_of l ++ more) ≡ is (record { line = l; used = n })
unfolding write_of room_for
line-accepted-back l more room {n} h e =
    let p = limited l at_zero _ e in
    let q = need-is _ _ _ _ p.1 in
    let v : length (line_of l) ≡ n = cc in
    rw (← v) (line_reads l more h p.0)

-- ---- writing what was read
pub record WasRead (s : List ℕ) (l : LineRead) : Type 0 where
  pub number : l.line.number ≤ 65535
  pub limits : Limited l.line
  pub spelled : Spelled s 0 (line_of l.line) l.used

module _ (s : List ℕ) where
  form-writes : (f : Form) → Formed s f → Limited (line_in f) → Spelled s 0 (line_of (line_in f)) f.step_up.next
  unfolding line_of
  form-writes f r p =
      let q = ltb-true f.quarter.value 100 p.quarter in
      let n = range-within f.n.value p.n in
      let d = range-within f.step_down.value p.down in
      let u = range-within f.step_up.value p.up in
      let a = numeral-writes s 0 59 f.number (omega arith) r.number (omega (arith, r.small)) in
      let b = numeral-writes s f.number.next 59 f.quarter (omega arith) r.quarter (omega arith) in
      let c = amount-writes s f.quarter.next 59 f.n (omega arith) r.n (omega arith) in
      let g = amount-writes s f.n.next 59 f.step_down (omega arith) r.down (omega arith) in
      let e = amount-writes s f.step_down.next 10 f.step_up (omega arith) r.up (omega arith) in
      both s (both s (both s (both s a b) c) g) e

  pub was_read : (l : LineRead) → read_of s ≡ is l → WasRead s l
  unfolding read_of
  was_read l e =
      let a = next-is (form_of s) _ e in
      let f = a.0 in
      let r = formed s f a.1.0 in
      let p = limited (line_in f) (starts_in f) _ a.1.1 in
      let v : record { line = line_in f; used = f.step_up.next } ≡ l = cc in
      rw (← v) (record { number = r.small; limits = p.0; spelled = form-writes f r p.0 })

pub line-bytes-again : (s : List ℕ) (l : LineRead) → read_of s ≡ is l → take l.used s ≡ line_of l.line
line-bytes-again s l e =
    let p = (was_read s l e).spelled in
    rw p.so (take_at (line_of l.line) _ l.used (omega (arith, p.ends)))
