-- The bytes of a line: how long each part is, and that parts laid one behind another are one run, since each begins where the one before it ends.
use Prim.Native.Nat.{ℕ, ◌+◌, ◌/◌, ◌%◌, ◌≤◌}
use mathlib.Core.Path.{◌≡◌, refl, ap, ◌∙◌}
use mathlib.Core.List.{List, [], ◌∷◌, ◌++◌}
use native.Mathlib.Omega.{arith}
use lib.IntN.{ℤ, nat_abs}
use lib.ListN.{length, length-append}
use Rattle.numbers.specs.Bytes.{laid_at}
use Rattle.numbers.specs.Decimal.{decimal}
use Rattle.numbers.proofs.Digits.{decimal-few}
use Rattle.numbers.proofs.Laid.{laid_next, laid_more, length-laid}
use Rattle.std.proofs.lemmas.Int.{to_z-of_z}
use Rattle.partner.specs.declared.line.Line.{Line}
use Rattle.partner.specs.Line.{numeral, three, letter, quantity_bytes, line_of}
use Rattle.partner.specs.Inner.{Lays}

-- ---- lengths
pub numeral-long : (n stop : ℕ) → length (numeral n stop) ≡ length (decimal n) + 1
numeral-long n stop = length-append (decimal n) (stop ∷ [])

numeral-few : (n stop : ℕ) → length (numeral n stop) ≤ 21
numeral-few n stop = omega (arith, numeral-long n stop, decimal-few n)

pub amount-long : (z : ℤ) (stop : ℕ) → length (quantity_bytes z stop) ≡ length (decimal (nat_abs z / 1000)) + 7
unfolding quantity_bytes
amount-long z stop = simp length-append (omega arith)

amount-few : (z : ℤ) (stop : ℕ) → length (quantity_bytes z stop) ≤ 27
amount-few z stop = omega (arith, amount-long z stop, decimal-few (nat_abs z / 1000))

pub line-long : (l : Line)
    → length (line_of l)
    ≡ length (numeral l.number 59) + length (numeral l.quarter 59)
    + length (quantity_bytes l.n.0 59) + length (quantity_bytes l.margins.step_down 59) + length (quantity_bytes l.margins.step_up 10)
unfolding line_of
line-long l = simp length-append

pub line-few : (l : Line) → length (line_of l) ≤ 123
line-few l =
    let m = l.margins in
    omega (arith, line-long l, numeral-few l.number 59, numeral-few l.quarter 59, amount-few l.n.0 59, amount-few m.step_down 59, amount-few m.step_up 10)

pub ruleset lengths = (numeral-long, amount-long, line-long, line-few, decimal-few, length-append, to_z-of_z)

-- ---- parts
module _ {entry : List ℕ} {at : ℕ} where
  -- a part, and the next
  pub then : {one two xs ys : List ℕ} {j r : ℕ} → Lays entry at xs j one → Lays one j ys r two → r ≤ length entry → Lays entry at (xs ++ ys) r two
  then {xs = xs} {ys = ys} {j} a b h =
      record {
        room = laid_next entry at xs j ys a.room b.room a.after (omega (arith, a.after, b.after));
        after = omega (arith, a.after, b.after, length-append xs ys);
        long = omega (arith, a.long, b.long);
      }

-- the three parts of an amount, and the five of a line
pub amount-laid : {entry one two all : List ℕ} {at r : ℕ} (z : ℤ) (stop : ℕ) → at + length (quantity_bytes z stop) ≤ length entry
    → Lays entry at (numeral (nat_abs z / 1000) 44) r one → two ≡ laid_at one r (three (nat_abs z % 1000)) → all ≡ laid_at two (r + 3) (59 ∷ letter z ∷ stop ∷ [])
    → Lays entry at (quantity_bytes z stop) (r + 6) all
unfolding quantity_bytes
amount-laid {entry} {one} {two} {all} {at} {r} z stop h a b c =
    let n = amount-long z stop in
    let m = numeral-long (nat_abs z / 1000) 44 in
    let kept-two : length two ≡ length one = ap length b ∙ length-laid one r (three (nat_abs z % 1000)) (omega (arith, a.after, a.long)) in
    let kept-all : length all ≡ length two = ap length c ∙ length-laid two (r + 3) (59 ∷ letter z ∷ stop ∷ []) (omega (arith, a.after, a.long, kept-two)) in
    let decimals = then a (record { room = b; after = refl; long = kept-two }) (omega (arith, a.after)) in
    then decimals (record { room = c; after = omega arith; long = kept-all }) (omega (arith, a.after))

pub line-laid : {room one two three four all : List ℕ} {i j k m r : ℕ} (l : Line) → length (line_of l) ≤ length room
    → Lays room 0 (numeral l.number 59) i one → Lays one i (numeral l.quarter 59) j two → Lays two j (quantity_bytes l.n.0 59) k three
    → Lays three k (quantity_bytes l.margins.step_down 59) m four → Lays four m (quantity_bytes l.margins.step_up 10) r all
    → all ≡ laid_at room 0 (line_of l)
unfolding line_of
line-laid l h a b c d e =
    let n = line-long l in
    let two = then a b (omega (arith, a.after, b.after)) in
    let three = then two c (omega (arith, a.after, b.after, c.after)) in
    let four = then three d (omega (arith, a.after, b.after, c.after, d.after)) in
    (then four e (omega (arith, a.after, b.after, c.after, d.after, e.after))).room

pub ruleset laying = (numeral-long, amount-long, line-long, decimal-few, laid_more, length-laid, length-append, to_z-of_z)
