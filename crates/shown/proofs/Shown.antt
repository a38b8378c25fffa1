-- The list's DAY line is shown with its dates, and what is shown reads back as the same numbers.
use Prim.Native.Nat.{ℕ, ◌+◌, ◌≤◌}
use mathlib.Core.Path.{◌≡◌, refl, sym, ap, ◌∙◌}
use mathlib.Core.List.{List, [], ◌∷◌, ◌++◌, append_assoc, append-nil}
use native.Mathlib.Omega.{arith}
use borrow.Author.Tests.{eq-eqb}
use lib.ListN.{length, length-append}
use lib.Seq.{drop-length}
use Rattle.numbers.specs.Bytes.{Bytes}
use Rattle.numbers.specs.Decimal.{decimal}
use Rattle.numbers.proofs.Trips.{below16, below32}
use Rattle.records.specs.declared.day.DayRecord.{DayRecord}
use Rattle.records.specs.Layouts as L
use Rattle.lines.specs.Lines.{spaced, line, day_line}
use Rattle.numbers.proofs.Digits.{some-digit}
use Rattle.std.specs.Prelude.{Some, Ok}
use Rattle.text.specs.declared.values_in.Form.TheVariants as F
use Rattle.text.specs.Numbers.{blanks, field_of, number_in}
use Rattle.text.specs.Dates.{day_in, minute_in}
use Rattle.text.specs.Fields.{field_at, over_at}
use Rattle.text.specs.Line.{same, day_word, listed_fields, listed_of}
use Rattle.shown.specs.Shown.{day_shown, minute_shown, dated_line, shown_line, whole, HeldDay, DayShown}
use Rattle.shown.proofs.Figures.{number_read, minute-read, day-read, solid-decimal}
use Rattle.shown.proofs.Dates.{shown-day-back, shown-minute-back, solid-day, long-day, solid-minute, long-minute}
use Rattle.shown.proofs.Places.{Word, stops, reads}

-- ---- DAY and three words
module _ (w1 w2 w3 : List ℕ) (word1 : Word w1) (word2 : Word w2) (word3 : Word w3) where
  abbrev text : List ℕ
  text = ((day_word ++ (32 ∷ w1)) ++ (32 ∷ w2)) ++ (32 ∷ w3)

  abbrev front2 : List ℕ
  front2 = day_word ++ (32 ∷ w1)

  abbrev front3 : List ℕ
  front3 = front2 ++ (32 ∷ w2)

  so1 : text ≡ day_word ++ ((32 ∷ w1) ++ (32 ∷ (w2 ++ (32 ∷ w3))))
  so1 = append_assoc front2 (32 ∷ w2) (32 ∷ w3) ∙ append_assoc day_word (32 ∷ w1) ((32 ∷ w2) ++ (32 ∷ w3))

  so2 : text ≡ front2 ++ ((32 ∷ w2) ++ (32 ∷ w3))
  so2 = append_assoc front2 (32 ∷ w2) (32 ∷ w3)

  so3 : text ≡ front3 ++ ((32 ∷ w3) ++ [])
  so3 = ap (λ (s : List ℕ). front3 ++ s) (sym (append-nil (32 ∷ w3)))

  end1 : field_of (w1 ++ (32 ∷ (w2 ++ (32 ∷ w3)))) ≡ w1
  end1 = stops w1 (w2 ++ (32 ∷ w3)) word1.solid

  end2 : field_of (w2 ++ (32 ∷ w3)) ≡ w2
  end2 = stops w2 w3 word2.solid

  end3 : field_of (w3 ++ []) ≡ w3
  end3 = rw (append-nil w3) word3.solid

  first : field_at text 0 0 ≡ record { index = 0; start = 0; end = 3 }
  unfolding field_at blanks field_of
  first = refl

  over : over_at text 4 (length front3 + 1 + length w3) ≡ Ok tt
  unfolding over_at field_at blanks
  over =
      let e : length front3 + 1 + length w3 ≡ length text = omega (arith, length-append front3 (32 ∷ w3)) in
      rw (e, drop-length text, eq-eqb (length text + 0) (length text) (omega arith))

  module _ (a b c : ℕ) (r1 : day_in w1 ≡ whole a) (r2 : number_in w2 ≡ whole b) (r3 : minute_in w3 ≡ whole c) (h1 : a ≤ 65535) (h2 : b ≤ 255) (h3 : c ≤ 4294967295) where
    fields : listed_fields text 3 ≡ Ok (record { day = a; quarters = b; run = c })
    unfolding listed_fields
    fields =
        let e1 = reads text day_word w1 (32 ∷ (w2 ++ (32 ∷ w3))) so1 word1 end1 F.Day 65535 1 a 3 refl r1 h1 in
        let e2 = reads text front2 w2 (32 ∷ w3) so2 word2 end2 F.Number 255 2 b (length day_word + 1 + length w1) (omega arith) r2 h2 in
        let e3 = reads text front3 w3 [] so3 word3 end3 F.Minute 4294967295 3 c (length front2 + 1 + length w2) (omega (arith, length-append front2 (32 ∷ w2))) r3 h3 in
        rw (e1, e2, e3, over)

    pub line_read : listed_of (spaced day_word (w1 ∷ w2 ∷ w3 ∷ [])) ≡ Some (record { day = a; quarters = b; run = c })
    unfolding listed_of spaced field_of same
    line_read = rw (first, fields)

-- ---- for every day
module _ (a b c : ℕ) (h1 : a ≤ 65535) (h2 : b ≤ 255) (h3 : c ≤ 4294967295) where
  number_word : (n : ℕ) → Word (decimal n)
  number_word n = record { solid = solid-decimal n; long = omega (arith, some-digit n) }

  plain-read : listed_of (spaced day_word (decimal a ∷ decimal b ∷ decimal c ∷ [])) ≡ Some (record { day = a; quarters = b; run = c })
  plain-read =
      line_read (decimal a) (decimal b) (decimal c) (number_word a) (number_word b) (number_word c) a b c
      (day-read a h1) (number_read b (omega arith)) (minute-read c h3) h1 h2 h3

  -- mkday's reading of the shown line gives the numbers back
  pub shown-back : listed_of (dated_line a b c) ≡ Some (record { day = a; quarters = b; run = c })
  unfolding dated_line
  shown-back =
      line_read (day_shown a) (decimal b) (minute_shown c)
      (record { solid = solid-day a; long = long-day a })
      (number_word b)
      (record { solid = solid-minute c; long = long-minute c }) a b c
      (shown-day-back a (omega arith)) (number_read b (omega arith)) (shown-minute-back c h3) h1 h2 h3

  -- what is shown stays as it is when it is shown again
  pub shown-again : shown_line (dated_line a b c) ≡ dated_line a b c
  unfolding shown_line
  shown-again = rw shown-back

pub day-shown : (d : DayRecord) → HeldDay d → DayShown d
unfolding day_line line shown_line dated_line
day-shown d h =
    record {
      bare = spaced day_word (decimal d.day ∷ decimal d.quarters ∷ decimal d.run ∷ []);
      listed = refl;
      shown = rw (plain-read d.day d.quarters d.run h.day h.quarters h.run);
    }

-- every day record that is read from bytes is one of these
pub read_held : (s : List ℕ) → Bytes s → (at : ℕ) → HeldDay (L.day_at s at)
unfolding L.day_at
read_held s b at =
    record { day = omega (arith, below16 s b (at + 1)); quarters = omega (arith, b (at + 3)); run = omega (arith, below32 s b (at + 4)) }
