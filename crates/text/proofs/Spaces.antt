-- Blanks and fields read byte by byte: the count of either is that of what is read and of what is left, and a field is the front of its text.
use Prim.Native.Nat.{ℕ, suc, ◌+◌, ◌-◌, ◌≤◌, ◌<◌}
use mathlib.Core.Path.{◌≡◌, refl}
use mathlib.Core.Bool.{true, false}
use mathlib.Core.List.{List, [], ◌∷◌}
use Rattle.std.proofs.Common.{rules}
use native.Mathlib.Numerals.{add-one}
use native.Mathlib.Omega.{arith}
use lib.ListN.{length, get_or, take, drop, length-drop, drop_of_length-le}
use lib.Seq.{drop-cons}
use Rattle.text.specs.declared.fields.Field.{Field}
use Rattle.text.specs.Numbers.{is_blank, blanks, field_of}
use Rattle.text.specs.Fields.{field_at}

-- ---- blanks
module _ (s : List ℕ) (i : ℕ) where
  pub blanks-on : i < length s → is_blank (get_or s i 0) ≡ true → blanks (drop i s) ≡ suc (blanks (drop (i + 1) s))
  unfolding blanks
  blanks-on h e = rw (add-one, drop-cons s i 0, e)

  pub blanks-out : i < length s → is_blank (get_or s i 0) ≡ false → blanks (drop i s) ≡ 0
  unfolding blanks
  blanks-out h e = rw (drop-cons s i 0, e)

  pub blanks-end : length s ≤ i → blanks (drop i s) ≡ 0
  unfolding blanks
  blanks-end h = rw (drop_of_length-le s h)

pub ruleset spaces = (blanks-on, blanks-out, blanks-end)

-- ---- fields
module _ (s : List ℕ) (i : ℕ) where
  pub field-on : i < length s → is_blank (get_or s i 0) ≡ false → length (field_of (drop i s)) ≡ suc (length (field_of (drop (i + 1) s)))
  unfolding field_of
  field-on h e = rw (add-one, drop-cons s i 0, e)

  pub field_out : i < length s → is_blank (get_or s i 0) ≡ true → length (field_of (drop i s)) ≡ 0
  unfolding field_of
  field_out h e = rw (drop-cons s i 0, e)

  pub field-none : length s ≤ i → field_of (drop i s) ≡ []
  unfolding field_of
  field-none h = rw (drop_of_length-le s h)

pub field-end : (s : List ℕ) (i : ℕ) → length s ≤ i → length (field_of (drop i s)) ≡ 0
field-end s i h = rw (field-none s i h)

pub ruleset words = (field-on, field_out, field-end)

pub field-front : (s : List ℕ) → take (length (field_of s)) s ≡ field_of s
unfolding field_of
field-front [] = refl
field-front (b ∷ s) =
    let r = field-front s in
    search rules

pub field-at : (s : List ℕ) (from end : ℕ) → end ≡ from + length (field_of (drop from s)) → take (end - from) (drop from s) ≡ field_of (drop from s)
field-at s from end e =
    let z : end - from ≡ length (field_of (drop from s)) = omega arith in
    rw z (field-front (drop from s))

field-le : (s : List ℕ) → length (field_of s) ≤ length s
unfolding field_of
field-le [] = omega arith
field-le (b ∷ s) =
    let r = field-le s in
    search rules

pub field_fits : (s : List ℕ) (from : ℕ) → from ≤ length s → from + length (field_of (drop from s)) ≤ length s
field_fits s from h = omega (arith, field-le (drop from s), length-drop from s)

blanks-le : (s : List ℕ) → blanks s ≤ length s
unfolding blanks
blanks-le [] = omega arith
blanks-le (b ∷ s) =
    let r = blanks-le s in
    search rules

pub blanks-fit : (s : List ℕ) (from : ℕ) → from ≤ length s → from + blanks (drop from s) ≤ length s
blanks-fit s from h = omega (arith, blanks-le (drop from s), length-drop from s)

-- ---- where a field stands
pub record Stands (text : List ℕ) (f : Field) : Type 0 where
  pub ordered : f.start ≤ f.end
  pub fits : f.end ≤ length text
  pub word : take (f.end - f.start) (drop f.start text) ≡ field_of (drop f.start text)

pub stands : (text : List ℕ) (index at : ℕ) → at ≤ length text → Stands text (field_at text index at)
unfolding field_at
stands text index at h =
    record {
      ordered = omega arith;
      fits = field_fits text (at + blanks (drop at text)) (blanks-fit text at h);
      word = field-at text (at + blanks (drop at text)) _ refl;
    }
