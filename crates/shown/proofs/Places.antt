-- Where the words of a line stand: each is a field of the text, with its value.
use Prim.Native.Nat.{ℕ, ◌+◌, ◌≤◌, ◌<◌}
use mathlib.Core.Path.{◌≡◌, refl, sym}
use mathlib.Core.Bool.{Bool, true, false}
use mathlib.Core.List.{List, [], ◌∷◌, ◌++◌, append_assoc}
use native.Mathlib.Omega.{arith}
use borrow.Author.Tests.{le-leb}
use lib.ListN.{length, drop, length-append}
use lib.Seq.{drop_at}
use Rattle.std.specs.Prelude.{Ok}
use Rattle.numbers.specs.Choice.{pick}
use Rattle.text.specs.declared.fields.Field.{Field}
use Rattle.text.specs.declared.values_in.Form.{Form}
use Rattle.text.specs.Numbers.{is_blank, blanks, field_of}
use Rattle.text.specs.Dates.{value_in, whole_at}
use Rattle.text.specs.Fields.{field_at, unsigned_of, value_after}
use Rattle.shown.specs.Shown.{whole}

-- a field of one byte or more, with no blank in it
pub record Word (w : List ℕ) : Type 0 where
  pub solid : field_of w ≡ w
  pub long : 0 < length w

-- its first byte is no blank, and what is left of it is one field
no-blank : (b : ℕ) (s : List ℕ) → field_of (b ∷ s) ≡ b ∷ s → (is_blank b ≡ false) × (field_of s ≡ s)
unfolding field_of
no-blank b s e = go (is_blank b) e
  where
    go : (t : Bool) → pick t [] (b ∷ field_of s) ≡ b ∷ s → (t ≡ false) × (field_of s ≡ s)
    go true e = absurd (let z : ◌≡◌ {A = ℕ} 0 1 = cc in omega arith)
    go false e = (refl, cc)

pub stops : (w rest : List ℕ) → field_of w ≡ w → field_of (w ++ (32 ∷ rest)) ≡ w
unfolding field_of
stops [] rest e = refl
stops (b ∷ w) rest e =
    let p = no-blank b w e in
    rw (p.0, stops w rest p.1)

starts : (w rest : List ℕ) → Word w → blanks (w ++ rest) ≡ 0
unfolding blanks
starts [] rest word = absurd (omega (arith, word.long))
starts (b ∷ w) rest word = rw (no-blank b w word.solid).0

-- a word behind a space, and what follows it
module _ (text front w rest : List ℕ) (so : text ≡ front ++ ((32 ∷ w) ++ rest)) (word : Word w) (end : field_of (w ++ rest) ≡ w) where
  -- where it stands
  abbrev pub place : ℕ → Field
  place index = record { index = index; start = length front + 1; end = length front + 1 + length w }

  behind : drop (length front) text ≡ (32 ∷ w) ++ rest
  behind = rw so (drop_at front ((32 ∷ w) ++ rest) (length front) refl)

  at-word : drop (length front + 1) text ≡ w ++ rest
  at-word =
      let e : front ++ ((32 ∷ w) ++ rest) ≡ (front ++ (32 ∷ [])) ++ (w ++ rest) = sym (append_assoc front (32 ∷ []) (w ++ rest)) in
      rw (so, e) (drop_at (front ++ (32 ∷ [])) (w ++ rest) (length front + 1) (length-append front (32 ∷ [])))

  one-blank : blanks (drop (length front) text) ≡ 1
  unfolding blanks
  one-blank = rw behind (rw (starts w rest word))

  pub stands_at : (index : ℕ) → field_at text index (length front) ≡ place index
  unfolding field_at
  stands_at index = rw (one-blank, at-word, end)

  pub reads : (form : Form) (most index n before : ℕ) → before ≡ length front → value_in form w ≡ whole n → n ≤ most
      → value_after (unsigned_of most) form text index before ≡ Ok (record { value = n; end = length front + 1 + length w })
  unfolding value_after whole_at
  reads form most index n before e v h = rw (e, stands_at index, at-word, end, v, le-leb n most h)
