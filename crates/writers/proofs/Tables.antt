-- Both round trips of any record, once for every table: what its fields laid is read back at their places, and what stands there is laid again.
use Prim.Native.Nat.{ℕ, suc, ◌+◌, ◌-◌, ◌≤◌, ◌<◌}
use mathlib.Core.Path.{◌≡◌, refl, sym, ap, ◌∙◌}
use mathlib.Core.Bool.{true, and-eq-true_iff}
use mathlib.Core.List.{List, [], ◌∷◌, ◌++◌, append_assoc, append-nil}
use native.Mathlib.Nat.{add_assoc}
use native.Mathlib.Numerals.{add-one}
use native.Mathlib.Omega.{arith}
use lib.ListN.{length, take, drop, length-append, length-drop, get_or-append}
use lib.Seq.{get_or-drop, drop-drop, drop-cons, drop-append_seam, take-add}
use lib.Dec.{eqb}
use borrow.Author.Tests.{eqb-true, lt-ltb, le-leb, eq-eqb}
use mir.Syntax.{w32}
use mir.Val.{SFits}
use Rattle.numbers.specs.Bytes.{byte_at, Bytes, be16, be32, bytes16, bytes32, signed32}
use Rattle.numbers.proofs.Trips.{back16, back32, again16, again32, below32, signed-bits, bits-signed}
use Rattle.terms.specs.Reply.{is, need}
use Rattle.records.specs.Layouts.{Width, u8, u16, u32, i32, size, Value, value_of, bytes_of, value_at, Entry, behind, tiles}
use Rattle.records.specs.Reading.{head_of}
use Rattle.records.proofs.Heads.{Headed}

-- a value that is read back from its bytes: only a signed one can be out of reach
abbrev pub Held : (w : Width) → Value w → Type 0
Held u8 x = Unit
Held u16 x = Unit
Held u32 x = Unit
Held i32 z = SFits w32 z

abbrev pub AllHeld : List Entry → Type 0
AllHeld [] = Unit
AllHeld (e ∷ es) = Held e.field.width e.value × AllHeld es

-- each entry's value stands at its field's place, in the record that begins at a place
abbrev pub Stand : List ℕ → ℕ → List Entry → Type 0
Stand s at [] = Unit
Stand s at (e ∷ es) = (value_at s at e.field ≡ e.value) × Stand s at es

-- ---- one field
length-bytes : (w : Width) (v : Value w) → length (bytes_of w v) ≡ size w
unfolding bytes16 bytes32
length-bytes u8 v = refl
length-bytes u16 v = refl
length-bytes u32 v = refl
length-bytes i32 v = refl

-- a field at a place is the first of what is left there
module _ (s : List ℕ) (at : ℕ) where
  shift8 : (k : ℕ) → byte_at s (at + k) ≡ byte_at (drop at s) k
  shift8 k = sym (get_or-drop at s k 0)

  shift16 : (k : ℕ) → be16 s (at + k) ≡ be16 (drop at s) k
  unfolding be16
  shift16 k = rw (shift8 k, add_assoc, shift8 (k + 1))

  shift32 : (k : ℕ) → be32 s (at + k) ≡ be32 (drop at s) k
  unfolding be32
  shift32 k = rw (shift16 k, add_assoc, shift16 (k + 2))

  shift : (w : Width) (k : ℕ) → value_of w s (at + k) ≡ value_of w (drop at s) k
  shift u8 k = shift8 k
  shift u16 k = shift16 k
  shift u32 k = shift32 k
  shift i32 k = ap signed32 (shift32 k)

first_back : (w : Width) (v : Value w) (rest : List ℕ) → Held w v → value_of w (bytes_of w v ++ rest) 0 ≡ v
unfolding be16 be32 bytes16 bytes32
first_back u8 x rest h = refl
first_back u16 x rest h = back16 x
first_back u32 x rest h = simp (back16, back32)
first_back i32 z rest h = simp (back16, back32) (signed-bits z h)

module _ (s : List ℕ) (small : Bytes s) where
  taken : (at n : ℕ) → at < length s → take (suc n) (drop at s) ≡ byte_at s at ∷ take n (drop (at + 1) s)
  taken at n h = rw (drop-cons s at 0, add-one)

  four : (at : ℕ) → at + 4 ≤ length s → bytes32 (be32 s at) ≡ take 4 (drop at s)
  four at h =
      let two : at + 1 + 1 ≡ at + 2 = omega arith in
      again32 s small at
      ∙ rw (taken at 3 (omega arith), taken (at + 1) 2 (omega arith), two, taken (at + 2) 1 (omega arith), taken (at + 2 + 1) 0 (omega arith))

  field-again : (w : Width) (at : ℕ) → at + size w ≤ length s → bytes_of w (value_of w s at) ≡ take (size w) (drop at s)
  field-again u8 at h = sym (taken at 0 (omega arith))
  field-again u16 at h = again16 s small at ∙ rw (taken at 1 (omega arith), taken (at + 1) 0 (omega arith))
  field-again u32 at h = four at h
  field-again i32 at h = ap bytes32 (bits-signed (be32 s at) (record { fits = below32 s small at })) ∙ four at h

-- ---- all of a record's fields
tiled : (place : ℕ) (f : Entry) (es : List Entry) (len : ℕ) → tiles place (f ∷ es) len ≡ true
    → (f.field.place ≡ place) × (tiles (place + size f.field.width) es len ≡ true)
tiled place f es len t =
    let p = (and-eq-true_iff (eqb f.field.place place) (tiles (place + size f.field.width) es len)).0 t in
    (eqb-true f.field.place place p.0, p.1)

behind-split : (bytes : List ℕ) (es : List Entry) → behind bytes es ≡ bytes ++ behind [] es
unfolding behind
behind-split bytes [] = sym (append-nil bytes)
behind-split bytes (e ∷ es) =
    let b = bytes_of e.field.width e.value in
    behind-split (bytes ++ b) es ∙ append_assoc bytes b (behind [] es) ∙ ap (λ (l : List ℕ). bytes ++ l) (sym (behind-split b es))

-- what lies from a place on, after so many bytes
reads : (w : Width) (v : Value w) (s : List ℕ) (at : ℕ) (bytes more : List ℕ) → Held w v → drop at s ≡ bytes ++ (bytes_of w v ++ more)
    → value_of w s (at + length bytes) ≡ v
reads w v s at bytes more h e =
    let z : length bytes ≡ length bytes + 0 = omega arith in
    shift s at w (length bytes)
    ∙ ap (λ (l : List ℕ). value_of w l (length bytes)) e
    ∙ ap (value_of w (bytes ++ (bytes_of w v ++ more))) z
    ∙ shift (bytes ++ (bytes_of w v ++ more)) (length bytes) w 0
    ∙ rw (drop-append_seam bytes (bytes_of w v ++ more)) (first_back w v more h)

pub table-back : (s : List ℕ) (at : ℕ) (bytes : List ℕ) (es : List Entry) (len : ℕ) (rest : List ℕ) → tiles (length bytes) es len ≡ true → AllHeld es
    → drop at s ≡ behind bytes es ++ rest → Stand s at es
unfolding behind
table-back s at bytes [] len rest t h e = tt
table-back s at bytes (f ∷ es) len rest t h e =
    let w = f.field.width in
    let b = bytes_of w f.value in
    let p = tiled (length bytes) f es len t in
    let more : length (bytes ++ b) ≡ length bytes + size w = length-append bytes b ∙ omega (arith, length-bytes w f.value) in
    let whole = e ∙ ap (λ (l : List ℕ). l ++ rest) (behind-split (bytes ++ b) es) ∙ append_assoc (bytes ++ b) (behind [] es) rest ∙ append_assoc bytes b (behind [] es ++ rest) in (
      rw p.0 (reads w f.value s at bytes (behind [] es ++ rest) h.0 whole),
      table-back s at (bytes ++ b) es len rest (rw more p.1) h.1 e,
    )

module _ (s : List ℕ) (small : Bytes s) (at : ℕ) where
  tiles-le : (place : ℕ) (es : List Entry) (len : ℕ) → tiles place es len ≡ true → place ≤ len
  tiles-le place [] len t = omega (arith, eqb-true place len t)
  tiles-le place (f ∷ es) len t = omega (arith, tiles-le (place + size f.field.width) es len (tiled place f es len t).1)

  table-again : (bytes : List ℕ) (es : List Entry) (place len : ℕ) → tiles place es len ≡ true → Stand s at es → at + len ≤ length s
      → behind bytes es ≡ bytes ++ take (len - place) (drop (at + place) s)
  unfolding behind
  table-again bytes [] place len t st h =
      let none : len - place ≡ 0 = omega (arith, eqb-true place len t) in
      rw none (sym (append-nil bytes))
  table-again bytes (f ∷ es) place len t st h =
      let w = f.field.width in
      let p = tiled place f es len t in
      let l = tiles-le (place + size w) es len p.1 in
      let b : bytes_of w f.value ≡ take (size w) (drop (at + place) s) =
      rw (← st.0, p.0) (field-again s small w (at + place) (omega arith)) in
      let n : len - place ≡ size w + (len - (place + size w)) = omega arith in
      let m : at + (place + size w) ≡ at + place + size w = omega arith in
      table-again (bytes ++ bytes_of w f.value) es (place + size w) len p.1 st.1 h
      ∙ append_assoc bytes _ _
      ∙ ap (λ (l : List ℕ). bytes ++ l) (rw (b, n, take-add, drop-drop, m))

  -- a record that begins at the place
  pub record-again : (kind len : ℕ) (es : List Entry) → Headed s at kind len → tiles 1 es len ≡ true → Stand s at es → behind (kind ∷ []) es ≡ take len (drop at s)
  record-again kind len es h t st =
      let l = tiles-le 1 es len t in
      let n : len ≡ suc (len - 1) = omega arith in
      let whole : take len (drop at s) ≡ kind ∷ take (len - 1) (drop (at + 1) s) =
      ap (λ (k : ℕ). take k (drop at s)) n ∙ taken s small at (len - 1) (omega (arith, h.long)) ∙ rw h.first in
      table-again (kind ∷ []) es 1 len t st h.long ∙ sym whole

-- the first byte of what was laid, and its head
pub first-laid : (kind : ℕ) (es : List Entry) → byte_at (behind (kind ∷ []) es) 0 ≡ kind
first-laid kind es = ap (λ (l : List ℕ). byte_at l 0) (behind-split (kind ∷ []) es)

module _ (s : List ℕ) (at kind : ℕ) (bytes rest : List ℕ) (e : drop at s ≡ bytes ++ rest) (k : byte_at bytes 0 ≡ kind) (h : 1 ≤ length bytes) where
  pub first_read : byte_at s at ≡ kind
  first_read =
      let z : at + 0 ≡ at = omega arith in
      ap (byte_at s) (sym z) ∙ sym (get_or-drop at s 0 0) ∙ ap (λ (l : List ℕ). byte_at l 0) e ∙ get_or-append bytes rest 0 0 (omega arith) ∙ k

  pub head_read : (len : ℕ) → length bytes ≡ len → head_of s at kind len ≡ is (at + len)
  unfolding head_of need
  head_read len n =
      let l : length s - at ≡ len + length rest = sym (length-drop at s) ∙ ap length e ∙ length-append bytes rest ∙ omega arith in
      simp (lt-ltb at (length s) (omega arith), eq-eqb (byte_at s at) kind first_read, le-leb (at + len) (length s) (omega arith))
