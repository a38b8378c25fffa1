-- What a field's answer says of the record's reading: by cases on the field's test.
use Prim.Native.Nat.{ℕ}
use mathlib.Core.Path.{◌≡◌, refl, sym}
use mathlib.Core.Bool.{Bool, true, false}
use Rattle.terms.specs.Reply.{Reply, is, refused, need}
use Rattle.terms.proofs.Replies.{never}

-- a field that was refused refuses the record
pub field_out : {A B : Type 0} (t : Bool) (n p : ℕ) (v : A) (rest : Reply B) {m k : ℕ} → ◌≡◌ {A = Reply A} (refused m k) (need t n p (is v))
    → ◌≡◌ {A = Reply B} (refused m k) (need t n p rest)
unfolding need
field_out true n p v rest e = never e
field_out false n p v rest e = cc

-- a field that was not has passed its test, and is the value
pub field_in : {A : Type 0} (t : Bool) (n p : ℕ) (v : A) {x : A} → is x ≡ need t n p (is v) → (t ≡ true) × (x ≡ v)
unfolding need
field_in true n p v e = (refl, cc)
field_in false n p v e = never (sym e)

-- past a test that passed, the reading is what comes after it
pub past : {A : Type 0} (t : Bool) (n p : ℕ) (rest : Reply A) {x : Reply A} → t ≡ true → x ≡ rest → x ≡ need t n p rest
unfolding need
past t n p rest h e = rw h e
