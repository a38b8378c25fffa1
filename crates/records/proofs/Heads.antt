-- A record whose head was read has its kind, and lies whole in the bytes: each test of the head passed; none is cut short where its bytes are there.
use Prim.Native.Nat.{ℕ, ◌+◌, ◌≤◌, ◌<◌}
use mathlib.Core.Path.{◌≡◌, refl, sym}
use mathlib.Core.Bool.{Bool, true, false, ◌&&◌}
use mathlib.Core.List.{List}
use native.Mathlib.Omega.{arith}
use lib.Dec.{eqb, leb, ltb}
use lib.ListN.{length}
use borrow.Author.Tests.{ltb-true, leb-true, eqb-true, lt-ltb, le-leb}
use Rattle.numbers.specs.Bytes.{byte_at}
use Rattle.numbers.proofs.Choices.{and_both}
use Rattle.terms.specs.Reply.{is, refused, need}
use Rattle.terms.proofs.Replies.{never, need-is, need-past}
use Rattle.records.specs.Reading.{head_of}

pub record Headed (s : List ℕ) (at kind len : ℕ) : Type 0 where
  pub long : at + len ≤ length s
  pub first : byte_at s at ≡ kind

pub headed : (s : List ℕ) (at kind len : ℕ) {end : ℕ} → head_of s at kind len ≡ is end → Headed s at kind len
unfolding head_of
headed s at kind len e =
    let a = need-is _ _ _ _ e in
    let b = need-is _ _ _ _ a.1 in
    let d = need-is _ _ _ _ b.1 in
    record { long = leb-true (at + len) (length s) d.0; first = eqb-true _ _ b.0 }

-- it ends after its length
pub head-end : (s : List ℕ) (at kind len : ℕ) {end : ℕ} → head_of s at kind len ≡ is end → at + len ≡ end
unfolding head_of
head-end s at kind len e =
    let a = need-is _ _ _ _ e in
    let b = need-is _ _ _ _ a.1 in
    let d = need-is _ _ _ _ b.1 in
    cc

-- by one test: the head of a record that lies whole and has the kind is read, and no other
module _ (s : List ℕ) (at kind len : ℕ) where
  pub whole-headed : leb (at + len) (length s) && eqb (byte_at s at) kind ≡ true → Headed s at kind len
  whole-headed e =
      let t = and_both (leb (at + len) (length s)) (eqb (byte_at s at) kind) e in
      record { long = leb-true _ _ t.0; first = eqb-true _ _ t.1 }

  pub whole-head : 0 < len → leb (at + len) (length s) && eqb (byte_at s at) kind ≡ true → head_of s at kind len ≡ is (at + len)
  unfolding head_of need
  whole-head pos e =
      let t = and_both (leb (at + len) (length s)) (eqb (byte_at s at) kind) e in
      let long : at + len ≤ length s = leb-true _ _ t.0 in
      rw (lt-ltb at (length s) (omega arith), t.0, t.1)

-- a head is not cut short where its length is there
pub head-there : (s : List ℕ) (at kind len : ℕ) → 0 < len → at + len ≤ length s → (p : ℕ) → head_of s at kind len ≡ refused 1 p → ⊥
unfolding head_of need
head-there s at kind len pos long p e =
    let a : need (eqb (byte_at s at) kind) 2 at (is (at + len)) ≡ refused 1 p = rw (lt-ltb at (length s) (omega arith), le-leb (at + len) (length s) long) at e in
    never (sym (need-past (eqb (byte_at s at) kind) 2 at (is (at + len)) a (λ z. omega arith)))

-- unless it is cut short, it is the same in longer bytes, where its first byte is
pub head-longer : (s t : List ℕ) (at kind len : ℕ) → length s ≤ length t → (at < length s → byte_at t at ≡ byte_at s at)
    → ((p : ℕ) → head_of s at kind len ≡ refused 1 p → ⊥) → head_of t at kind len ≡ head_of s at kind len
unfolding head_of need
head-longer s t at kind len more b uncut = go (ltb at (length s)) (eqb (byte_at s at) kind) (leb (at + len) (length s)) refl refl refl
  where
    go : (x y z : Bool) → ltb at (length s) ≡ x → eqb (byte_at s at) kind ≡ y → leb (at + len) (length s) ≡ z → head_of t at kind len ≡ head_of s at kind len
    go false y z p q r = absurd (uncut (length s) (rw p))
    go true false z p q r =
        let l = ltb-true at (length s) p in
        rw (b l, p, q, lt-ltb at (length t) (omega arith))
    go true true false p q r = absurd (uncut (length s) (rw (p, q, r)))
    go true true true p q r =
        let l = ltb-true at (length s) p in
        let m = leb-true (at + len) (length s) r in
        rw (b l, p, q, r, lt-ltb at (length t) (omega arith), le-leb (at + len) (length t) (omega arith))
