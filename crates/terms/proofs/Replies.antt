-- What a reading that was not refused has passed, and one that was, by cases on its tests.
use Prim.Native.Nat.{ℕ}
use mathlib.Core.Path.{◌≡◌, refl}
use mathlib.Core.Bool.{Bool, true, false}
use native.Mathlib.Omega.{arith}
use Rattle.terms.specs.Reply.{Reply, is, refused, need, next}

pub never : {A : Type 0} {P : Type 0} {n p : ℕ} {a : A} → ◌≡◌ {A = Reply A} (refused n p) (is a) → P
never e =
    let z : ◌≡◌ {A = ℕ} 0 1 = cc in
    absurd (omega arith)

pub need-is : {A : Type 0} (t : Bool) (n p : ℕ) (rest : Reply A) {a : A} → need t n p rest ≡ is a → (t ≡ true) × (rest ≡ is a)
unfolding need
need-is true n p rest e = (refl, e)
need-is false n p rest e = never e

-- a refusal by another number than a test's came after it
pub need-past : {A : Type 0} (t : Bool) (m q : ℕ) (rest : Reply A) {n p : ℕ} → need t m q rest ≡ refused n p → (n ≡ m → ⊥) → rest ≡ refused n p
unfolding need
need-past true m q rest e h = e
need-past false m q rest {n} {p} e h =
    let z : n ≡ m = cc in
    absurd (h z)

pub next-is : {A B : Type 0} (x : Reply A) (rest : A → Reply B) {b : B} → next x rest ≡ is b → (a : A) × ((x ≡ is a) × (rest a ≡ is b))
unfolding next
next-is (is a) rest e = (a, (refl, e))
next-is (refused n p) rest e = never e

pub next-need : {A B : Type 0} (t : Bool) (n p : ℕ) (x : Reply A) (rest : A → Reply B) → next (need t n p x) rest ≡ need t n p (next x rest)
unfolding next need
next-need true n p x rest = refl
next-need false n p x rest = refl

-- a refusal came of the reading in front, or of what comes after it
pub data From {A B : Type 0} (x : Reply A) (rest : A → Reply B) (n p : ℕ) : Type 0 where
  front : x ≡ refused n p → From x rest n p
  after : (a : A) → x ≡ is a → rest a ≡ refused n p → From x rest n p

pub next-from : {A B : Type 0} (x : Reply A) (rest : A → Reply B) {n p : ℕ} → next x rest ≡ refused n p → From x rest n p
unfolding next
next-from (is a) rest e = after a refl e
next-from (refused m q) rest {n} {p} e =
    let z : m ≡ n = cc in
    let y : q ≡ p = cc in
    front (rw (z, y))

pub from_either : {A B P : Type 0} {x : Reply A} {rest : A → Reply B} {n p : ℕ} → From x rest n p → (x ≡ refused n p → P) → ((a : A) → x ≡ is a → rest a ≡ refused n p → P) → P
from_either (front h) f g = f h
from_either (after a h k) f g = g a h k
