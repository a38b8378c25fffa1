-- Which numbers a reading can be refused with, as a list: what is worked out of every number in it holds of each refusal. A new fault's number is a row here.
use Rattle.std.specs.Prelude.{Result, Ok, Err}
use Prim.Native.Nat.{ℕ}
use mathlib.Core.Path.{◌≡◌, refl, sym, ap, ◌∙◌}
use mathlib.Core.Bool.{Bool, true, false, ◌&&◌, ◌||◌, false≢true}
use mathlib.Core.List.{List, [], ◌∷◌}
use borrow.Author.Tests.{eqb-true}
use lib.Dec.{eqb}
use Rattle.numbers.proofs.Choices.{and_both}
use Rattle.terms.specs.Reply.{Reply, is, refused, need, next}
use Rattle.terms.specs.Refusals.{number_of, why_of, passed}
use Rattle.terms.specs.declared.refusal.Fault.{Fault}
use Rattle.terms.specs.declared.refusal.Fault.TheVariants as F
use Rattle.terms.proofs.Replies.{never}

-- a number is one of those listed; all those listed pass a test
abbrev pub is_of : List ℕ → ℕ → Bool
is_of [] n = false
is_of (m ∷ rest) n = eqb n m || is_of rest n

abbrev pub all_of : (ℕ → Bool) → List ℕ → Bool
all_of test [] = true
all_of test (m ∷ rest) = test m && all_of test rest

pub each : (test : ℕ → Bool) (l : List ℕ) (n : ℕ) → all_of test l ≡ true → is_of l n ≡ true → test n ≡ true
each test [] n e k = absurd (false≢true k)
each test (m ∷ rest) n e k =
    let b = and_both (test m) (all_of test rest) e in
    go (eqb n m) refl k b.0 (each test rest n b.1)
  where
    go : (t : Bool) → eqb n m ≡ t → t || is_of rest n ≡ true → test m ≡ true → (is_of rest n ≡ true → test n ≡ true) → test n ≡ true
    go true same k here further = ap test (eqb-true n m same) ∙ here
    go false other k here further = further k

-- each refusal of a reply is by one of the numbers
pub data By {A : Type 0} (l : List ℕ) : Reply A → Type 0 where
  value : (a : A) → By l (is a)
  number : (n p : ℕ) → is_of l n ≡ true → By l (refused n p)

pub by-each : {A : Type 0} {x : Reply A} (test : ℕ → Bool) (l : List ℕ) {n p : ℕ} → all_of test l ≡ true → By l x → x ≡ refused n p → test n ≡ true
by-each test l e (value a) h = never (sym h)
by-each test l {n} e (number m q k) h =
    let z : m ≡ n = cc in
    ap test (sym z) ∙ each test l m e k

pub by-more : {A : Type 0} {x : Reply A} (l m : List ℕ) → all_of (is_of m) l ≡ true → By l x → By m x
by-more l m e (value a) = value a
by-more l m e (number n p k) = number n p (each (is_of m) l n e k)

pub by-without : {A : Type 0} {x : Reply A} (m : ℕ) (l : List ℕ) → ((p : ℕ) → x ≡ refused m p → ⊥) → By (m ∷ l) x → By l x
by-without m l other (value a) = value a
by-without {A} m l other (number n p k) = go (eqb n m) refl k
  where
    go : (t : Bool) → eqb n m ≡ t → t || is_of l n ≡ true → By {A = A} l (refused n p)
    go true same k = absurd (other p (ap (λ (x : ℕ). refused x p) (eqb-true n m same)))
    go false differ k = number n p k

module _ {A : Type 0} {l : List ℕ} where
  pub by-need : {rest : Reply A} (t : Bool) (n p : ℕ) → is_of l n ≡ true → By l rest → By l (need t n p rest)
  unfolding need
  by-need true n p e h = h
  by-need false n p e h = number n p e

  -- a test that passes refuses nothing
  pub by-sure : {rest : Reply A} (t : Bool) (n p : ℕ) → t ≡ true → By l rest → By l (need t n p rest)
  unfolding need
  by-sure t n p e h = rw e h

  pub by_next : {B : Type 0} {x : Reply B} {f : B → Reply A} → By l x → ((b : B) → x ≡ is b → By l (f b)) → By l (next x f)
  unfolding next
  by_next (value b) h = h b refl
  by_next (number n p e) h = number n p e

-- ---- the faults of a unit
abbrev pub fault_numbers : List ℕ
fault_numbers = 2 ∷ 6 ∷ 7 ∷ 8 ∷ 9 ∷ 11 ∷ 18 ∷ 19 ∷ []

fault-listed : (fault : Fault) → is_of fault_numbers (number_of (why_of fault)) ≡ true
fault-listed F.Kind = refl
fault-listed F.Number = refl
fault-listed F.Class = refl
fault-listed F.Coincide = refl
fault-listed F.Nominated = refl
fault-listed F.NotNominated = refl
fault-listed F.N = refl
fault-listed F.Pc = refl
fault-listed F.StepDown = refl
fault-listed F.StepUp = refl
fault-listed F.Lower = refl
fault-listed F.Upper = refl
fault-listed F.Crossed = refl
fault-listed F.EndsCrossed = refl
fault-listed F.NotFull = refl
fault-listed F.WorkingCrossed = refl
fault-listed F.Ahead = refl
fault-listed F.Age = refl

pub by-passed : {A : Type 0} {l : List ℕ} {rest : Reply A} (place : Fault → ℕ) (checks : Result Unit Fault) → all_of (is_of l) fault_numbers ≡ true → By l rest → By l (passed place checks rest)
unfolding passed
by-passed place (Ok tt) e h = h
by-passed {l = l} place (Err fault) e h = number (number_of (why_of fault)) (place fault) (each (is_of l) fault_numbers (number_of (why_of fault)) e (fault-listed fault))
