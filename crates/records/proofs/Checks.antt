-- What one check of a unit says of all of them, and all of them of each: by cases on its test.
use Rattle.std.specs.Prelude.{Result, Ok, Err}
use Prim.Native.Nat.{ℕ}
use mathlib.Core.Path.{◌≡◌, refl}
use mathlib.Core.Bool.{Bool, true, false}
use native.Mathlib.Omega.{arith}
use Rattle.terms.specs.Refusals.{check}
use Rattle.terms.specs.declared.refusal.Fault.{Fault}
use Rattle.records.specs.declared.unit.UnitRecord.{UnitRecord}
use Rattle.records.specs.Reading.{also, order_faults}
use Rattle.records.specs.Inner.{pair_faults, working_faults}

module _ (t : Bool) (fault : Fault) (rest : Result Unit Fault) where
  -- past a test that passed, what is left is the rest
  pub check-past : {x : Result Unit Fault} → t ≡ true → x ≡ rest → x ≡ check t fault rest
  unfolding check
  check-past h e = rw h e

-- a run of checks is its first one or two, and then the others
pub check-also : (t : Bool) (f : Fault) (rest : Result Unit Fault) → check t f rest ≡ also (check t f (Ok tt)) rest
unfolding check also
check-also true f rest = refl
check-also false f rest = refl

pub two-also : (t u : Bool) (f g : Fault) (rest : Result Unit Fault) → check t f (check u g rest) ≡ also (check t f (check u g (Ok tt))) rest
unfolding check also
two-also true u f g rest = check-also u g rest
two-also false u f g rest = refl

pub order_parts : (u : UnitRecord) → order_faults u ≡ also (pair_faults u) (working_faults u)
unfolding order_faults pair_faults working_faults
order_parts u = two-also _ _ _ _ _

-- both of two runs of checks passed
pub also-fine : (first rest : Result Unit Fault) → also first rest ≡ Ok tt → (first ≡ Ok tt) × (rest ≡ Ok tt)
unfolding also
also-fine (Ok tt) rest e = (refl, e)
also-fine (Err fault) rest e =
    let z : ◌≡◌ {A = ℕ} 0 1 = cc in
    absurd (omega arith)

-- each fault that some checks can tell is of a sort
abbrev pub Only : (Fault → Type 0) → Result Unit Fault → Type 0
Only P c = (fault : Fault) → c ≡ Err fault → P fault

module _ (P : Fault → Type 0) where
  pub only-fine : Only P (Ok tt)
  only-fine fault e =
      let z : ◌≡◌ {A = ℕ} 0 1 = cc in
      absurd (omega arith)

  pub only-check : (t : Bool) (fault : Fault) (rest : Result Unit Fault) → P fault → Only P rest → Only P (check t fault rest)
  unfolding check
  only-check true fault rest here h another e = h another e
  only-check false fault rest here h another e =
      let z : fault ≡ another = cc in
      rw z at here

  -- a test that holds tells no fault
  pub only-sure : (t : Bool) (fault : Fault) (rest : Result Unit Fault) → t ≡ true → Only P rest → Only P (check t fault rest)
  unfolding check
  only-sure t fault rest e h = rw e h

  pub only-also : (c rest : Result Unit Fault) → Only P c → Only P rest → Only P (also c rest)
  unfolding also
  only-also (Ok tt) rest h k = k
  only-also (Err fault) rest h k = h
