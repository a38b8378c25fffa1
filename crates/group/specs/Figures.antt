-- "Small figures": the starred ones, and those of 02, as one table, and the test that a row of it comes out of the steps.
use Rattle.std.specs.Prelude.{ℕ, Bool, true, false, ◌&&◌, List, [], ◌∷◌, map, eqb, ℤ, pos, neg_ℤ}
use Rattle.numbers.specs.Choice.{eq_z}
use Rattle.numbers.specs.Sum.{bit}
use Rattle.terms.specs.Reply.{Reply, is, refused}
use Rattle.terms.specs.Quantities.{implicit, considered_of}
use Rattle.group.specs.Group.{Group, n1, n2, n3, reasons}
use Rattle.group.specs.Columns.{judge_of}
use Rattle.group.specs.declared.judge.Sums.{Sums}

abbrev pub neg : ℕ → ℤ
neg n = neg_ℤ (pos n)

-- what the steps read of a unit
pub record Fields : Type 0 where
  pub class : ℕ
  pub coincide : ℕ
  pub nominated : ℕ
  pub n : ℤ
  pub pc : ℤ
  pub step_down : ℤ
  pub step_up : ℤ

-- a nominated unit by class, N, PC, M- and M+; one of class 0 with wide margins by N and PC; one that is not nominated by class, coincide and PC
abbrev pub nominated : ℕ → ℤ → ℤ → ℤ → ℤ → Fields
nominated class n pc step_down step_up = record { class = class; coincide = 0; nominated = 1; n = n; pc = pc; step_down = step_down; step_up = step_up }

abbrev pub plain : ℤ → ℤ → Fields
plain n pc = nominated 0 n pc (neg 1000000) (pos 1000000)

abbrev pub not_nominated : ℕ → ℕ → ℤ → Fields
not_nominated class coincide pc =
    record { class = class; coincide = coincide; nominated = 0; n = pos 0; pc = pc; step_down = neg 1000000; step_up = pos 1000000 }

-- a value that a figure gives; a figure says nothing of the others
pub data Told : Type 0 where
  n0s : List ℤ → Told
  n1s : List ℤ → Told
  n2s : List ℤ → Told
  n3s : List ℤ → Told
  whys : List ℕ → Told
  verdict : ℕ → Told
  p : ℤ → Told
  s1 : ℤ → Told
  s2 : ℤ → Told
  s3 : ℤ → Told
  balance : ℤ → Told

pub data Figure : Type 0 where
  row : List Fields → List Told → Figure

-- where margins are wide n3 is n2
abbrev pub leaves : List ℤ → List Told
leaves v = n2s v ∷ n3s v ∷ []

-- where a figure tells P and not each PC, the first unit's PC is P
unfoldable pub figures : List Figure
figures =
    -- 5, 5; P -9: 4, 5.
    row (plain (pos 5) (neg 9) ∷ plain (pos 5) (pos 0) ∷ []) (leaves (pos 4 ∷ pos 5 ∷ []))
    -- 1, 1, 1; P -2: 0, 1, 1.
    ∷ row (plain (pos 1) (neg 2) ∷ plain (pos 1) (pos 0) ∷ plain (pos 1) (pos 0) ∷ []) (leaves (pos 0 ∷ pos 1 ∷ pos 1 ∷ []))
    -- 3, -5; P 0: 3, -3.
    ∷ row (plain (pos 3) (pos 0) ∷ plain (neg 5) (pos 0) ∷ []) (leaves (pos 3 ∷ neg 3 ∷ []))
    -- 4, -9; P -10: 4, -4, balance 10.
    ∷ row (plain (pos 4) (neg 10) ∷ plain (neg 9) (pos 0) ∷ []) (balance (pos 10) ∷ leaves (pos 4 ∷ neg 4 ∷ []))
    -- 6 class 0, 10 class 1; P -7: 0, 7.
    ∷ row (plain (pos 6) (neg 7) ∷ nominated 1 (pos 10) (pos 0) (neg 1000000) (pos 1000000) ∷ []) (leaves (pos 0 ∷ pos 7 ∷ []))
    -- 10, M- -80, M+ -50; P 40: n1 -50, n2 -40, n3 -50, balance 10, verdict 6, reason 14.
    ∷ row (nominated 0 (pos 10) (pos 40) (neg 80) (neg 50) ∷ [])
    (n1s (neg 50 ∷ []) ∷ n2s (neg 40 ∷ []) ∷ n3s (neg 50 ∷ []) ∷ balance (pos 10) ∷ verdict 6 ∷ whys (14 ∷ []) ∷ [])
    -- The same with P 0: n3 0, reason 22.
    ∷ row (nominated 0 (pos 10) (pos 0) (neg 80) (neg 50) ∷ []) (n3s (pos 0 ∷ []) ∷ whys (22 ∷ []) ∷ [])
    -- Not nominated, PC -500, as 02, §4 has it, and reason 1 where n0 is 500: with coincide 1, of class 0
    ∷ row (not_nominated 0 1 (neg 500) ∷ []) (n0s (pos 500 ∷ []) ∷ whys (1 ∷ []) ∷ [])
    -- and of class 1;
    ∷ row (not_nominated 1 1 (neg 500) ∷ []) (n0s (pos 500 ∷ []) ∷ whys (1 ∷ []) ∷ [])
    -- 0 with coincide 0, of class 1;
    ∷ row (not_nominated 1 0 (neg 500) ∷ []) (n0s (pos 0 ∷ []) ∷ whys (0 ∷ []) ∷ [])
    -- class 0 gives 500 there.
    ∷ row (not_nominated 0 0 (neg 500) ∷ []) (n0s (pos 500 ∷ []) ∷ whys (1 ∷ []) ∷ [])
    -- The day list's three units.
    ∷ row
    (nominated 0 (pos 5000) (neg 4000) (pos 0) (pos 4500)
    ∷ nominated 0 (pos 3000) (neg 2000) (pos 2400) (pos 6000)
    ∷ nominated 1 (pos 9000) (neg 7999) (pos 7000) (pos 9500)
    ∷ [])
    (verdict 5
    ∷ p (neg 13999)
    ∷ s1 (pos 16500)
    ∷ s2 (pos 13999)
    ∷ s3 (pos 14399)
    ∷ balance (neg 400)
    ∷ whys (6 ∷ 12 ∷ 0 ∷ [])
    ∷ n0s (pos 5000 ∷ pos 3000 ∷ pos 9000 ∷ [])
    ∷ n1s (pos 4500 ∷ pos 3000 ∷ pos 9000 ∷ [])
    ∷ n2s (pos 2999 ∷ pos 2000 ∷ pos 9000 ∷ [])
    ∷ n3s (pos 2999 ∷ pos 2400 ∷ pos 9000 ∷ [])
    ∷ [])
    -- Of equal remainders, as 02, §6 has it: 1, 3; P -2: 1, 1.
    ∷ row (plain (pos 1) (neg 2) ∷ plain (pos 3) (pos 0) ∷ []) (leaves (pos 1 ∷ pos 1 ∷ []))
    -- 3, 1; P -2: 1, 1.
    ∷ row (plain (pos 3) (neg 2) ∷ plain (pos 1) (pos 0) ∷ []) (leaves (pos 1 ∷ pos 1 ∷ []))
    -- -1, -3; P 2: -1, -1.
    ∷ row (plain (neg 1) (pos 2) ∷ plain (neg 3) (pos 0) ∷ []) (leaves (neg 1 ∷ neg 1 ∷ []))
    -- 1, 3, 5, 7; P -8: 1, 2, 2, 3.
    ∷ row (plain (pos 1) (neg 8) ∷ plain (pos 3) (pos 0) ∷ plain (pos 5) (pos 0) ∷ plain (pos 7) (pos 0) ∷ []) (leaves (pos 1 ∷ pos 2 ∷ pos 2 ∷ pos 3 ∷ []))
    ∷ []

-- the columns of some units
unfoldable pub group_of : List Fields → Group
group_of us =
    record {
      n0 = map (λ (u : Fields). considered_of u.class u.nominated u.coincide u.n u.pc) us;
      pc = map (λ (u : Fields). u.pc) us;
      step_down = map (λ (u : Fields). u.step_down) us;
      step_up = map (λ (u : Fields). u.step_up) us;
      class = map (λ (u : Fields). u.class) us;
    }

unfoldable pub reasons_of : List Fields → List ℕ
reasons_of us = reasons (map (λ (u : Fields). bit (implicit u.class u.nominated u.coincide)) us) (group_of us)

-- tests over lists
unfoldable pub same : {A : Type 0} → (A → A → Bool) → List A → List A → Bool
same test [] [] = true
same test [] (y ∷ ys) = false
same test (x ∷ xs) [] = false
same test (x ∷ xs) (y ∷ ys) = test x y && same test xs ys

unfoldable pub every : {A : Type 0} → (A → Bool) → List A → Bool
every test [] = true
every test (x ∷ xs) = test x && every test xs

-- a told value is that of the steps, or of the reply's sums
unfoldable pub is_so : List Fields → Sums → Told → Bool
is_so us sums (n0s v) = same eq_z (group_of us).n0 v
is_so us sums (n1s v) = same eq_z (n1 (group_of us)) v
is_so us sums (n2s v) = same eq_z (n2 (group_of us)) v
is_so us sums (n3s v) = same eq_z (n3 (group_of us)) v
is_so us sums (whys v) = same eqb (reasons_of us) v
is_so us sums (verdict v) = eqb sums.verdict v
is_so us sums (p v) = eq_z sums.p.0 v
is_so us sums (s1 v) = eq_z sums.s1.0 v
is_so us sums (s2 v) = eq_z sums.s2.0 v
is_so us sums (s3 v) = eq_z sums.s3.0 v
is_so us sums (balance v) = eq_z sums.balance.0 v

-- a row's units are accepted, and all that it tells is so
unfoldable pub replied : Reply Sums → (Sums → Bool) → Bool
replied (is sums) test = test sums
replied (refused number place) test = false

unfoldable pub holds : Figure → Bool
holds (row us told) =
    let n0 = (group_of us).n0 in
    replied (judge_of (group_of us) n0 n0 n0) (λ sums. every (is_so us sums) told)
