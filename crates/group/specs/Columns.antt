-- "Ways in": a group as columns, and what comes back.
use Rattle.std.specs.Prelude.{ℕ, ◌≡◌, Bool, List, [], ◌∷◌, eqb, ℤ, length, get_or, Result}
use Rattle.std.specs.List.{list_all}
use Rattle.numbers.specs.Column.{at}
use Rattle.numbers.specs.Sum.{sum_z}
use Rattle.terms.specs.Reply.{Reply, is, refused, need, next}
use Rattle.terms.specs.Refusals.{check, first_fault}
use Rattle.terms.specs.Checks.{is_flag, unit_count, amount_checks}
use Rattle.terms.specs.declared.quantity.Margins.{Margins}
use Rattle.terms.specs.declared.refusal.Fault.TheVariants as F
use Rattle.terms.specs.declared.refusal.Refusal.{Refusal}
use Rattle.group.specs.Steps as rule
use Rattle.group.specs.Group.{Group, units, margins_at, position, band, excess, n1, n2, n3}
use Rattle.group.specs.declared.band.Band.{Band}
use Rattle.group.specs.declared.judge.Sums.{Sums}
use Rattle.terms.specs.declared.refusal.Fault.{Fault}

-- five columns as a group
abbrev pub as_group : List ℤ → List ℤ → List ℤ → List ℤ → List ℕ → Group
as_group n0 pc step_down step_up class = record { n0 = n0; pc = pc; step_down = step_down; step_up = step_up; class = class }

-- 7 for a class other than 0 and 1, 8, 9
unfoldable pub unit_check : ℕ → ℤ → ℤ → Margins → Result Unit Fault
unit_check class n0 pc m = check (is_flag class) F.Class (amount_checks n0 pc m)

unfoldable pub unit_checks : Group → ℕ → Result Unit Fault
unit_checks g i = unit_check (get_or g.class i 0) (at g.n0 i) (at g.pc i) (margins_at g.step_down g.step_up i)

-- whether so many lengths are all the same
unfoldable pub lengths : ℕ → List ℕ → Bool
lengths n others = list_all (λ len. eqb len n) others

-- all eight columns are of one length
abbrev pub one_length : Group → List ℤ → List ℤ → List ℤ → Bool
one_length g first second third =
    lengths (units g) (length g.pc ∷ length g.step_down ∷ length g.step_up ∷ length g.class ∷ length first ∷ length second ∷ length third ∷ [])

-- verdict, P, S1, S2, S3 and balance of an accepted group
unfoldable pub sums_by : ℤ → Band → ℤ → ℤ → ℤ → ℤ → Sums
sums_by p b s1 e s2 s3 =
    record {
      verdict = rule.verdict_of b e s3;
      p = record { 0 = p };
      s1 = record { 0 = s1 };
      s2 = record { 0 = s2 };
      s3 = record { 0 = s3 };
      balance = record { 0 = rule.balance_of p s3 };
    }

abbrev pub sums_of : Group → Sums
sums_of g = sums_by (position g) (band g) (sum_z (n1 g)) (excess g) (sum_z (n2 g)) (sum_z (n3 g))

-- the reply: 15, 5, per unit 7, 8, 9
unfoldable pub judge_of : Group → List ℤ → List ℤ → List ℤ → Reply Sums
judge_of g first second third =
    need (one_length g first second third) 15 0
    (need (unit_count (units g)) 5 0
    (next (first_fault (unit_checks g) 0 (units g)) λ _.
    is (sums_of g)))

-- a lent column after a call: what an accepted call writes, and the column as it was after a refusal
unfoldable pub after : {A : Type 0} → Reply A → List ℤ → List ℤ → List ℤ
after (is _) written entry = written
after (refused number place) written entry = entry

-- the reply and the three written columns are the right ones
pub record Judges (g : Group) (first second third : List ℤ) (reply : Reply Sums) (x1 x2 x3 : List ℤ) : Type 0 where
  pub replied : reply ≡ judge_of g first second third
  pub clamped : x1 ≡ after (judge_of g first second third) (n1 g) first
  pub cut : x2 ≡ after (judge_of g first second third) (n2 g) second
  pub stretched : x3 ≡ after (judge_of g first second third) (n3 g) third

-- two outcomes of one call
pub record SameOutcome (r q : Result Sums Refusal) (x1 y1 x2 y2 x3 y3 : List ℤ) : Type 0 where
  pub reply : r ≡ q
  pub first : x1 ≡ y1
  pub second : x2 ≡ y2
  pub third : x3 ≡ y3
