-- A group that is not refused stays within its ranges through all three steps, and what it leaves is the definition's.
use Prim.Native.Nat.{ℕ, ◌≤◌}
use mathlib.Core.Path.{◌≡◌, refl, sym, ap, ◌∙◌}
use mathlib.Core.List.{List}
use native.Mathlib.Omega.{arith}
use lib.IntN.{ℤ, ◌-ℤ◌}
use lib.ListN.{length, get_or}
use mir.Syntax.{w32}
use mir.Val.{SFits}
use Rattle.numbers.specs.Range.{Within}
use Rattle.numbers.specs.Column.{AllWithin}
use Rattle.numbers.specs.Sum.{sum_z}
use Rattle.numbers.proofs.Integers.{zarith}
use Rattle.numbers.proofs.Sums.{sum64-within}
use Rattle.group.specs.Steps.{band_of, excess_of, direction_of}
use Rattle.group.specs.Group.{Group, position, step1_all, step2_all, step3_all, n1, n2, n3}
use Rattle.group.specs.Columns.{sums_of, sums_by}
use Rattle.group.specs.Inner.{left_by, Aligned, Classed, Bearable, Lost, Judged, CutOff, Written, Explained}
use Rattle.group.specs.declared.band.Band.{Band}
use Rattle.group.specs.declared.judge.Cut.{Cut}
use Rattle.group.specs.declared.judge.Sums.{Sums}
use Rattle.group.proofs.Bearing.{excess-toward, bearable}
use Rattle.group.proofs.Landing.{sum_less}
use Rattle.group.proofs.Losses.{left_is, lost}
use Rattle.group.proofs.Ranges.{step1-length, step2-length, step3-length, step1-small, step2-small, step3-small}

sums_same : {p q : ℤ} {b d : Band} {s1 t1 e f s2 t2 s3 t3 : ℤ}
    → p ≡ q → b ≡ d → s1 ≡ t1 → e ≡ f → s2 ≡ t2 → s3 ≡ t3 → sums_by p b s1 e s2 s3 ≡ sums_by q d t1 f t2 t3
sums_same h i j k l m = cc

module _ {p : ℤ} {n0 step_down step_up : List ℤ} {class : List ℕ} (h : Judged p n0 step_down step_up class) where
  abbrev x1 : List ℤ
  x1 = step1_all n0 step_down step_up

  abbrev e : ℤ
  e = excess_of (band_of p) (sum_z x1)

  abbrev x2 : List ℤ
  x2 = step2_all e x1 class

  abbrev x3 : List ℤ
  x3 = step3_all x2 step_down step_up

  pub n1-length : length x1 ≡ length n0
  n1-length = step1-length n0 step_down step_up

  pub n1-classed : Classed x1 class
  n1-classed =
      record {
        few = omega (arith, n1-length, h.few);
        small = step1-small n0 step_down step_up h.n0-small h.down-small h.up_small;
        classes = omega (arith, n1-length, h.classes);
        known = h.known;
      }

  pub n1-bearable : Bearable e x1 class
  n1-bearable = record { classed = n1-classed; borne = bearable p x1 class n1-classed }

  pub n2-length : length x2 ≡ length n0
  n2-length = step2-length e x1 class ∙ n1-length

  pub n2-few : length x2 ≤ 64
  n2-few = omega (arith, n2-length, h.few)

  pub n2-small : AllWithin 1000000 x2
  n2-small = step2-small e x1 class n1-classed n1-bearable.borne

  pub n3-few : length x3 ≤ 64
  n3-few = omega (arith, step3-length x2 step_down step_up, n2-few)

  pub n3-small : AllWithin 1000000 x3
  n3-small = step3-small x2 step_down step_up n2-small h.down-small h.up_small

  pub s1-within : Within 64000000 (sum_z x1)
  s1-within = sum64-within x1 n1-classed.few n1-classed.small

  pub s3-within : Within 64000000 (sum_z x3)
  s3-within = sum64-within x3 n3-few n3-small

  -- the excess is no larger than S1
  pub e-within : Within 64000000 e
  e-within = omega (zarith, excess-toward p (sum_z x1), s1-within)

  -- what step 1 leaves of it goes on to step 2, and what that leaves to step 3 and to the sums
  module _ {cut : Cut} {y1 : List ℤ} {losses : List ℕ} (k : CutOff p n0 step_down step_up class cut y1 losses) where
    s1-is : cut.s1 ≡ sum_z x1
    s1-is = k.sum ∙ ap sum_z k.clamped

    e-is : cut.e ≡ e
    e-is = k.excess ∙ rw k.clamped

    pub e-fits : SFits w32 cut.e
    e-fits = rw e-is (omega (zarith, e-within))

    pub cut-lost : Lost y1 losses
    cut-lost = rw (k.lost, k.clamped) (lost e x1 class n1-bearable)

    pub n2-is : {y2 : List ℤ} → y2 ≡ left_by (direction_of cut.e) y1 losses → y2 ≡ x2
    n2-is second = second ∙ rw (e-is, k.lost, k.clamped) (left_is e x1 class)

    module _ {y2 : List ℤ} (second : y2 ≡ left_by (direction_of cut.e) y1 losses) where
      -- step 2 takes what the excess is
      s2-is : sum_z y2 ≡ cut.s1 -ℤ cut.e
      s2-is = rw (n2-is second, s1-is, e-is) (sum_less e x1 class n1-bearable.borne n1-classed)

      pub cut-aligned : {down up : List ℤ} → down ≡ step_down → up ≡ step_up → Aligned y2 down up down
      cut-aligned d u =
          let m = sym n2-length in
          rw (n2-is second, d, u)
          (record { few = n2-few; down = h.downs ∙ m; up = h.ups ∙ m; places = h.downs ∙ m; small = n2-small; down-small = h.down-small; up_small = h.up_small })

      pub cut-explained : {taken : List ℕ} {down up : List ℤ} → down ≡ step_down → up ≡ step_up → length taken ≡ length n0 → ((i : ℕ) → get_or taken i 0 ≤ 1)
          → Explained taken n0 y1 y2 down up
      cut-explained d u l told =
          record {
            firsts = ap length k.clamped ∙ n1-length;
            seconds = ap length (n2-is second) ∙ n2-length;
            downs = ap length d ∙ h.downs;
            ups = ap length u ∙ h.ups;
            places = l;
            told = told;
          }

      module _ {s3 : ℤ} (third : s3 ≡ sum_z (step3_all y2 step_down step_up)) where
        s3-is : s3 ≡ sum_z x3
        s3-is = third ∙ rw (n2-is second)

        pub cut-summed : Within 64000000 p × (Within 64000000 cut.s1 × (Within 128000000 cut.e × Within 64000000 s3))
        cut-summed = rw (s1-is, e-is, s3-is) (h.position-small, (s1-within, (omega (zarith, e-within), s3-within)))

        pub cut-written : {sums : Sums} {y3 : List ℤ} → y3 ≡ step3_all y2 step_down step_up
            → sums ≡ sums_by p cut.band cut.s1 cut.e (cut.s1 -ℤ cut.e) s3 → Written p n0 step_down step_up class sums y1 y2 y3
        cut-written y r =
            record {
              clamped = k.clamped;
              cut = n2-is second ∙ rw k.clamped;
              stretched = y;
              replied = r ∙ sums_same refl k.band k.sum k.excess (sym s2-is) (third ∙ ap sum_z (sym y));
            }

-- what an accepted group leaves, as the definition of a group has it
pub record Told (g : Group) (sums : Sums) (x1 x2 x3 : List ℤ) : Type 0 where
  pub replied : sums ≡ sums_of g
  pub clamped : x1 ≡ n1 g
  pub cut : x2 ≡ n2 g
  pub stretched : x3 ≡ n3 g

pub told : (g : Group) {sums : Sums} {x1 x2 x3 : List ℤ} → Written (position g) g.n0 g.step_down g.step_up g.class sums x1 x2 x3 → Told g sums x1 x2 x3
told g w =
    record {
      replied = rw (w.replied, w.stretched, w.cut, w.clamped);
      clamped = w.clamped;
      cut = rw (w.cut, w.clamped);
      stretched = rw (w.stretched, w.cut, w.clamped);
    }
