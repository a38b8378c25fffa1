-- A block that passed its check: its columns may be judged, and what is judged, laid and summed of them is the block's result.
use Prim.Native.Nat.{ℕ, ◌≤◌, ◌<◌}
use mathlib.Core.Path.{◌≡◌, sym, ap, ◌∙◌}
use mathlib.Core.Bool.{Bool, true, false}
use mathlib.Core.List.{List}
use native.Mathlib.Decide.{dec_lt}
use native.Mathlib.Omega.{arith}
use lib.IntN.{ℤ, ◌-ℤ◌}
use lib.ListN.{length, get_or}
use mir.Syntax.{w32}
use mir.Val.{SFits, to_z, of_z}
use mir.Facts.{to_z-of_z}
use Rattle.numbers.specs.Bytes.{laid_at}
use Rattle.numbers.specs.Range.{Within}
use Rattle.numbers.specs.Column.{column}
use Rattle.numbers.specs.Sum.{sum_z, bit}
use Rattle.numbers.proofs.Columns.{column-length, column-at, column-past}
use Rattle.numbers.proofs.Laid.{laid-under}
use Rattle.terms.specs.Checks.{most_units}
use Rattle.terms.specs.declared.quantity.Direction.{Direction}
use Rattle.group.specs.Group.{Group, position, step3_all, reasons_all, reasons}
use Rattle.group.specs.Columns.{sums_by}
use Rattle.group.specs.Steps.{direction_of}
use Rattle.group.specs.Inner.{left_by, zeros, Aligned, Lost, Judged, CutOff, Explained}
use Rattle.group.specs.declared.judge.Cut.{Cut}
use Rattle.group.specs.declared.judge.Sums.{Sums}
use Rattle.group.specs.Accepted.{Accepted}
use Rattle.group.proofs.Accepting.{judged-by}
use Rattle.group.proofs.Judging as judging
use Rattle.group.proofs.Explaining.{reasons-bytes}
use Rattle.group.proofs.Ranges.{step3-length}
use Rattle.records.specs.Layouts.{group_at, group_result_length, group_result_bytes}
use Rattle.records.specs.Reading.{unit_in}
use Rattle.records.specs.Decoding.{unit_implicit, taken_in}
use Rattle.writers.specs.Results.{unit_results_bytes, result_bytes, result_length}
use Rattle.writers.proofs.Runs.{run-same}
use Rattle.writers.proofs.Lengths.{length-group-result, length-results}
use Rattle.decode.specs.Block.{block_count}
use Rattle.blocks.specs.Blocks.{group_result, group_told, unit_results, block_group, result_in, block_result}
use Rattle.decode.specs.Inner.{Passed, Decoded}
use Rattle.blocks.specs.Even.{AreEven}
use Rattle.blocks.specs.Laid.{units_laid}
use Rattle.blocks.specs.declared.columns.UnitColumns.{UnitColumns}
use Rattle.blocks.specs.Inner.{Ready, Laying}
use Rattle.blocks.proofs.Sound.{units-accepted}
use Rattle.decode.proofs.Units.{unit-there}

-- a block after step 1, with what each unit loses in step 2, and room for its result
pub record Cutting (s : List ℕ) (p : ℤ) (cut : Cut) (taken : List ℕ) (n0 x1 : List ℤ) (losses : List ℕ) (down up : List ℤ) (room : List ℕ) : Type 0 where
  pub passed : Passed s
  pub sold : p ≡ position (block_group s)
  pub marks : taken ≡ taken_in s (block_count s)
  pub starts : n0 ≡ (block_group s).n0
  pub downs : down ≡ (block_group s).step_down
  pub ups : up ≡ (block_group s).step_up
  pub off : CutOff (position (block_group s)) (block_group s).n0 (block_group s).step_down (block_group s).step_up (block_group s).class cut x1 losses
  pub enough : result_length (block_count s) ≤ length room

bit-small : (n : ℕ) (f : ℕ → Bool) (i : ℕ) → get_or (column n (λ k. bit (f k))) i 0 ≤ 1
bit-small n f i = go (dec_lt i n)
  where
    small : (b : Bool) → bit b ≤ 1
    small true = omega arith
    small false = omega arith

    go : Dec (i < n) → get_or (column n (λ k. bit (f k))) i 0 ≤ 1
    go (yes l) = rw (column-at (λ k. bit (f k)) n i 0 l) (small (f i))
    go (no l) = rw (column-past (λ k. bit (f k)) n i 0 (omega arith)) (omega arith)

module _ {s : List ℕ} (b : Passed s) where
  abbrev g : Group
  g = block_group s

  abbrev count : ℕ
  count = block_count s

  accepted : Accepted g
  accepted = units-accepted s b.day count b.long b.few b.units

  pub units-count : length g.n0 ≡ count
  units-count = column-length _ count

  judged : Judged (position g) g.n0 g.step_down g.step_up g.class
  judged = judged-by g accepted

-- the columns that were read may go through step 1, and what that leaves through steps 2 and 3
module _ {s : List ℕ} {p : ℤ} {class taken : List ℕ} {n0 first : List ℤ} {losses₀ : List ℕ} {down up : List ℤ} {room : List ℕ} (r : Ready s p class taken n0 first losses₀ down up room) where
  d : Decoded s p class taken n0 down up
  d = r.decoded

  pub may-judge : Judged p n0 down up class
  may-judge = rw (d.sold, d.starts, d.downs, d.ups, d.classes) (judged r.passed)

  pub may-cut : (length first ≡ length n0) × (losses₀ ≡ zeros (length n0))
  may-cut =
      let n = sym (ap length d.starts ∙ units-count r.passed) in
      (r.firsts ∙ n, r.nothing ∙ ap zeros n)

  pub cutting : {cut : Cut} {x1 : List ℤ} {losses : List ℕ} → CutOff p n0 down up class cut x1 losses → Cutting s p cut taken n0 x1 losses down up room
  cutting k =
      record {
        passed = r.passed;
        sold = d.sold;
        marks = d.marks;
        starts = d.starts;
        downs = d.downs;
        ups = d.ups;
        off = rw (d.sold, d.starts, d.downs, d.ups, d.classes) at k;
        enough = r.enough;
      }

module _ {s : List ℕ} {p : ℤ} {cut : Cut} {taken : List ℕ} {n0 x1 : List ℤ} {losses : List ℕ} {down up : List ℤ} {room : List ℕ} (w : Cutting s p cut taken n0 x1 losses down up room) where
  abbrev h : Judged (position (block_group s)) (block_group s).n0 (block_group s).step_down (block_group s).step_up (block_group s).class
  h = judged w.passed

  e-fits : SFits w32 cut.e
  e-fits = judging.e-fits h w.off

  pub left-is : {d : Direction} → d ≡ direction_of (to_z w32 (of_z w32 cut.e)) → left_by d x1 losses ≡ left_by (direction_of cut.e) x1 losses
  left-is f = rw (f, to_z-of_z e-fits)

  pub losing : Lost x1 losses
  losing = judging.cut-lost h w.off

  pub start-count : length n0 ≡ block_count s
  start-count = ap length w.starts ∙ units-count w.passed

  few : length n0 ≤ most_units
  few = omega (arith, start-count, w.passed.few)

  first_count : length x1 ≡ block_count s
  first_count = ap length w.off.clamped ∙ judging.n1-length h ∙ units-count w.passed

  pub laying : Laying s (length n0) room
  laying = record { there = λ i l. unit-there w.passed i (omega (arith, start-count)); enough = rw start-count w.enough }

  -- what step 2 leaves goes through step 3
  module _ {x2 : List ℤ} (second : x2 ≡ left_by (direction_of cut.e) x1 losses) where
    second-count : length x2 ≡ block_count s
    second-count = ap length (judging.n2-is h w.off second) ∙ judging.n2-length h ∙ units-count w.passed

    pub aligned : Aligned x2 down up down
    aligned = judging.cut-aligned h w.off second w.downs w.ups

    pub explained : Explained taken n0 x1 x2 down up
    explained =
        let n = sym start-count in
        record {
          firsts = first_count ∙ n;
          seconds = second-count ∙ n;
          downs = ap length w.downs ∙ column-length _ (block_count s) ∙ n;
          ups = ap length w.ups ∙ column-length _ (block_count s) ∙ n;
          places = ap length w.marks ∙ column-length _ (block_count s) ∙ n;
          told = rw w.marks (bit-small (block_count s) (λ k. unit_implicit (unit_in s k)));
        }

    module _ {s3 : ℤ} {x3 : List ℤ} (third : s3 ≡ sum_z (step3_all x2 down up)) (stretched : x3 ≡ step3_all x2 down up) where
      third-sum : s3 ≡ sum_z (step3_all x2 (block_group s).step_down (block_group s).step_up)
      third-sum = third ∙ rw (w.downs, w.ups)

      third-count : length x3 ≡ block_count s
      third-count = ap length stretched ∙ step3-length x2 down up ∙ second-count

      pub summable : Within 64000000 p × (Within 64000000 cut.s1 × (Within 128000000 cut.e × Within 64000000 s3))
      summable = rw w.sold (judging.cut-summed h w.off second third-sum)

      module _ {why : List ℕ} (reasoned : why ≡ reasons_all taken n0 x1 x2 x3 down up) where
        why-count : length why ≡ length n0
        unfolding reasons_all
        why-count = ap length reasoned ∙ column-length _ (length n0)

        pub even : AreEven why n0 x1 x2 x3
        even =
            let n = sym start-count in
            record {
              few = few;
              whys = why-count;
              firsts = first_count ∙ n;
              seconds = second-count ∙ n;
              thirds = third-count ∙ n;
              byte = rw reasoned (reasons-bytes taken explained.told n0 x1 x2 x3 down up);
            }

        module _ {sums : Sums} (replied : sums ≡ sums_by p cut.band cut.s1 cut.e (cut.s1 -ℤ cut.e) s3) where
          told : judging.Told (block_group s) sums x1 x2 x3
          told = judging.told (block_group s) (judging.cut-written h w.off second third-sum (stretched ∙ rw (w.downs, w.ups)) (replied ∙ rw w.sold))

          why-is : why ≡ reasons (taken_in s (block_count s)) (block_group s)
          why-is = reasoned ∙ rw (w.marks, w.starts, w.downs, w.ups, told.clamped, told.cut, told.stretched)

          module _ (c : UnitColumns) (of : (c.why.now ≡ why) × (c.n0.now ≡ n0) × (c.n1.now ≡ x1) × (c.n2.now ≡ x2) × (c.n3.now ≡ x3)) where
            laid-results : units_laid s c ≡ unit_results_bytes (unit_results s (block_count s)) (block_count s)
            unfolding units_laid unit_results_bytes
            laid-results =
                rw (of.0, of.1, of.2, of.3, of.4, start-count)
                (run-same _ _ (block_count s) (λ i l. rw (why-is, w.starts, told.clamped, told.cut, told.stretched, column-at (λ (k : ℕ). (unit_in s k).number) (block_count s) i 0 l)))

            pub written : {one two : List ℕ} → one ≡ laid_at room group_result_length (units_laid s c)
                → two ≡ laid_at one 0 (group_result_bytes (group_result (group_at s 0) sums)) → two ≡ laid_at room 0 (block_result s)
            unfolding result_in result_bytes group_result
            written e f =
                let u = unit_results s (block_count s) in
                let x = group_told s in
                laid-under room group_result_length (unit_results_bytes u (block_count s)) 0 (group_result_bytes x) (e ∙ rw laid-results) (f ∙ rw told.replied) (omega (arith, length-group-result x))
                (omega (arith, length-group-result x, length-results u (block_count s), w.enough))
