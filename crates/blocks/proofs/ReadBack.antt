-- The result of a block that was accepted, read by the layouts, gives the values of its group: each fits its field.
use Prim.Native.Nat.{ℕ, ◌<◌}
use mathlib.Core.Path.{◌≡◌, ◌∙◌}
use mathlib.Core.List.{List, ◌++◌}
use native.Mathlib.Omega.{arith}
use lib.IntN.{ℤ, pos, neg_ℤ}
use lib.ListN.{length, get_or}
use Rattle.numbers.specs.Column.{at}
use Rattle.numbers.specs.Sum.{sum_z, bit}
use Rattle.numbers.proofs.Integers.{zarith, neg, minus}
use Rattle.numbers.proofs.Columns.{column-length, column-at}
use Rattle.numbers.proofs.Sums.{sum64-within}
use Rattle.group.specs.Steps.{reason_of}
use Rattle.group.specs.Group.{Group, margins_at, position, n1, n2, n3, reasons_all}
use Rattle.group.specs.Columns.{sums_of, sums_by}
use Rattle.group.specs.Inner.{Judged}
use Rattle.group.specs.Accepted.{Accepted}
use Rattle.group.proofs.Accepting.{judged-by}
use Rattle.group.proofs.Judging.{n1-classed, n2-small, n3-small, n2-few, s1-within, s3-within}
use Rattle.records.specs.declared.group.GroupRecord.{GroupRecord}
use Rattle.records.specs.Layouts.{group_at, group_result_at, unit_result_at, margins_of}
use Rattle.records.specs.Reading.{unit_in}
use Rattle.records.specs.Decoding.{unit_n0, unit_implicit, taken_in}
use Rattle.writers.specs.Results.{result_of, result_from, result_length}
use Rattle.writers.specs.Trips.{HeldGroupResult, HeldUnitResult}
use Rattle.writers.proofs.Back.{results-back}
use Rattle.decode.specs.Block.{block_count}
use Rattle.blocks.specs.Blocks.{group_in, group_result, group_told, unit_results, result_in, block_group, block_result, unit_result}

-- what an accepted group is judged by
judged : (g : Group) → Accepted g → Judged (position g) g.n0 g.step_down g.step_up g.class
judged g a = judged-by g a

module _ (g : Group) (a : Accepted g) where
  group-held : (group : GroupRecord) → HeldGroupResult (group_result group (sums_of g))
  unfolding group_result sums_by
  group-held group =
      let j = judged g a in
      let p = j.position-small in
      let s1 = s1-within j in
      let s2 = sum64-within (n2 g) (n2-few j) (n2-small j) in
      let s3 = s3-within j in
      record {
        p = omega zarith;
        s1 = omega zarith;
        s2 = omega zarith;
        s3 = omega zarith;
        balance = omega (zarith, neg (position g), minus (neg_ℤ (position g)) (sum_z (n3 g)));
      }

module _ (s : List ℕ) (count : ℕ) (a : Accepted (group_in s count)) where
  unit-held : (i : ℕ) → HeldUnitResult (result_of (unit_results s count) i)
  unfolding result_from
  unit-held i =
      let j = judged (group_in s count) a in
      let w0 = (a.sound i).n0-small in
      let w1 = (n1-classed j).small i in
      let w2 = n2-small j i in
      let w3 = n3-small j i in
      record { n0 = omega zarith; n1 = omega zarith; n2 = omega zarith; n3 = omega zarith }

reason-at : (taken : List ℕ) (n0 x1 x2 x3 down up : List ℤ) (i : ℕ) → i < length n0
    → get_or (reasons_all taken n0 x1 x2 x3 down up) i 0 ≡ reason_of (get_or taken i 0) (at n0 i) (at x1 i) (at x2 i) (at x3 i) (margins_at down up i)
unfolding reasons_all
reason-at taken n0 x1 x2 x3 down up i l =
    column-at (λ k. reason_of (get_or taken k 0) (at n0 k) (at x1 k) (at x2 k) (at x3 k) (margins_at down up k)) (length n0) i 0 l

module _ (s : List ℕ) (i : ℕ) (l : i < block_count s) where
  unit-values : result_of (unit_results s (block_count s)) i ≡ unit_result s i
  unfolding result_from
  unit-values =
      let count = block_count s in
      let n : length (block_group s).n0 ≡ count = column-length _ count in
      rw (
        reason-at (taken_in s count) (block_group s).n0 (n1 (block_group s)) (n2 (block_group s)) (n3 (block_group s)) (block_group s).step_down (block_group s).step_up i (omega arith),
        column-at (λ j. (unit_in s j).number) count i 0 l,
        column-at (λ j. bit (unit_implicit (unit_in s j))) count i 0 l,
        column-at (λ j. unit_n0 (unit_in s j)) count i (pos 0) l,
        column-at (λ j. (margins_of (unit_in s j)).step_down) count i (pos 0) l,
        column-at (λ j. (margins_of (unit_in s j)).step_up) count i (pos 0) l,
      )

-- bytes that begin with the result of an accepted block
module _ (s rest exit : List ℕ) (accepted : Accepted (block_group s)) (so : exit ≡ block_result s ++ rest) where
  both-back : (group_result_at exit 0 ≡ group_told s) × ((i : ℕ) → i < block_count s → unit_result_at exit (result_length i) ≡ result_of (unit_results s (block_count s)) i)
  unfolding result_in group_result
  both-back =
      results-back (group_told s) (unit_results s (block_count s)) rest exit so
      (record { group = group-held (block_group s) accepted (group_at s 0); unit = λ i _. unit-held s (block_count s) accepted i })

  pub group-back : group_result_at exit 0 ≡ group_told s
  group-back = both-back.0

  pub unit-back : (i : ℕ) → i < block_count s → unit_result_at exit (result_length i) ≡ unit_result s i
  unit-back i l = both-back.1 i l ∙ unit-values s i l
