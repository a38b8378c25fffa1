-- From the reading of a block's units to the answer: they pass with their columns, or one is refused, and so is the block; then 12, or its result.
use Rattle.std.specs.Prelude.{Result, Option, Some, None}
use Rattle.terms.specs.Refusals.{reply}
use Prim.Native.Nat.{ℕ}
use mathlib.Core.Path.{◌≡◌, refl, sym, ap, ◌∙◌}
use mathlib.Core.Bool.{true, false}
use mathlib.Core.List.{List, ◌++◌}
use lib.Dec.{leb}
use lib.IntN.{ℤ}
use lib.ListN.{length, take}
use lib.Seq.{take-append_seam}
use Rattle.numbers.specs.Bytes.{laid_at}
use Rattle.numbers.proofs.Columns.{column-length}
use Rattle.terms.specs.Reply.{Reply, is, refused, need, next}
use Rattle.terms.specs.declared.refusal.Refusal.{Refusal}
use Rattle.terms.proofs.Replies.{need-is, next-is}
use Rattle.records.specs.declared.day.DayRecord.{DayRecord}
use Rattle.records.specs.declared.group.GroupRecord.{GroupRecord}
use Rattle.records.specs.Layouts.{group_length, group_at}
use Rattle.records.specs.Reading.{judged_by, units_of}
use Rattle.writers.specs.Results.{result_length}
use Rattle.blocks.specs.declared.check.Block.{Block}
use Rattle.decode.specs.declared.Reading.{Reading}
use Rattle.decode.specs.Block.{block_count}
use Rattle.blocks.specs.Blocks.{block_result}
use Rattle.blocks.specs.Checking.{block_of, block_units_of}
use Rattle.decode.specs.Inner.{Begun, Passed, Decoded, units_at, UnitsPassed}
use Rattle.blocks.specs.Inner.{units_taken, block_after, Taking}
use Rattle.blocks.proofs.ByUnits.{units-pass, made}

front : {A : Type 0} {l : List A} {n k : ℕ} (m : List A) → n ≡ k → length l ≡ k → take n (l ++ m) ≡ l
front {A} {l} m e h = ap (λ (i : ℕ). take i (l ++ m)) (e ∙ sym h) ∙ take-append_seam l m

-- a block by a reading of its units
module _ (s : List ℕ) (group : GroupRecord) (day : DayRecord) (b : Begun s) (g : group ≡ group_at s 0) {by : DayRecord} (j : by ≡ judged_by group day) where
  same_count : units_of s group_length 0 (judged_by group day) group.count ≡ units_at s by
  same_count = ap (λ (x : GroupRecord). units_of s group_length 0 (judged_by group day) x.count) g ∙ ap (units_at s) (sym j)

  module _ {r : Option Reading} {class taken : List ℕ} {n0 down up : List ℤ} (u : UnitsPassed s by r class taken n0 down up) where
    -- no block comes of a reading that was broken off
    pub broken-off : r ≡ None → (block : Block) → block_units_of s group day ≡ is block → ⊥
    broken-off w block e =
        let m = made s group day e in
        u.fails w m.end (sym same_count ∙ m.passed)

    module _ {read : Reading} (w : r ≡ Some read) where
      pub read-block : block_units_of s group day ≡ is (block_of group read.end)
      read-block = units-pass s group day (same_count ∙ u.ends read w)

      pub read-passed : Passed s
      read-passed = record { day = by; end = read.end; long = b.long; few = b.few; units = u.ends read w }

      -- the columns that were read are the fronts of those that were lent
      pub read-decoded : {n : ℕ} → n ≡ block_count s → (a b : List ℕ) (x y z : List ℤ)
          → Decoded s read.p.0 (take n (class ++ a)) (take n (taken ++ b)) (take n (n0 ++ x)) (take n (down ++ y)) (take n (up ++ z))
      read-decoded e a b x y z =
          let d = u.decoded read w in
          let count = block_count s in
          record {
            sold = d.sold;
            classes = front a e (ap length d.classes ∙ column-length _ count) ∙ d.classes;
            marks = front b e (ap length d.marks ∙ column-length _ count) ∙ d.marks;
            starts = front x e (ap length d.starts ∙ column-length _ count) ∙ d.starts;
            downs = front y e (ap length d.downs ∙ column-length _ count) ∙ d.downs;
            ups = front z e (ap length d.ups ∙ column-length _ count) ∙ d.ups;
          }

-- and then 12, or the result
module _ (s : List ℕ) (group : GroupRecord) (day : DayRecord) (entry : List ℕ) where
  pub taking-refused : {r : Result Block Refusal} → reply r ≡ block_units_of s group day → ((block : Block) → block_units_of s group day ≡ is block → ⊥) → Taking s group day entry r entry
  unfolding units_taken next block_after
  taking-refused {r} h none = go (block_units_of s group day) refl
    where
      go : (x : Reply Block) → block_units_of s group day ≡ x → Taking s group day entry r entry
      go (is block) e = absurd (none block e)
      go (refused n p) e = record { replied = h ∙ rw e; room = rw e }

  module _ {block : Block} (e : block_units_of s group day ≡ is block) where
    pub taking-small : {r : Result Block Refusal} → reply r ≡ refused 12 0 → leb block.written (length entry) ≡ false → Taking s group day entry r entry
    unfolding units_taken next need block_after
    taking-small h t = record { replied = h ∙ rw (e, t); room = rw (e, t) }

    pub taking-done : {r : Result Block Refusal} {exit : List ℕ} → reply r ≡ is block → leb block.written (length entry) ≡ true → exit ≡ laid_at entry 0 (block_result s) → Taking s group day entry r exit
    unfolding units_taken next need block_after
    taking-done k t h = record { replied = k ∙ rw (e, t); room = h ∙ rw (e, t) }

    -- a block's result is as long as its count says
    pub taken-long : group ≡ group_at s 0 → block.written ≡ result_length (block_count s)
    taken-long g = rw ((made s group day e).value, g)

  pub took-long : {block : Block} → is block ≡ units_taken s group day (length entry) → group ≡ group_at s 0 → block.written ≡ result_length (block_count s)
  unfolding units_taken
  took-long {block} e g =
      let a = next-is _ _ (sym e) in
      let n = need-is _ _ _ _ a.1.1 in
      let same : block ≡ a.0 = cc n.1 in
      rw same (taken-long a.1.0 g)
