-- A loop that fills a lent column from the front: the entries passed are f's.
use Prim.Native.Nat.{ℕ, ◌+◌, ◌≤◌, ◌<◌}
use mathlib.Core.Path.{◌≡◌, sym, ap, ◌∙◌}
use mathlib.Core.List.{List, ◌++◌}
use native.Mathlib.Omega.{arith}
use lib.ListN.{length, set, drop, length-set}
use lib.Seq.{drop-append_seam}
use Rattle.numbers.specs.Column.{column}
use Rattle.numbers.proofs.Columns.{column-none, column-more, column-all, column-length}

pub record Filled {X : Type 0} (f : ℕ → X) (count i : ℕ) (col : List X) : Type 0 where
  pub long : length col ≡ count
  pub so : col ≡ column i f ++ drop i col

module _ {X : Type 0} (f : ℕ → X) (count : ℕ) where
  pub fill_none : (col : List X) → length col ≡ count → Filled f count 0 col
  fill_none col h = record { long = h; so = column-none f col }

  pub fill_more : (i : ℕ) (col : List X) {next : List X} → i < count → next ≡ set col i (f i) → Filled f count i col → Filled f count (i + 1) next
  fill_more i col {next} h e fill =
      let more : set col i (f i) ≡ column (i + 1) f ++ drop (i + 1) col = ap (λ (l : List X). set l i (f i)) fill.so ∙ column-more f i col (f 0) (omega (arith, fill.long)) in
      let rest : drop (i + 1) (set col i (f i)) ≡ drop (i + 1) col = ap (drop (i + 1)) more ∙ after (column (i + 1) f) (drop (i + 1) col) (column-length f (i + 1)) in
      record { long = rw e (simp length-set fill.long); so = rw e (more ∙ ap (λ (l : List X). column (i + 1) f ++ l) (sym rest)) }
    where
      after : (front back : List X) → length front ≡ i + 1 → drop (i + 1) (front ++ back) ≡ back
      after front back n = ap (λ (k : ℕ). drop k (front ++ back)) (sym n) ∙ drop-append_seam front back

  pub fill-all : (i : ℕ) (col : List X) → i ≤ count → count ≤ i → Filled f count i col → col ≡ column count f
  fill-all i col h k fill =
      let e : i ≡ count = omega arith in
      fill.so ∙ rw e (column-all f col count fill.long)
