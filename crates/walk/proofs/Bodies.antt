-- The table's rule, shown once for all its entries: a table that computes to the columns of bodies has each body at its row and kind.
use Prim.Native.Nat.{ℕ, zero, suc, ◌+◌, ◌≤◌, ◌<◌}
use mathlib.Core.Path.{◌≡◌, refl, ◌∙◌}
use mathlib.Core.Bool.{Bool, true, ◌&&◌}
use mathlib.Core.List.{List, [], ◌∷◌}
use native.Mathlib.Decide.{dec_lt}
use native.Mathlib.Omega.{arith}
use borrow.Author.Tests.{leb-true, lt-ltb}
use lib.Dec.{leb}
use lib.ListN.{get_or}
use Rattle.numbers.specs.Column.{column}
use Rattle.numbers.proofs.Choices.{and_both}
use Rattle.numbers.proofs.Columns.{column-at, column-past}
use Rattle.records.specs.Longest.{longest_block}
use Rattle.walk.specs.declared.table.State.{State}
use Rattle.walk.specs.declared.table.State.TheVariants.{Fresh, Open, Closed}
use Rattle.walk.specs.Table.{body_of, row_of, rows}
use Rattle.walk.proofs.Coming.{kind-below}

row_at : (state : State) → get_or rows (row_of state) [] ≡ column 16 (body_of state)
row_at Fresh = refl
row_at Open = refl
row_at Closed = refl

pub body_at : (bodies : List (List ℕ)) → bodies ≡ rows → (state : State) (row kind : ℕ) → row ≡ row_of state → kind < 16
    → get_or (get_or bodies row []) kind 0 ≡ body_of state kind
body_at bodies table state row kind r h = rw (table, r, row_at state) (column-at (body_of state) 16 kind 0 h)

-- no record of a kind past the table's columns may come
pub body-past : (state : State) (kind : ℕ) → 16 ≤ kind → 0 ≡ body_of state kind
body-past state kind h = go (dec_lt 0 (body_of state kind))
  where
    go : Dec (0 < body_of state kind) → 0 ≡ body_of state kind
    go (yes l) = absurd (omega (arith, kind-below state kind (lt-ltb 0 (body_of state kind) l)))
    go (no l) = omega arith

-- so the rows, which have nothing past their end, have every body
body-in : (state : State) (kind : ℕ) → get_or (get_or rows (row_of state) []) kind 0 ≡ body_of state kind
body-in state kind = go (dec_lt kind 16)
  where
    go : Dec (kind < 16) → get_or (get_or rows (row_of state) []) kind 0 ≡ body_of state kind
    go (yes h) = body_at rows refl state (row_of state) kind refl h
    go (no h) = rw (row_at state) (column-past (body_of state) 16 kind 0 (omega arith) ∙ body-past state kind (omega arith))

-- none of them, with its kind, is longer than the longest block: a computed test of each row
abbrev all_short : List ℕ → Bool
all_short [] = true
all_short (n ∷ ns) = leb (1 + n) longest_block && all_short ns

short-at : (bodies : List ℕ) → all_short bodies ≡ true → (k : ℕ) → 1 + get_or bodies k 0 ≤ longest_block
short-at [] e k = omega arith
short-at (n ∷ ns) e zero = leb-true (1 + n) longest_block (and_both (leb (1 + n) longest_block) (all_short ns) e).0
short-at (n ∷ ns) e (suc k) = short-at ns (and_both (leb (1 + n) longest_block) (all_short ns) e).1 k

row-short : (state : State) → all_short (get_or rows (row_of state) []) ≡ true
unfolding column
row-short Fresh = refl
row-short Open = refl
row-short Closed = refl

-- no record is longer than the longest block
pub body-short : (state : State) (kind : ℕ) → 1 + body_of state kind ≤ longest_block
body-short state kind = omega (arith, short-at (get_or rows (row_of state) []) (row-short state) kind, body-in state kind)
