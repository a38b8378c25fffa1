-- What `update` says of each entry, read as one column.
use Rattle.std.proofs.Common.{◌≡◌, ℕ, ◌<◌, List, length, get_or, arith, IfSome, IsSomeAnd, slice_get, Some}
use Rattle.std.proofs.lemmas.Option.{slice_get-get_or}
use Rattle.numbers.specs.Column.{column}
use Rattle.numbers.proofs.Columns.{is-column}

-- `update`: each entry is f's, where l was the column old
pub updated : {X : Type 0} (P : ℕ → X → X → Type 0) (f : ℕ → X) (d : X) (n : ℕ) (old l : List X)
    → length old ≡ n
    → length l ≡ n
    → ((k : ℕ) → IfSome (slice_get old k) (λ x. IsSomeAnd (slice_get l k) (P k x)))
    → ((k : ℕ) (y : X) → k < n → P k (get_or old k d) y → y ≡ f k)
    → l ≡ column n f
updated {X} P f d n old l o e h g =
    is-column f d n l e
    (λ k m.
    let was : k < length old = omega arith in
    let inside : k < length l = omega arith in
    let some : IfSome (Some (get_or old k d)) (λ x. IsSomeAnd (Some (get_or l k d)) (P k x)) =
    rw (slice_get-get_or old k d was, slice_get-get_or l k d inside) at (h k)
    in
    g k (get_or l k d) m some)
