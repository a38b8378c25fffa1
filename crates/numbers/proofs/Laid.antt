-- Bytes stored one run after another are one run.
use Rattle.std.proofs.Common.{◌≡◌, ℕ, ◌+◌, ◌≤◌, List, [], ◌++◌, length, take, drop, sym, ◌∙◌, append_assoc, append-nil, arith, length-append, length-drop, take-append-drop, length-take-le, take-take, drop-drop, take_at, drop_at}
use lib.Seq.{take-append-le, drop-append-add}
use Rattle.std.proofs.lemmas.Int.{to_z-of_z}
use Rattle.numbers.specs.Bytes.{laid_at}
use Rattle.numbers.specs.Fields.{length_bytes16, length_bytes32}

pub length-laid : (l : List ℕ) (i : ℕ) (xs : List ℕ) → i + length xs ≤ length l → length (laid_at l i xs) ≡ length l
unfolding laid_at
length-laid l i xs h = simp (length-append, length-take-le i l (omega arith), length-drop) (omega arith)

-- a run after a run is one run
pub laid_more : (l : List ℕ) (i : ℕ) (xs ys : List ℕ) (j : ℕ) → j ≡ i + length xs → i + length xs + length ys ≤ length l
    → laid_at (laid_at l i xs) j ys ≡ laid_at l i (xs ++ ys)
unfolding laid_at
laid_more l i xs ys j e h =
    let p = take i l ++ xs in
    let r = drop (i + length xs) l in
    let n : length (take i l) ≡ i = length-take-le i l (omega arith) in
    let q : length p ≡ j = simp length-append (omega arith) in
    let front : take j (p ++ r) ≡ p = take_at p r j q in
    let back : drop (j + length ys) (p ++ r) ≡ drop (length ys) r = rw (← q) (drop-append-add p r (length ys)) in
    let rest : i + length xs + length ys ≡ i + length (xs ++ ys) = simp length-append (omega arith) in
    rw (front, back, drop-drop, rest, append_assoc (take i l) xs ys)

-- the same, along two stores: `two` after `one`
pub laid_next : (l : List ℕ) {one two : List ℕ} (i : ℕ) (xs : List ℕ) (j : ℕ) (ys : List ℕ) → one ≡ laid_at l i xs → two ≡ laid_at one j ys
    → j ≡ i + length xs → i + length xs + length ys ≤ length l → two ≡ laid_at l i (xs ++ ys)
laid_next l {one} {two} i xs j ys e f p h = rw (f, e) (laid_more l i xs ys j p h)

-- a run before a run is one run
pub laid-before : (l : List ℕ) (i : ℕ) (xs ys : List ℕ) (j : ℕ) → j ≡ i + length xs → i + length xs + length ys ≤ length l
    → laid_at (laid_at l j ys) i xs ≡ laid_at l i (xs ++ ys)
unfolding laid_at
laid-before l i xs ys j e h =
    let p = take j l in
    let d = drop (j + length ys) l in
    let n : length p ≡ j = length-take-le j l (omega arith) in
    let front : take i (p ++ (ys ++ d)) ≡ take i l = take-append-le i p (ys ++ d) (omega arith) ∙ take-take i j l (omega arith) in
    let back : drop (i + length xs) (p ++ (ys ++ d)) ≡ ys ++ d = drop_at p (ys ++ d) (i + length xs) (n ∙ e) in
    let rest : j + length ys ≡ i + length (xs ++ ys) = simp length-append (omega arith) in
    rw (append_assoc p ys d, front, back, rest, ← append_assoc (take i l ++ xs) ys (drop (i + length (xs ++ ys)) l), append_assoc (take i l) xs ys)

-- the same, along two stores: `two` after `one`
pub laid-under : (l : List ℕ) {one two : List ℕ} (j : ℕ) (ys : List ℕ) (i : ℕ) (xs : List ℕ) → one ≡ laid_at l j ys → two ≡ laid_at one i xs
    → j ≡ i + length xs → i + length xs + length ys ≤ length l → two ≡ laid_at l i (xs ++ ys)
laid-under l j ys i xs e f p h = rw (f, e) (laid-before l i xs ys j p h)

-- no bytes change nothing
pub laid_none : (l : List ℕ) (i : ℕ) → l ≡ laid_at l i []
unfolding laid_at
laid_none l i =
    let e : i + 0 ≡ i = omega arith in
    rw (e, append-nil) (sym (take-append-drop i l))

-- at the front: the bytes, and then the rest
pub laid-front : (l bytes : List ℕ) → laid_at l 0 bytes ≡ bytes ++ drop (length bytes) l
unfolding laid_at
laid-front l bytes =
    let e : 0 + length bytes ≡ length bytes = omega arith in
    rw e

-- what a writer needs that lays the fields of a record in their order
pub ruleset laying = (laid_more, length_bytes16, length_bytes32, length-append, to_z-of_z)
