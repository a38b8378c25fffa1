-- Parts of a line one after another: each is laid where the one before ends, and together they are as long as all of them.
use Prim.Native.Nat.{ℕ, suc, ◌+◌, ◌*◌, ◌≤◌}
use mathlib.Core.Path.{◌≡◌, refl, sym, ap, ◌∙◌}
use mathlib.Core.List.{List, [], ◌∷◌, ◌++◌, append_assoc, append-nil}
use native.Mathlib.Nat.{mul-suc}
use native.Mathlib.Numerals.{add-one}
use native.Mathlib.Omega.{arith}
use lib.ListN.{length, length-append}
use Rattle.numbers.specs.Bytes.{laid_at}
use Rattle.numbers.proofs.Laid.{laid_more, laid_next, laid_none, length-laid}
use Rattle.writers.specs.Runs.{run}
use Rattle.lines.specs.Lines.{spaced}
use Rattle.lines.specs.Inner.{Lays}

module _ (entry : List ℕ) (at : ℕ) where
  -- a part, and the next
  pub then : {one two : List ℕ} {xs ys : List ℕ} (m n j r : ℕ) → at + m + n ≤ length entry → Lays entry at xs m j one → Lays one j ys n r two
      → Lays entry at (xs ++ ys) (m + n) r two
  then {xs = xs} {ys = ys} m n j r h a b =
      let e = length-append xs ys in
      record {
        room = laid_next entry at xs j ys a.room b.room a.after (omega (arith, a.few, b.few));
        after = omega (arith, a.after, b.after);
        few = omega (arith, a.few, b.few);
      }

  -- the room keeps its length
  pub still : {out xs : List ℕ} (m r : ℕ) → at + m ≤ length entry → Lays entry at xs m r out → length out ≡ length entry
  still {xs = xs} m r h a = ap length a.room ∙ length-laid entry at xs (omega (arith, a.few))

  -- a part is as long as it may be
  pub up_to : {out xs : List ℕ} (m r : ℕ) → Lays entry at xs m r out → r ≤ at + m
  up_to m r a = omega (arith, a.after, a.few)

-- fields behind some bytes are these bytes, and the fields
pub spaced-behind : (bytes : List ℕ) (fields : List (List ℕ)) → spaced bytes fields ≡ bytes ++ spaced [] fields
unfolding spaced
spaced-behind bytes [] = sym (append-nil bytes)
spaced-behind bytes (f ∷ fs) =
    spaced-behind (bytes ++ (32 ∷ f)) fs ∙ append_assoc bytes (32 ∷ f) (spaced [] fs) ∙ ap (λ (x : List ℕ). bytes ++ x) (sym (spaced-behind (32 ∷ f) fs))

module _ (entry : List ℕ) (at : ℕ) where
  -- one part
  pub lays : {next xs : List ℕ} (n r : ℕ) → r ≡ at + length xs → length xs ≤ n → next ≡ laid_at entry at xs → Lays entry at xs n r next
  lays n r a h e = record { room = e; after = a; few = h }

  pub one_byte : {next : List ℕ} (x : ℕ) → next ≡ laid_at entry at (x ∷ []) → Lays entry at (x ∷ []) 1 (at + 1) next
  one_byte x e = lays 1 (at + 1) refl (omega arith) e

  -- a part that is shorter than it was said to be
  pub within : {out xs : List ℕ} (m n r : ℕ) → length xs ≤ n → Lays entry at xs m r out → Lays entry at xs n r out
  within m n r h a = record { room = a.room; after = a.after; few = h }

module _ (entry : List ℕ) (at : ℕ) where
  -- so many parts of a run
  module _ (f : ℕ → List ℕ) (most : ℕ) where
    pub run-start : Lays entry at (run f 0) (most * 0) at entry
    unfolding run
    run-start = record { room = laid_none entry at; after = omega arith; few = omega arith }

    pub run_more : {out next : List ℕ} (i here r : ℕ) → at + (most * i + most) ≤ length entry → Lays entry at (run f i) (most * i) here out → Lays out here (f i) most r next
        → Lays entry at (run f (i + 1)) (most * (i + 1)) r next
    unfolding run
    run_more i here r h a b =
        let e : most * suc i ≡ most * i + most = mul-suc most i in
        rw (add-one i, e) (then entry at (most * i) most here r (omega arith) a b)

-- a part, and then fields
pub then-fields : (entry : List ℕ) (at : ℕ) {one two xs : List ℕ} (fields : List (List ℕ)) (m n j r : ℕ) → at + m + n ≤ length entry → Lays entry at xs m j one
    → Lays one j (spaced [] fields) n r two → Lays entry at (spaced xs fields) (m + n) r two
then-fields entry at {xs = xs} fields m n j r h a b = rw (spaced-behind xs fields) (then entry at m n j r h a b)

-- four fields, each at most so long
pub four-fields : (entry : List ℕ) (at : ℕ) {one two three four w x y z : List ℕ} (m i j k r : ℕ) → at + m * 4 ≤ length entry → Lays entry at (32 ∷ w) m i one
    → Lays one i (32 ∷ x) m j two → Lays two j (32 ∷ y) m k three → Lays three k (32 ∷ z) m r four → Lays entry at (spaced [] (w ∷ x ∷ y ∷ z ∷ [])) (m * 4) r four
unfolding spaced
four-fields entry at m i j k r h a b c d =
    let q2 = then entry at m m i j (omega arith) a b in
    let q3 = then entry at (m + m) m j k (omega arith) q2 c in
    let q4 = then entry at (m + m + m) m k r (omega arith) q3 d in
    within entry at (m + m + m + m) (m * 4) r (omega (arith, q4.few)) q4

-- parts one behind another are one part
pub ruleset laying = (laid_more, length-append)
