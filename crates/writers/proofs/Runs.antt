-- Records one after another: the loop that lays them, where each stands, and bytes that are such records; by induction on how many there are.
use Prim.Native.Nat.{ℕ, zero, suc, ◌+◌, ◌*◌, ◌≤◌, ◌<◌}
use mathlib.Core.Path.{◌≡◌, refl, sym, ap, ◌∙◌}
use mathlib.Core.List.{List, ◌++◌, append_assoc}
use native.Mathlib.Nat.{mul-suc, not-suc-le-zero}
use native.Mathlib.Decide.{dec_lt}
use native.Mathlib.Numerals.{add-one}
use native.Mathlib.Omega.{arith}
use lib.ListN.{length, take, drop, length-append}
use lib.Seq.{drop_at, drop-drop, take-add}
use Rattle.numbers.specs.Bytes.{laid_at}
use Rattle.numbers.proofs.Laid.{laid_next, laid_none, length-laid}
use Rattle.writers.specs.Runs.{run}

-- i of so many records are laid, from a place of the room on, and the next one goes here
pub record Going (f : ℕ → List ℕ) (units at : ℕ) (entry room : List ℕ) (here i : ℕ) : Type 0 where
  pub fits : at + length (run f units) ≤ length entry
  pub within : i ≤ units
  pub on : here ≡ at + length (run f i)
  pub kept : length room ≡ length entry
  pub so : room ≡ laid_at entry at (run f i)

-- runs of the same records
pub run-same : (f g : ℕ → List ℕ) (n : ℕ) → ((i : ℕ) → i < n → f i ≡ g i) → run f n ≡ run g n
unfolding run
run-same f g zero h = refl
run-same f g (suc n) h = rw (run-same f g n (λ i l. h i (omega arith)), h n (omega arith))

module _ (f : ℕ → List ℕ) where
  pub run_more : (i : ℕ) → length (run f (suc i)) ≡ length (run f i) + length (f i)
  unfolding run
  run_more i = length-append (run f i) (f i)

  -- records of one length
  pub length_run : (width : ℕ) → ((i : ℕ) → length (f i) ≡ width) → (k : ℕ) → length (run f k) ≡ width * k
  unfolding run
  length_run width each zero = omega arith
  length_run width each (suc k) = omega (arith, run_more k, length_run width each k, each k, mul-suc width k)

  -- each record lies whole among them
  run-whole : (n i : ℕ) → i < n → length (run f i) + length (f i) ≤ length (run f n)
  run-whole zero i h = absurd (not-suc-le-zero h)
  run-whole (suc n) i h = go (run-whole n i) (dec_lt i n)
    where
      go : (i < n → length (run f i) + length (f i) ≤ length (run f n)) → Dec (i < n) → length (run f i) + length (f i) ≤ length (run f (suc n))
      go before (yes l) = omega (arith, before l, run_more n)
      go before (no l) =
          let e : i ≡ n = omega arith in
          rw e (omega (arith, run_more n))

  module _ (units at : ℕ) (entry : List ℕ) where
    pub start : at + length (run f units) ≤ length entry → Going f units at entry entry at 0
    unfolding run
    start h = record { fits = h; within = omega arith; on = omega arith; kept = refl; so = laid_none entry at }

    module _ {room : List ℕ} {here : ℕ} (i : ℕ) (g : Going f units at entry room here i) where
      -- the next one fits
      pub next_fits : i < units → here + length (f i) ≤ length room
      next_fits h = omega (arith, run-whole units i h, g.fits, g.on, g.kept)

      pub turn : {next : List ℕ} → i < units → next ≡ laid_at room here (f i) → Going f units at entry next (here + length (f i)) (i + 1)
      unfolding run
      turn h e =
          let w = run-whole units i h in
          let m = run_more i in
          record {
            fits = g.fits;
            within = omega arith;
            on = rw (add-one i) (omega (arith, g.on));
            kept = ap length e ∙ length-laid room here (f i) (next_fits h) ∙ g.kept;
            so = rw (add-one i) (laid_next entry at (run f i) here (f i) g.so e g.on (omega (arith, g.fits)));
          }

      pub end : units ≤ i → room ≡ laid_at entry at (run f units)
      end h =
          let e : units ≡ i = omega (arith, g.within) in
          rw e g.so

  -- each record stands behind those before it
  parts : (n : ℕ) (rest : List ℕ) (i : ℕ) → i < n → (more : List ℕ) × (drop (length (run f i)) (run f n ++ rest) ≡ f i ++ more)
  unfolding run
  parts zero rest i h = absurd (not-suc-le-zero h)
  parts (suc n) rest i h = go (parts n (f n ++ rest) i) (dec_lt i n)
    where
      go : (i < n → (more : List ℕ) × (drop (length (run f i)) (run f n ++ (f n ++ rest)) ≡ f i ++ more)) → Dec (i < n)
          → (more : List ℕ) × (drop (length (run f i)) (run f n ++ f n ++ rest) ≡ f i ++ more)
      go before (yes l) = ((before l).0, rw append_assoc (before l).1)
      go before (no l) =
          let e : i ≡ n = omega arith in
          (rest, rw (append_assoc, e) (drop_at (run f n) (f n ++ rest) (length (run f n)) refl))

  -- and behind what is in front of them all
  pub run_at : (front : List ℕ) (n : ℕ) (rest : List ℕ) (i : ℕ) → i < n
      → (more : List ℕ) × (drop (length front + length (run f i)) (front ++ (run f n ++ rest)) ≡ f i ++ more)
  run_at front n rest i h =
      let p = parts n rest i h in
      (p.0, sym (drop-drop (length (run f i)) (length front) _) ∙ rw (drop_at front (run f n ++ rest) (length front) refl) p.1)

  -- records that are the parts of some bytes are all of these bytes
  pub run-again : (s : List ℕ) (at n : ℕ) → ((i : ℕ) → i < n → f i ≡ take (length (f i)) (drop (at + length (run f i)) s))
      → run f n ≡ take (length (run f n)) (drop at s)
  unfolding run
  run-again s at zero h = refl
  run-again s at (suc n) h =
      rw (run_more n, take-add (length (run f n)) (length (f n)) (drop at s), drop-drop, ← h n (omega arith))
      (ap (λ (l : List ℕ). l ++ f n) (run-again s at n (λ i l. h i (omega arith))))
