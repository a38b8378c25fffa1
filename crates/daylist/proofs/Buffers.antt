-- The bytes at hand and the lines that wait, as parts of the two buffers: what a step takes of them and puts behind them.
use Prim.Native.Nat.{ℕ, ◌+◌, ◌-◌, ◌≤◌}
use mathlib.Core.Path.{◌≡◌, sym, ap, ◌∙◌}
use mathlib.Core.List.{List, ◌++◌}
use native.Mathlib.Omega.{arith}
use lib.ListN.{length, take, drop, length-append, length-take, length-drop}
use lib.Seq.{length-take-le, drop-append-le, take-append-add, drop-drop, take_at}
use Rattle.std.proofs.lemmas.List.{drop-take}
use Rattle.numbers.specs.Bytes.{laid_at}

-- what is left of a front part
left_of : (k m : ℕ) (ys : List ℕ) → k ≤ m → drop k (take m ys) ≡ take (m - k) (drop k ys)
left_of k m ys h =
    let e : m ≡ k + (m - k) = omega arith in
    ap (λ (j : ℕ). drop k (take j ys)) e ∙ drop-take k (m - k) ys

-- what is at hand after so many bytes of it were used
pub hand_on : (from end used : ℕ) (input : List ℕ) → used ≤ length (take (end - from) (drop from input))
    → take (end - (from + used)) (drop (from + used) input) ≡ drop used (take (end - from) (drop from input))
hand_on from end used input h =
    let n = length-take (end - from) (drop from input) in
    let e : end - (from + used) ≡ end - from - used = omega arith in
    ap (λ (k : ℕ). take k (drop (from + used) input)) e
    ∙ ap (take (end - from - used)) (sym (drop-drop used from input))
    ∙ sym (left_of used (end - from) (drop from input) (omega arith))

-- what is at hand after so many bytes came behind it
pub hand-read : (from end n : ℕ) (input free : List ℕ) → from ≤ end → end ≤ length input
    → take (end + n - from) (drop from (take end input ++ free)) ≡ take (end - from) (drop from input) ++ take n free
hand-read from end n input free h l =
    let front = length-take-le end input l in
    let part = left_of from end input h in
    let long : length (drop from (take end input)) ≡ end - from = length-drop from (take end input) ∙ ap (λ (k : ℕ). k - from) front in
    let e : end + n - from ≡ length (drop from (take end input)) + n = omega arith in
    ap (take (end + n - from)) (drop-append-le from (take end input) free (omega arith))
    ∙ ap (λ (k : ℕ). take k (drop from (take end input) ++ free)) e
    ∙ take-append-add (drop from (take end input)) free n
    ∙ ap (λ (x : List ℕ). x ++ take n free) part

-- the lines that wait after so many came behind them
pub held_on : (output lines : List ℕ) (full : ℕ) → full ≤ length output → take (full + length lines) (laid_at output full lines) ≡ take full output ++ lines
unfolding laid_at
held_on output lines full h =
    take_at (take full output ++ lines) (drop (full + length lines) output) (full + length lines) (length-append (take full output) lines ∙ ap (λ (k : ℕ). k + length lines) (length-take-le full output h))

pub held_fits : (output lines : List ℕ) (full : ℕ) → full ≤ length output → full + length lines ≤ length (laid_at output full lines)
unfolding laid_at
held_fits output lines full h =
    omega (arith, length-append (take full output ++ lines) (drop (full + length lines) output), length-append (take full output) lines, length-take-le full output h)

-- bytes moved to the front
abbrev pub moved : List ℕ → ℕ → ℕ → List ℕ
moved input from i = take i (drop from input) ++ drop i input
