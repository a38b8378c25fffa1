-- What a line of a refusal is told to have written lies in the room: the room keeps its length.
use Prim.Native.Nat.{ℕ, ◌≤◌}
use mathlib.Core.Path.{◌≡◌, ap, ◌∙◌}
use mathlib.Core.List.{List, ◌++◌}
use native.Mathlib.Omega.{arith}
use lib.ListN.{length, drop, length-append}
use Rattle.numbers.proofs.Laid.{laid-front}
use Rattle.terms.specs.declared.refusal.Refusal.{Refusal}
use Rattle.day.specs.declared.value.Day.{Day}
use Rattle.naming.specs.Words.{line_in, Names}

pub name-inside : (day : Day) (s : List ℕ) (r : Refusal) (entry : List ℕ) (n : ℕ) (exit : List ℕ) → Names day s r entry n exit → length exit ≡ length entry → n ≤ length entry
name-inside day s r entry n exit o h =
    let line = line_in day s r entry in
    let e : length exit ≡ length (line ++ drop (length line) entry) = ap length (o.room ∙ laid-front entry line) in
    omega (arith, o.written, e, h, length-append line (drop (length line) entry))
