-- What stands at the front of a room lies in it.
use Prim.Native.Nat.{ℕ, ◌≤◌}
use mathlib.Core.Path.{ap, ◌∙◌}
use mathlib.Core.List.{List}
use native.Mathlib.Omega.{arith}
use lib.ListN.{length, drop, length-append}
use Rattle.numbers.proofs.Laid.{laid-front}
use Rattle.shown.specs.Shown.{Fronts}

pub fits : {bytes entry exit : List ℕ} {n : ℕ} → Fronts bytes entry n exit → n ≤ length exit
fits {bytes} {entry} {exit} {n} f =
    let e = ap length (f.room ∙ laid-front entry bytes) in
    omega (arith, f.written, length-append bytes (drop (length bytes) entry))
