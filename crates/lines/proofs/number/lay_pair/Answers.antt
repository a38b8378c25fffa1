-- `lay_pair` meets its contract: the two bytes of the table's entry are the two digits.
use Prim.Native.Nat.{ℕ, ◌+◌, ◌/◌, ◌%◌}
use mathlib.Core.Path.{◌≡◌, refl, ap, ◌∙◌}
use mathlib.Core.List.{List, [], ◌∷◌}
use native.Mathlib.Omega.{arith}
use lib.ListN.{get_or}
use Rattle.numbers.specs.Bytes.{laid_at}
use Rattle.numbers.specs.Decimal.{digit}
use Rattle.numbers.proofs.Laid.{laid_next}
use Rattle.lines.specs.Inner.{pair_of}
use Rattle.lines.proofs.Pairs.{pair-at, pairs_are}
use Rattle.lines.specs.declared.table.TheConstants.{PAIRS}
use Rattle.lines.proofs.number.lay_pair.Goals as goal

pub returns : goal.returns
returns c =
    let a = c.args in
    let k = a.k in
    let out = a.out.now in
    let v = get_or PAIRS k 0 in
    let e : v ≡ pair_of k = ap (λ (l : List ℕ). get_or l k 0) pairs_are ∙ pair-at k c.requires.0 in
    let front : v % 256 ≡ digit (k / 10) = omega (arith, c.requires.0) in
    let back : v / 256 ≡ digit (k % 10) = omega (arith, c.requires.0) in
    laid_next out a.at (v % 256 ∷ []) (a.at + 1) (v / 256 ∷ []) c.lay.ensures c.lay-2.ensures refl (omega (arith, c.requires.1))
    ∙ ap (λ (x : ℕ). laid_at out a.at (x ∷ v / 256 ∷ [])) front
    ∙ ap (λ (x : ℕ). laid_at out a.at (digit (k / 10) ∷ x ∷ [])) back
