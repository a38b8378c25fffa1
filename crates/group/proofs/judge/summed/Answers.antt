-- `summed` meets its contract: the callees' results are the definition's.
use mathlib.Core.Path.{◌≡◌, ap}
use borrow.Author.Rules.{rules}
use lib.IntN.{ℤ, ◌-ℤ◌}
use mir.Syntax.{w32}
use mir.Val.{SFits, to_z, of_z}
use mir.Facts.{to_z-of_z}
use Rattle.numbers.proofs.Integers.{zarith, minus}
use Rattle.terms.specs.declared.quantity.Nomination.{Nomination}
use Rattle.group.specs.Steps.{verdict_of, balance_of}
use Rattle.group.specs.Columns.{sums_by}
use Rattle.group.proofs.judge.summed.Goals as goal

pub returns : goal.returns
unfolding sums_by
returns c =
    let k = c.args.cut in
    let f : to_z w32 (of_z w32 k.s1) ≡ k.s1 = search rules in
    let g : to_z w32 (of_z w32 k.e) ≡ k.e = search rules in
    let h = to_z-of_z c.ranges.s3 in
    let d : SFits w32 (k.s1 -ℤ k.e) = omega (zarith, minus k.s1 k.e, c.requires) in
    let v : c.verdict.result ≡ verdict_of k.band k.e c.args.s3 = simp (g, h) at c.verdict.ensures in
    let w : c.balance.result ≡ record { 0 = balance_of c.args.p.0 c.args.s3 } =
    ap {B = Nomination} (λ (z : ℤ). record { 0 = z }) (simp h at c.balance.ensures)
    in
    simp (f, g, h) (simp (to_z-of_z d) (rw (v, w)))
