-- `quantities_at` meets its contract: the bytes are those of the result.
use Rattle.std.proofs.Common.{◌≡◌, ℕ, ◌+◌, ◌-◌, take, drop, ap, ◌∙◌, arith}
use Rattle.lines.proofs.Same.{in_part}
use Rattle.lines.proofs.lines.quantities_at.Goals as goal

pub returns : goal.returns
returns c =
    let a = c.args in
    let chunk = rw c.unwrap.ensures at c.as_array.ensures.cases in
    let long : a.from + 16 - a.from ≡ 16 = omega arith in
    in_part a.res.now a.from (chunk.same ∙ ap (λ (n : ℕ). take n (drop a.from a.res.now)) long)
