-- The library compares the mark with the line's first bytes, and the definition these with the mark.
use mathlib.Core.Path.{◌≡◌, sym, ◌∙◌}
use mathlib.Core.Bool.{true, false}
use lib.ListN.{take}
use Rattle.std.proofs.Common.{rules, tests}
use Rattle.text.specs.Line.{same, byte_order_mark}
use Rattle.text.proofs.Same.{same_turned}
use Rattle.text.proofs.line.mark_length.Goals as goal

pub returns-then-starts_with : goal.returns-then-starts_with
returns-then-starts_with c =
    let s = take 3 c.args.line.now in
    let e : same s byte_order_mark ≡ true = sym (same_turned byte_order_mark s) ∙ (sym c.starts_with.ensures.value ∙ c.if-starts_with.true) in
    search (rules, tests)

pub returns : goal.returns
returns c =
    let s = take 3 c.args.line.now in
    let e : same s byte_order_mark ≡ false = sym (same_turned byte_order_mark s) ∙ (sym c.starts_with.ensures.value ∙ c.if-starts_with.false) in
    search (rules, tests)
