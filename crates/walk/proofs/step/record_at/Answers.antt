-- A block that came has its group record whole.
use Rattle.std.proofs.Common.{sym, ap, ◌∙◌}
use Rattle.terms.specs.Refusals.{reply}
use Rattle.walk.proofs.Coming.{group-whole}
use Rattle.walk.proofs.step.record_at.Goals as goal

pub whole-requires : goal.whole-requires
whole-requires c =
    let x = c.args in
    group-whole x.s.now x.at x.state c.in_ok-head.head (sym c.head_in.ensures ∙ ap reply c.in_ok-head.was)
