use Rattle.quota.proofs.Spans.{Decided}
use Rattle.quota.proofs.Search.parted.Given as goal

abbrev pub invariant-loop-x : goal.invariant-loop-x
invariant-loop-x l = Decided l.self.marks.now l.self.left l.fn.wide.low l.span.low l.span.high l.x-index
