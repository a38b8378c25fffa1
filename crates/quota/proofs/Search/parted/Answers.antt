use Rattle.std.proofs.Common.{arith, inl, inr}
use Rattle.quota.proofs.Spans.{decided-none, decided-more, decided-end}
use Rattle.quota.proofs.Search.parted.Goals as goal

pub loop-x-init : goal.loop-x-init
loop-x-init c = decided-none c.requires

pub narrowed-span-requires : goal.narrowed-span-requires
narrowed-span-requires c = c.loop-x.invariant.spans

pub loop-x-preserved : goal.loop-x-preserved
loop-x-preserved c = decided-more c.loop-x.invariant c.loop-x-test.true c.narrowed-span.ensures

pub returns-after-loop-x : goal.returns-after-loop-x
returns-after-loop-x c = decided-end c.loop-x.invariant (inl (omega arith))

pub returns-then-span : goal.returns-then-span
returns-then-span c = decided-end c.loop-x.invariant (inr (omega arith))
