-- The end by the first byte.
use borrow.Author.Tests.{eq-eqb, ne_eqb}
use Rattle.records.specs.Layouts.{unit_at}
use Rattle.records.proofs.unit.unit_end.Goals as goal

pub returns-then-s-at-eq-INTERVAL_KIND : goal.returns-then-s-at-eq-INTERVAL_KIND
unfolding unit_at
returns-then-s-at-eq-INTERVAL_KIND c = rw (eq-eqb _ _ c.if-s-at-eq-INTERVAL_KIND.true)

pub returns : goal.returns
unfolding unit_at
returns c = rw (ne_eqb _ _ c.if-s-at-eq-INTERVAL_KIND.false)
