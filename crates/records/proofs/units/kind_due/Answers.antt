-- By the first byte, and 03h where there is none.
use lib.ListN.{get_or-eq_default}
use borrow.Author.Tests.{eq-eqb, ne_eqb}
use Rattle.records.specs.Layouts.{unit_at}
use Rattle.records.proofs.units.kind_due.Goals as goal

pub returns-then-s-at : goal.returns-then-s-at
unfolding unit_at
returns-then-s-at c = rw (get_or-eq_default c.args.s.now 0 {n = c.args.at} c.if-s-at.true)

pub returns-then-s-at-eq-INTERVAL_KIND : goal.returns-then-s-at-eq-INTERVAL_KIND
unfolding unit_at
returns-then-s-at-eq-INTERVAL_KIND c = rw (eq-eqb _ _ c.if-s-at-eq-INTERVAL_KIND.true)

pub returns : goal.returns
unfolding unit_at
returns c = rw (ne_eqb _ _ c.if-s-at-eq-INTERVAL_KIND.false)
