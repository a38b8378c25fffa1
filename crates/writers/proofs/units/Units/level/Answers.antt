-- Columns are even where their lengths are the same, and then level.
use Rattle.std.proofs.Common.{refl, sym, ◌∙◌}
use Rattle.writers.specs.Columns.{even}
use Rattle.writers.proofs.Accepted.{all_same, even_level}
use Rattle.writers.proofs.units.Units.level.Goals as goal

pub returns-then-not-are_same : goal.returns-then-not-are_same
unfolding even
returns-then-not-are_same c = (refl, sym (all_same _ _) ∙ sym c.are_same.ensures ∙ c.if-not-are_same.true)

pub invariant_of-result : goal.invariant_of-result
unfolding even
invariant_of-result c = record { level = even_level _ (sym (all_same _ _) ∙ sym c.are_same.ensures ∙ c.if-not-are_same.false) }
