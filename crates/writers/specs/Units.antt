-- The columns that a writer's units are, as lists.
use Rattle.writers.specs.declared.units.Units.{Units}
use Rattle.writers.specs.Columns.{Columns, columns}

abbrev pub listed : Units → Columns
listed u =
    columns u.number.now u.class.now u.coincide.now u.nominated.now u.n.now u.pc.now u.step_down.now u.step_up.now u.made.now u.kind.now u.lower.now u.upper.now
