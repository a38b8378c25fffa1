-- Each field is read by its layout, which is known once the field is.
use Rattle.std.proofs.Common.{rules}
use Rattle.finding.proofs.record.Record.value.Goals as goal

pub returns-in-Kind : goal.returns-in-Kind
returns-in-Kind c = rw c.in-Kind.is (search rules)

pub returns-in-Quarters : goal.returns-in-Quarters
returns-in-Quarters c = rw c.in-Quarters.is (search rules)

pub returns-in-Quarter : goal.returns-in-Quarter
returns-in-Quarter c = rw c.in-Quarter.is (search rules)

pub returns-in-UnitCount : goal.returns-in-UnitCount
returns-in-UnitCount c = rw c.in-UnitCount.is (search rules)

pub returns-in-PositionsMade : goal.returns-in-PositionsMade
returns-in-PositionsMade c = rw c.in-PositionsMade.is (search rules)

pub returns-in-Groups : goal.returns-in-Groups
returns-in-Groups c = rw c.in-Groups.is (search rules)
