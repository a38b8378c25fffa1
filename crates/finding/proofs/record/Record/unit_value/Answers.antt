-- Each field is read by its layout, which is known once the field is.
use Rattle.std.proofs.Common.{rules}
use Rattle.finding.proofs.record.Record.unit_value.Goals as goal

pub returns-in-Number : goal.returns-in-Number
returns-in-Number c = rw c.in-Number.is (search rules)

pub returns-in-Class : goal.returns-in-Class
returns-in-Class c = rw c.in-Class.is (search rules)

pub returns-in-Coincide : goal.returns-in-Coincide
returns-in-Coincide c = rw c.in-Coincide.is (search rules)

pub returns-in-Nominated : goal.returns-in-Nominated
returns-in-Nominated c = rw c.in-Nominated.is (search rules)

pub returns-in-N : goal.returns-in-N
returns-in-N c = rw c.in-N.is (search rules)

pub returns-in-Pc : goal.returns-in-Pc
returns-in-Pc c = rw c.in-Pc.is (search rules)

pub returns-in-StepDown : goal.returns-in-StepDown
returns-in-StepDown c = rw c.in-StepDown.is (search rules)

pub returns-in-StepUp : goal.returns-in-StepUp
returns-in-StepUp c = rw c.in-StepUp.is (search rules)

pub returns-in-Made : goal.returns-in-Made
returns-in-Made c = rw c.in-Made.is (search rules)

pub returns-in-Lower : goal.returns-in-Lower
returns-in-Lower c = rw c.in-Lower.is (search rules)

pub returns-in-Upper : goal.returns-in-Upper
returns-in-Upper c = rw c.in-Upper.is (search rules)
