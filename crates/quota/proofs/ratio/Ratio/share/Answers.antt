use Rattle.std.proofs.Common.{arith}
use Rattle.quota.proofs.Ratios.{near_le, near-lt, is_whole, is-less}
use Rattle.quota.proofs.ratio.Ratio.share.Goals as goal

pub overflow_sub-rest : goal.overflow_sub-rest
overflow_sub-rest c = near_le c.args.self c.requires

pub overflow_cast-rest-5 : goal.overflow_cast-rest-5
overflow_cast-rest-5 c = omega (arith, near-lt c.args.self c.requires, c.args.self.rate.few)

pub returns-then-rest-self : goal.returns-then-rest-self
returns-then-rest-self c = is_whole c.args.self c.requires c.if-rest-self.true

pub returns-else-rest-self : goal.returns-else-rest-self
returns-else-rest-self c = is-less c.args.self c.requires c.if-rest-self.false
