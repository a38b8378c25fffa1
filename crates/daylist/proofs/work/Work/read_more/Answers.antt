-- The run goes by what the read answered.
use Rattle.daylist.proofs.Filling.{read-answered}
use Rattle.daylist.proofs.work.Work.read_more.Goals as goal

pub returns : goal.returns
returns g c = (read-answered c.read-got.result c.read-got.ensures.bound c.read_gave.ensures.0, c.read_gave.ensures.1)
