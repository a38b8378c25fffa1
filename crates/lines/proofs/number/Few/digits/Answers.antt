-- `digits` meets its contract: each comparison counts one digit more.
use Rattle.lines.proofs.Pairs.{few-count}
use Rattle.lines.proofs.number.Few.digits.Goals as goal

pub returns : goal.returns
returns c =
    let f = c.args.self in
    few-count f.n f.few
