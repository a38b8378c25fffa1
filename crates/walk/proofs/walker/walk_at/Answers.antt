-- What a walker replies after so many steps is what the walk of its bytes replies.
use Rattle.std.proofs.Common.{sym, ◌∙◌}
use Rattle.walk.specs.Stands.{opened_on}
use Rattle.walk.proofs.Ahead.{reply-ahead}
use Rattle.walk.proofs.walker.walk_at.Goals as goal

pub returns : goal.returns
returns c =
    let e = sym (reply-ahead (opened_on c.args.bytes) c.args.steps) in
    c.step.ensures ∙ rw (c.ahead.ensures, c.open-walker.ensures) e
