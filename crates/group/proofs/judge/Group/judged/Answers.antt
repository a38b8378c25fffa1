use Rattle.group.proofs.Explaining.{zeros-taken}
use Rattle.group.proofs.judge.Group.judged.Goals as goal

pub judged_through-requires : goal.judged_through-requires
judged_through-requires c =
    let z = zeros-taken _ 64 c.args.self.now.judged.few in
    record { n1_len = c.requires.n1_len; n2_len = c.requires.n2_len; losses_value = (z, z) }
