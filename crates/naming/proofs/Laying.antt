-- Parts of a line: a part behind another.
use Rattle.std.proofs.Common.{length-append}
use Rattle.numbers.proofs.Laid.{laid_more}

-- parts one behind another are one part
pub ruleset laying = (laid_more, length-append)
