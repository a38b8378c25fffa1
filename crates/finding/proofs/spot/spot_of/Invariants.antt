use Rattle.finding.proofs.Spots.{Walking}
use Rattle.finding.proofs.spot.spot_of.Given as goal

abbrev pub invariant-loop-index : goal.invariant-loop-index
invariant-loop-index l = Walking l.s l.place l.index-end l.before l.at l.index
