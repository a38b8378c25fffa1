-- What inner functions ask of each other: no promise rests on it.
use Rattle.std.specs.Prelude.{◌≤◌}
use Rattle.daylist.specs.declared.work.Work.{Work}

-- what the program keeps while it lists, places in its two buffers of 65,536 bytes: the bytes at hand lie in the one, and the lines that wait in the other
pub record Places (w : Work) : Type 0 where
  pub order : w.from ≤ w.end
  pub hand : w.end ≤ 65536
  pub lines : w.full ≤ 65536
