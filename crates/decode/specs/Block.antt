-- A block is one group record and its units.
use Rattle.std.specs.Prelude.{ℕ, List}
use Rattle.records.specs.Layouts.{group_at}

-- how many units it has
abbrev pub block_count : List ℕ → ℕ
block_count s = (group_at s 0).count
