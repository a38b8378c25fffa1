-- What inner functions ask of a place: no promise rests on it.
use Rattle.std.specs.Prelude.{ℕ, ◌≤◌}

-- no record of a block begins so far behind
abbrev pub Near : ℕ → Type 0
Near at = at ≤ 10000
