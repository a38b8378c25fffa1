-- What inner functions ask of each other: no promise rests on it.
use Rattle.std.specs.Prelude.{ℕ, ◌≤◌, ◌≡◌, List, Option}
use Rattle.finding.specs.declared.spot.UnitSpot.{UnitSpot}
use Rattle.finding.specs.Near.{Near}
use Rattle.finding.specs.Spots.{spot_of, record_at, before_at}

-- where a place lies: in a record that begins at the place or in front of it, and near
pub record Spotted (s : List ℕ) (place : ℕ) (r : Option UnitSpot) : Type 0 where
  pub is : r ≡ spot_of s place
  pub within : record_at r ≤ place
  pub near : Near (record_at r)
  pub before : Near (before_at r)
