-- What the round trips speak of: the values that bytes hold by the layouts, and what a day asks of a block beyond what a writer does.
use Rattle.std.specs.Prelude.{ℕ, ◌<◌, ◌≡◌, true, List, Option}
use Rattle.std.specs.Int.{w32}
use Rattle.std.proofs.Common.{SFits}
use Rattle.records.specs.declared.key.Key.{Key}
use Rattle.records.specs.declared.day.DayRecord.{DayRecord}
use Rattle.records.specs.declared.group.GroupRecord.{GroupRecord}
use Rattle.records.specs.declared.group_result.GroupResult.{GroupResult}
use Rattle.records.specs.declared.unit_result.UnitResult.{UnitResult}
use Rattle.records.specs.Layouts.{group_at}
use Rattle.records.specs.Reading.{aged, follows, key_of, unit_in}
use Rattle.writers.specs.Columns.{Columns, row_of, count}
use Rattle.writers.specs.Results.{Results, result_of}

-- the bytes hold, by the layouts, this group record and a unit for each row of the columns
pub record Values (g : GroupRecord) (c : Columns) (s : List ℕ) : Type 0 where
  pub group : group_at s 0 ≡ g
  pub unit : (i : ℕ) → i < count c → unit_in s i ≡ row_of c i

-- a day takes the group next: what the group's checks ask of the day
pub record Joins (g : GroupRecord) (day : DayRecord) (last : Option Key) : Type 0 where
  pub early : g.quarter < day.quarters
  pub above : follows last (key_of g) ≡ true
  pub fresh : aged day.run g.made day.position_limit ≡ true

-- the margins of each unit are of an age that the day takes
pub record Fresh (c : Columns) (day : DayRecord) : Type 0 where
  pub each : (i : ℕ) → i < count c → aged day.run (row_of c i).made day.margin_limit ≡ true

-- ---- results whose signed values a machine's 32 bits hold
pub record HeldGroupResult (g : GroupResult) : Type 0 where
  pub p : SFits w32 g.p.0
  pub s1 : SFits w32 g.s1.0
  pub s2 : SFits w32 g.s2.0
  pub s3 : SFits w32 g.s3.0
  pub balance : SFits w32 g.balance.0

pub record HeldUnitResult (u : UnitResult) : Type 0 where
  pub n0 : SFits w32 u.n0.0
  pub n1 : SFits w32 u.n1.0
  pub n2 : SFits w32 u.n2.0
  pub n3 : SFits w32 u.n3.0

pub record HeldResults (g : GroupResult) (r : Results) : Type 0 where
  pub group : HeldGroupResult g
  pub unit : (i : ℕ) → i < g.count → HeldUnitResult (result_of r i)
