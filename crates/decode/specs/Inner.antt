-- What inner functions ask of each other: no promise rests on it.
use Rattle.std.specs.Prelude.{ℕ, ◌-◌, ◌*◌, ◌≤◌, ◌<◌, ◌≡◌, Bool, true, false, List, ◌++◌, ℤ, length, set, drop, Option, Some, None}
use Rattle.numbers.specs.Range.{Within}
use Rattle.numbers.specs.Sum.{sum_z, bit}
use Rattle.terms.specs.Reply.{Reply, is}
use Rattle.terms.specs.Checks.{most_units}
use Rattle.group.specs.Inner.{faults_of}
use Rattle.records.specs.declared.day.DayRecord.{DayRecord}
use Rattle.records.specs.declared.unit.UnitRecord.{UnitRecord}
use Rattle.records.specs.Layouts.{group_length, margins_of, unit_at}
use Rattle.records.specs.Reading.{unit_place, unit_in, units_of}
use Rattle.records.specs.Decoding.{unit_n0, unit_implicit, classes_in, taken_in, n0_in, pc_in, step_down_in, step_up_in}
use Rattle.records.specs.Inner.{is_whole, marks_pass}
use Rattle.decode.specs.declared.Reading.{Reading}
use Rattle.decode.specs.Block.{block_count}

-- a block whose group record is there, of at most 64 units
pub record Begun (s : List ℕ) : Type 0 where
  pub long : group_length ≤ length s
  pub few : block_count s ≤ most_units

-- a block whose units passed, judged by some day record
pub record Passed (s : List ℕ) : Type 0 where
  pub day : DayRecord
  pub end : ℕ
  pub long : group_length ≤ length s
  pub few : block_count s ≤ most_units
  pub units : units_of s group_length 0 day (block_count s) ≡ is end

-- columns of exactly so many entries
pub record UnitRoom (count : ℕ) (class taken : List ℕ) (n0 down up : List ℤ) : Type 0 where
  pub classes : length class ≡ count
  pub marks : length taken ≡ count
  pub starts : length n0 ≡ count
  pub downs : length down ≡ count
  pub ups : length up ≡ count

-- whether a unit passes in all but the range of N and its working margins, and its entries where it does
pub record TakenIn (u : UnitRecord) (floor : ℕ) (day : DayRecord) (i : ℕ) (r : Bool) (class₀ taken₀ : List ℕ) (n0₀ down₀ up₀ : List ℤ) (class taken : List ℕ) (n0 down up : List ℤ) : Type 0 where
  pub told : r ≡ marks_pass u floor day
  pub classes : r ≡ true → class ≡ set class₀ i u.class
  pub marks : r ≡ true → taken ≡ set taken₀ i (bit (unit_implicit u))
  pub starts : r ≡ true → n0 ≡ set n0₀ i (unit_n0 u)
  pub downs : r ≡ true → down ≡ set down₀ i (margins_of u).step_down
  pub ups : r ≡ true → up ≡ set up₀ i (margins_of u).step_up

-- they are those of a block's units, and p is its position
pub record Decoded (s : List ℕ) (p : ℤ) (class taken : List ℕ) (n0 down up : List ℤ) : Type 0 where
  pub sold : p ≡ sum_z (pc_in s (block_count s))
  pub classes : class ≡ classes_in s (block_count s)
  pub marks : taken ≡ taken_in s (block_count s)
  pub starts : n0 ≡ n0_in s (block_count s)
  pub downs : down ≡ step_down_in s (block_count s)
  pub ups : up ≡ step_up_in s (block_count s)

-- nomination and margins of the unit of an index pass
abbrev pub Amounts : List ℕ → ℕ → Type 0
Amounts s i = faults_of (unit_n0 (unit_in s i)) (margins_of (unit_in s i)) ≡ 0

-- the units of a block, judged by a day record
abbrev pub units_at : List ℕ → DayRecord → Reply ℕ
units_at s day = units_of s group_length 0 day (block_count s)

-- the units in front of one that is left are read into the columns; where no nomination and no margins of theirs fail, the units from that one on are all that is to be read
pub record ReadTo (s : List ℕ) (day : DayRecord) (class taken : List ℕ) (n0 down up : List ℤ) (here floor : ℕ) (p : ℤ) (i : ℕ) : Type 0 where
  pub begun : Begun s
  pub within : i < block_count s
  pub place : here ≡ unit_place s i
  pub left : ((j : ℕ) → j < i → Amounts s j) → units_at s day ≡ units_of s here floor day (block_count s - i)
  pub sold : p ≡ sum_z (pc_in s i)
  pub small : Within (i * 1000000) (sum_z (pc_in s i))
  pub room : UnitRoom (block_count s) class taken n0 down up
  pub classes : class ≡ classes_in s i ++ drop i class
  pub marks : taken ≡ taken_in s i ++ drop i taken
  pub starts : n0 ≡ n0_in s i ++ drop i n0
  pub downs : down ≡ step_down_in s i ++ drop i down
  pub ups : up ≡ step_up_in s i ++ drop i up

-- the unit record at a place, or that none lies there whole
abbrev pub UnitOn : List ℕ → ℕ → Option UnitRecord → Type 0
UnitOn s here (Some u) = (unit_at s here ≡ u) × (is_whole s here ≡ true)
UnitOn s here None = is_whole s here ≡ false

-- units read without a look at nominations and margins: where these pass too the block's units do; a reading that was broken off says that they do not
pub record UnitsRead (s : List ℕ) (day : DayRecord) (r : Option Reading) (class taken : List ℕ) (n0 down up : List ℤ) : Type 0 where
  pub decoded : (read : Reading) → r ≡ Some read → Decoded s read.p.0 class taken n0 down up
  pub ends : (read : Reading) → r ≡ Some read → ((i : ℕ) → i < block_count s → Amounts s i) → units_at s day ≡ is read.end
  pub fails : r ≡ None → (end : ℕ) → units_at s day ≡ is end → ⊥

-- units read with a look at all: they pass, or one of them does not
pub record UnitsPassed (s : List ℕ) (day : DayRecord) (r : Option Reading) (class taken : List ℕ) (n0 down up : List ℤ) : Type 0 where
  pub decoded : (read : Reading) → r ≡ Some read → Decoded s read.p.0 class taken n0 down up
  pub ends : (read : Reading) → r ≡ Some read → units_at s day ≡ is read.end
  pub fails : r ≡ None → (end : ℕ) → units_at s day ≡ is end → ⊥
