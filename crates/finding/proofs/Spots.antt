-- Where a place lies, found by a walk over the unit records: what is left of the walk tells what the whole of it does.
use Prim.Native.Nat.{ℕ, suc, ◌+◌, ◌*◌, ◌-◌, ◌≤◌, ◌<◌}
use mathlib.Core.Path.{◌≡◌, ap, ◌∙◌}
use mathlib.Core.Bool.{true, false}
use mathlib.Core.List.{List}
use native.Mathlib.Omega.{arith}
use lib.ListN.{length}
use borrow.Author.Tests.{leb-true, lt-ltb, le-ltb, le-leb, lt-leb}
use Rattle.numbers.specs.Bytes.{byte_at}
use Rattle.numbers.proofs.Choices.{and_both}
use Rattle.records.specs.Layouts.{group_length, group_at, longest_unit}
use Rattle.records.specs.Reading.{unit_end}
use Rattle.records.proofs.UnitHeads.{unit-past, unit-most}
use Rattle.std.specs.Prelude.{Option, Some, None}
use Rattle.finding.specs.declared.spot.UnitSpot.{UnitSpot}
use Rattle.finding.specs.Spots.{group_whole, spot_from, spot_of}
use Rattle.finding.specs.Inner.{Spotted}

abbrev pub whole : List ℕ → ℕ → ℕ → Option UnitSpot
whole s place count = spot_from s place 0 group_length group_length count

-- a walk that passed so many unit records stands at the next
pub record Walking (s : List ℕ) (place count before at index : ℕ) : Type 0 where
  pub within : index ≤ count
  pub so : whole s place count ≡ spot_from s place index at before (count - index)
  pub low : at ≤ place
  pub near : at ≤ group_length + longest_unit * index
  pub back : before ≤ at

module _ (s : List ℕ) (place count : ℕ) where
  pub start : group_length ≤ place → Walking s place count group_length group_length 0
  start h =
      let all : count - 0 ≡ count = omega arith in
      record { within = omega arith; so = rw all; low = h; near = omega arith; back = omega arith }

  module _ (before at index : ℕ) (w : Walking s place count before at index) where
    one : index < count → count - index ≡ suc (count - (index + 1))
    one h = omega arith

    pub turn : index < count → unit_end s at ≤ place → Walking s place count at (unit_end s at) (index + 1)
    unfolding spot_from
    turn h l =
        let e : whole s place count ≡ spot_from s place index at before (suc (count - (index + 1))) = w.so ∙ ap (spot_from s place index at before) (one h) in
        record {
          within = omega arith;
          so = e ∙ rw (le-ltb place (unit_end s at) l);
          low = l;
          near = omega (arith, w.near, unit-most s at);
          back = omega (arith, unit-past s at);
        }

    pub found : index < count → place < unit_end s at → whole s place count ≡ Some (record { index = index; at = at; before = before })
    unfolding spot_from
    found h l =
        let e : whole s place count ≡ spot_from s place index at before (suc (count - (index + 1))) = w.so ∙ ap (spot_from s place index at before) (one h) in
        e ∙ rw (lt-ltb place (unit_end s at) l)

    pub none : count ≤ index → whole s place count ≡ None
    unfolding spot_from
    none h =
        let e : count - index ≡ 0 = omega arith in
        w.so ∙ ap (spot_from s place index at before) e

pub long : (s : List ℕ) → group_whole s ≡ true → group_length ≤ length s
long s g = leb-true _ _ (and_both _ _ g).0

-- the whole search: in a block behind the group record, and nowhere else
module _ (s : List ℕ) (place : ℕ) where
  pub inside : group_whole s ≡ true → group_length ≤ place → spot_of s place ≡ whole s place (byte_at s 5)
  unfolding spot_of group_at
  inside g h = simp (g, le-leb group_length place h)

  pub no-group : group_whole s ≡ false → spot_of s place ≡ None
  unfolding spot_of
  no-group g = simp g

  pub in-front : group_whole s ≡ true → place < group_length → spot_of s place ≡ None
  unfolding spot_of
  in-front g h = simp (g, lt-leb group_length place h)

  -- the front record begins at 0
  pub front : spot_of s place ≡ None → Spotted s place None
  front e = record { is = rw e; within = omega arith; near = omega arith; before = omega arith }

  -- a unit record begins near, as a group record counts no more than a byte can
  pub unit : (count before at index : ℕ) → count < 256 → index < count → Walking s place count before at index
      → spot_of s place ≡ Some (record { index = index; at = at; before = before }) → Spotted s place (Some (record { index = index; at = at; before = before }))
  unit count before at index few h w e =
      record { is = rw e; within = w.low; near = omega (arith, w.near); before = omega (arith, w.near, w.back) }
