-- The loop that lays the units' results: they lie one after another in the room, each from the unit that stands at its place in the block.
use Prim.Native.Nat.{ℕ, ◌+◌, ◌≤◌, ◌<◌}
use mathlib.Core.Path.{◌≡◌, refl, sym, ap, ◌∙◌}
use mathlib.Core.Bool.{true}
use mathlib.Core.List.{List}
use native.Mathlib.Numerals.{add-one}
use native.Mathlib.Omega.{arith}
use lib.ListN.{length}
use Rattle.numbers.specs.Bytes.{laid_at}
use Rattle.records.specs.Layouts.{group_length, group_result_length, unit_result_length, unit_result_bytes}
use Rattle.records.specs.Reading.{unit_end, place_from, unit_place}
use Rattle.records.specs.Inner.{is_whole}
use Rattle.records.proofs.UnitHeads.{whole_long}
use Rattle.writers.proofs.Lengths.{length-unit-result}
use Rattle.writers.proofs.Runs as runs
use Rattle.blocks.specs.declared.columns.UnitColumns.{UnitColumns}
use Rattle.blocks.specs.Laid.{unit_laid, units_laid}
use Rattle.blocks.specs.Inner.{UnitLaying, Laying}

module _ (s : List ℕ) (c : UnitColumns) where
  -- the bytes of the result of the unit of an index
  abbrev result_at : ℕ → List ℕ
  result_at i = unit_result_bytes (unit_laid s (unit_place s i) c i)

  abbrev count : ℕ
  count = length c.n0.now

  each : (i : ℕ) → length (result_at i) ≡ unit_result_length
  each i = length-unit-result (unit_laid s (unit_place s i) c i)

  pub record Going (entry room : List ℕ) (here to i : ℕ) : Type 0 where
    pub laid : runs.Going result_at count group_result_length entry room to i
    pub place : here ≡ unit_place s i

  module _ (entry : List ℕ) (p : Laying s count entry) where
    pub starts : Going entry entry group_length group_result_length 0
    unfolding place_from
    starts =
        let whole = runs.length_run result_at unit_result_length each count in
        record { laid = runs.start result_at count group_result_length entry (omega (arith, p.enough)); place = refl }

    module _ {room : List ℕ} {here to i : ℕ} (g : Going entry room here to i) where
      pub lies : i < count → is_whole s here ≡ true
      lies l = rw g.place (p.there i l)

      pub there : i < count → UnitLaying i count s here room to
      there l =
          record {
            below = l;
            bytes = whole_long s here (lies l);
            enough = omega (arith, runs.next_fits result_at count group_result_length entry i g.laid l, each i);
          }

      -- the next unit begins where this one ends
      pub turns : {next : List ℕ} {end : ℕ} → i < count → end ≡ unit_end s here
          → next ≡ laid_at room to (unit_result_bytes (unit_laid s here c i))
          → Going entry next end (to + unit_result_length) (i + 1)
      unfolding place_from
      turns l f e =
          record {
            laid = rw (each i) at (runs.turn result_at count group_result_length entry i g.laid l (rw g.place at e));
            place = f ∙ ap (unit_end s) g.place ∙ ap (place_from s group_length) (sym (add-one i));
          }

      pub ends : count ≤ i → room ≡ laid_at entry group_result_length (units_laid s c)
      unfolding units_laid
      ends h = runs.end result_at count group_result_length entry i g.laid h
