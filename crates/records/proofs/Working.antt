-- The working margins of a unit that passed, be it a 03h or an 04h: the larger of M- and the lower end and the smaller of M+ and the upper end, which lie inside both.
use Rattle.std.specs.Prelude.{Ok}
use Prim.Native.Nat.{ℕ}
use mathlib.Core.Path.{◌≡◌, refl}
use mathlib.Core.Bool.{Bool, true, false, ◌&&◌, ◌||◌}
use lib.Dec.{eqb}
use lib.IntN.{ℤ}
use lib.Signed.{le_z}
use Rattle.numbers.specs.Choice.{pick, eq_z}
use Rattle.numbers.specs.Range.{Within}
use Rattle.numbers.proofs.Choices.{and_both}
use Rattle.numbers.proofs.Integers.{zarith}
use Rattle.records.specs.declared.unit.UnitRecord.{UnitRecord}
use Rattle.records.specs.Layouts.{interval_kind, full_lower, full_upper, larger_of, smaller_of, margins_of}
use Rattle.records.specs.Decoding.{Inside}
use Rattle.records.specs.Reading.{value_faults}
use Rattle.records.proofs.Accepted.{Sound, sound}
use Rattle.records.proofs.Marks.{equal}

-- a quantity in its range is no smaller than the full lower end, and no larger than the upper
larger-full : (z : ℤ) → Within 1000000 z → (t : Bool) → le_z z full_lower ≡ t → z ≡ pick t full_lower z
larger-full z h true e = omega zarith
larger-full z h false e = refl

smaller-full : (z : ℤ) → Within 1000000 z → (t : Bool) → le_z z full_upper ≡ t → z ≡ pick t z full_upper
smaller-full z h true e = refl
smaller-full z h false e = omega zarith

module _ (u : UnitRecord) (s : Sound u) where
  narrower : ((margins_of u).step_down ≡ larger_of u.step_down u.lower) × ((margins_of u).step_up ≡ smaller_of u.step_up u.upper)
  narrower = go (eqb u.kind interval_kind) s.fit
    where
      go : (own : Bool) → own || (eq_z u.lower full_lower && eq_z u.upper full_upper) ≡ true
          → (pick own (larger_of u.step_down u.lower) u.step_down ≡ larger_of u.step_down u.lower)
          × (pick own (smaller_of u.step_up u.upper) u.step_up ≡ smaller_of u.step_up u.upper)
      go true fit = (refl, refl)
      go false fit =
          let b = and_both (eq_z u.lower full_lower) (eq_z u.upper full_upper) fit in
          let l = equal u.lower full_lower b.0 in
          let h = equal u.upper full_upper b.1 in
          (rw l (larger-full u.step_down s.down _ refl), rw h (smaller-full u.step_up s.up _ refl))

  -- what lies inside them lies inside the margins and inside the interval
  pub inside : (z : ℤ) → le_z (margins_of u).step_down z ≡ true → le_z z (margins_of u).step_up ≡ true → Inside u z
  inside z low high =
      let w = narrower in
      let a = above u.step_down u.lower z _ refl (rw w.0 at low) in
      let b = below u.step_up u.upper z _ refl (rw w.1 at high) in
      record { down = a.0; up = b.0; lower = a.1; upper = b.1 }
    where
      above : (x y z : ℤ) (t : Bool) → le_z x y ≡ t → le_z (pick t y x) z ≡ true → (le_z x z ≡ true) × (le_z y z ≡ true)
      above x y z true e h = (omega zarith, h)
      above x y z false e h = (h, omega zarith)

      below : (x y z : ℤ) (t : Bool) → le_z x y ≡ t → le_z z (pick t x y) ≡ true → (le_z z x ≡ true) × (le_z z y ≡ true)
      below x y z true e h = (h, omega zarith)
      below x y z false e h = (omega zarith, h)

-- of every unit that passes
pub margins-working : (u : UnitRecord) (floor : ℕ) → value_faults u floor ≡ Ok tt
    → ((margins_of u).step_down ≡ larger_of u.step_down u.lower) × ((margins_of u).step_up ≡ smaller_of u.step_up u.upper)
margins-working u floor e = narrower u (sound u floor e)
