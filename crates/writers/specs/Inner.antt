-- What inner functions ask of each other: no promise rests on it.
use Rattle.std.specs.Prelude.{◌≡◌, ℕ, ◌+◌, List, [], ◌∷◌, ◌++◌, length, ℤ}
use Rattle.numbers.specs.Bytes.{bytes16, bytes32, bits32}
use Rattle.records.specs.declared.unit.UnitRecord.{UnitRecord}
use Rattle.records.specs.Layouts.{u8, u16, i32, size}
use Rattle.writers.specs.Columns.{Columns, count}

-- columns of one length
pub record Level (c : Columns) : Type 0 where
  pub classes : length c.class ≡ count c
  pub coincidences : length c.coincide ≡ count c
  pub nominations : length c.nominated ≡ count c
  pub ns : length c.n ≡ count c
  pub pcs : length c.pc ≡ count c
  pub downs : length c.step_down ≡ count c
  pub ups : length c.step-up ≡ count c
  pub minutes : length c.made ≡ count c
  pub kinds : length c.kind ≡ count c
  pub lowers : length c.lower ≡ count c
  pub uppers : length c.upper ≡ count c

-- how many bytes parts of a record have: a kind and a number, three fields of a byte each, four of signed kWh
abbrev pub head_length : ℕ
head_length = size u8 + size u16

abbrev pub three_length : ℕ
three_length = size u8 + size u8 + size u8

abbrev pub four_length : ℕ
four_length = size i32 + size i32 + size i32 + size i32

-- four fields of signed kWh
unfoldable pub quantities : ℤ → ℤ → ℤ → ℤ → List ℕ
quantities a b c d = bytes32 (bits32 a) ++ bytes32 (bits32 b) ++ bytes32 (bits32 c) ++ bytes32 (bits32 d)

-- the body of a unit record, behind the kind that it has
unfoldable pub body_bytes : UnitRecord → List ℕ
body_bytes u =
    (u.kind ∷ bytes16 u.number) ++ (u.class ∷ u.coincide ∷ u.nominated ∷ []) ++ quantities u.n.0 u.pc.0 u.step_down u.step_up ++ bytes32 u.made
