-- `lay_unit_line` meets its contract: its parts stand one behind another.
use native.Mathlib.Omega.{arith}
use Rattle.lines.specs.Lines.{signed_decimal, spaced, line, unit_line, u8_field, u16_field, i32_field}
use Rattle.lines.proofs.Parts.{then, then-fields}
use mathlib.Core.Path.{◌≡◌}
use mathlib.Core.List.{List, [], ◌∷◌}
use Prim.Native.Nat.{ℕ, ◌+◌, ◌*◌}
use Rattle.numbers.specs.Bytes.{be32, signed32}
use Rattle.records.specs.Layouts.{unit_result_at}
use Rattle.lines.proofs.lines.lay_unit_line.Goals as goal

pub returns : goal.returns
unfolding unit_line line unit_result_at spaced
returns c =
    let a = c.args in
    let out = a.out.now in
    let i = a.at in
    let r = a.res.now in
    let f = a.from in
    let e1 : f + 4 + 4 ≡ f + 8 = omega arith in
    let e2 : f + 4 + 8 ≡ f + 12 = omega arith in
    let e3 : f + 4 + 12 ≡ f + 16 = omega arith in
    let four : List (List ℕ) = signed_decimal (signed32 (be32 r (f + 4))) ∷ signed_decimal (signed32 (be32 r (f + 8))) ∷ signed_decimal (signed32 (be32 r (f + 12))) ∷ signed_decimal (signed32 (be32 r (f + 16))) ∷ [] in
    let number = rw c.read-number.ensures at c.lay_u16_field-numbered.ensures in
    let fields = rw (c.quantities_at.ensures, e1, e2, e3) at c.lay_quantities-steps.ensures in
    let q1 = then out i 4 u16_field c.lay_word-word.result c.lay_u16_field-numbered.result (omega (arith, c.requires.1)) c.lay_word-word.ensures number in
    let q2 = then out i (4 + u16_field) u8_field c.lay_u16_field-numbered.result c.lay_u8_field-reason.result (omega (arith, c.requires.1)) q1 c.lay_u8_field-reason.ensures in
    let q3 = then-fields out i four (4 + u16_field + u8_field) (i32_field * 4) c.lay_u8_field-reason.result c.lay_quantities-steps.result (omega (arith, c.requires.1)) q2 fields in
    then out i (4 + u16_field + u8_field + i32_field * 4) 1 c.lay_quantities-steps.result c.lay_feed.result (omega (arith, c.requires.1)) q3 c.lay_feed.ensures
