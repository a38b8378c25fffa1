-- `lay_group_line` meets its contract: its parts stand one behind another.
use native.Mathlib.Omega.{arith}
use Rattle.lines.specs.Lines.{signed_decimal, spaced, line, group_line, i32_field, longest_group_front}
use Rattle.lines.proofs.Parts.{then, then-fields}
use mathlib.Core.Path.{◌≡◌}
use mathlib.Core.List.{List, [], ◌∷◌}
use Prim.Native.Nat.{ℕ, ◌+◌, ◌*◌}
use mir.Syntax.{w32}
use mir.Val.{SFits}
use mir.Facts.{to_z-of_z}
use Rattle.numbers.specs.Bytes.{be32, signed32}
use Rattle.records.specs.Layouts.{result_p, result_s1, result_s2, result_s3, result_balance, group_result_at}
use Rattle.lines.proofs.lines.lay_group_line.Goals as goal

pub returns : goal.returns
unfolding group_line line group_result_at spaced
returns c =
    let a = c.args in
    let out = a.out.now in
    let i = a.at in
    let r = a.res.now in
    let e : c.read-balance.result ≡ signed32 (be32 r result_balance.place) = c.read-balance.ensures in
    let h : SFits w32 c.read-balance.result = record { sfits = c.read-balance.type_inv } in
    let four : List (List ℕ) = signed_decimal (signed32 (be32 r result_p.place)) ∷ signed_decimal (signed32 (be32 r result_s1.place)) ∷ signed_decimal (signed32 (be32 r result_s2.place)) ∷ signed_decimal (signed32 (be32 r result_s3.place)) ∷ [] in
    let balance = rw (to_z-of_z h, e) at c.lay_i32_field-balanced.ensures in
    let fields = then-fields out i four longest_group_front (i32_field * 4) c.lay_group_front-front.result c.lay_each-sums.result (omega (arith, c.requires.1)) c.lay_group_front-front.ensures (rw c.quantities_at.ensures at c.lay_each-sums.ensures) in
    let all = then out i (longest_group_front + i32_field * 4) i32_field c.lay_each-sums.result c.lay_i32_field-balanced.result (omega (arith, c.requires.1)) fields balance in
    then out i (longest_group_front + i32_field * 5) 1 c.lay_i32_field-balanced.result c.lay_feed.result (omega (arith, c.requires.1)) all c.lay_feed.ensures
