-- The group's result: its marks one after another, and then its sums.
use Rattle.std.proofs.Common.{ℕ, List, [], ◌∷◌, ◌++◌, refl, arith}
use Rattle.numbers.specs.Bytes.{byte_at, be16, bytes16, bytes32}
use Rattle.numbers.proofs.Laid.{laid_next}
use Rattle.records.specs.Layouts.{behind, group_at, group_result_bytes}
use Rattle.blocks.specs.Blocks.{group_result}
use Rattle.blocks.specs.Laid.{sums_bytes}
use Rattle.blocks.proofs.lay.lay_group_result.Goals as goal

pub returns : goal.returns
unfolding group_result_bytes group_result group_at behind bytes32 bytes16
returns c =
    let l = c.args.room.now in
    let b = c.args.s.now in
    let head : List ℕ = 17 ∷ bytes16 (be16 b 1) in
    let three : List ℕ = byte_at b 3 ∷ byte_at b 4 ∷ c.args.sums.verdict ∷ [] in
    let count : List ℕ = byte_at b 5 ∷ [] in
    let e1 = rw c.read-brp.ensures at c.lay_head.ensures in
    let e2 = laid_next l 0 head 3 three e1 c.lay_three.ensures refl (omega (arith, c.requires.1)) in
    let e3 = laid_next l 0 (head ++ three) 6 count e2 c.lay.ensures refl (omega (arith, c.requires.1)) in
    laid_next l 0 (head ++ three ++ count) 7 (sums_bytes c.args.sums) e3 c.lay_sums.ensures refl (omega (arith, c.requires.1))
