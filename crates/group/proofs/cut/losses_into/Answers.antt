use Rattle.std.proofs.Common.{◌≡◌, ◌∙◌, nat_abs, w32}
use Rattle.std.proofs.lemmas.Int.{to_z-of_z}
use Rattle.group.specs.Steps.{direction_of}
use Rattle.group.proofs.Through.{through-asked, through-own, through-all, through-part}
use Rattle.group.proofs.cut.losses_into.Goals as goal

pub cut-requires : goal.cut-requires
cut-requires c =
    let d : c.direction-d.result ≡ direction_of c.args.e = simp (to_z-of_z w32 c.args.e c.ranges.e) at c.direction-d.ensures in
    let m : c.unsigned_abs.result ≡ nat_abs c.args.e = simp (to_z-of_z w32 c.args.e c.ranges.e) at c.unsigned_abs.ensures.value in
    let o = c.share_out-shared.ensures in
    (through-asked c.requires.bearable d m o, through-own c.requires.bearable d m o, c.requires.bearable.classed.small)

pub returns-in-Enabled : goal.returns-in-Enabled
returns-in-Enabled c =
    let d : c.direction-d.result ≡ direction_of c.args.e = simp (to_z-of_z w32 c.args.e c.ranges.e) at c.direction-d.ensures in
    let m : c.unsigned_abs.result ≡ nat_abs c.args.e = simp (to_z-of_z w32 c.args.e c.ranges.e) at c.unsigned_abs.ensures.value in
    c.lose_all.ensures ∙ through-all c.requires.bearable d m c.share_out-shared.ensures c.cut.ensures c.in-Enabled.is

pub returns-in_default : goal.returns-in_default
returns-in_default c =
    let d : c.direction-d.result ≡ direction_of c.args.e = simp (to_z-of_z w32 c.args.e c.ranges.e) at c.direction-d.ensures in
    let m : c.unsigned_abs.result ≡ nat_abs c.args.e = simp (to_z-of_z w32 c.args.e c.ranges.e) at c.unsigned_abs.ensures.value in
    through-part c.requires.bearable d m c.share_out-shared.ensures c.cut.ensures c.in_default.is
