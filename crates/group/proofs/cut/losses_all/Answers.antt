-- `losses_all` meets its contract: without an excess nobody loses anything.
use mathlib.Core.Path.{◌≡◌, sym, ap, ◌∙◌}
use lib.IntN.{pos}
use lib.ListN.{length}
use mir.Syntax.{w32}
use mir.Facts.{to_z-of_z}
use Rattle.numbers.proofs.Columns.{column-length}
use Rattle.numbers.proofs.Integers.{of_z-inj, zero-fits}
use Rattle.group.proofs.Uncut.{losses-none}
use Rattle.group.proofs.cut.losses_all.Goals as goal

pub losses_into-requires : goal.losses_into-requires
losses_into-requires c = record { bearable = rw (to_z-of_z c.ranges.e) c.requires.0; losses_len = ap length c.requires.1 ∙ column-length _ _ }

pub returns-else-e-ne0 : goal.returns-else-e-ne0
returns-else-e-ne0 c =
    let z : c.args.e ≡ pos 0 = of_z-inj w32 c.args.e (pos 0) c.ranges.e (zero-fits w32) c.if-e-ne0.false in
    rw z (c.requires.1 ∙ sym (losses-none c.args.n1.now c.args.class.now))
