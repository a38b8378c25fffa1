-- `flehwella_check` meets its contract: a result is short enough for 32 bits.
use Prim.Native.Nat.{◌^◌, ◌<◌}
use Rattle.std.proofs.Common.{sym, ap, ◌∙◌}
use native.Mathlib.Omega.{arith}
use mir.Facts.{to_z-of_z, to_z_pos}
use mir.Val.{SFits, hbits}
use mir.Syntax.{w32}
use Rattle.terms.specs.Refusals.{reply}
use Rattle.desk.proofs.First.{given-lengths, given-refusal}
use Rattle.desk.proofs.flehwella_check.Goals as goal

pub returns-in-Ok : goal.returns-in-Ok
returns-in-Ok c =
    let h : c.in-Ok.lengths.written < 2 ^ hbits w32 = omega (arith, c.in-Ok.ensures.short) in
    let told = sym (ap reply c.in-Ok.is) ∙ c.check.ensures.reply in
    record { replied = to_z_pos w32 h ∙ given-lengths _ told; room = c.check.ensures.room }

pub returns-in-Err : goal.returns-in-Err
returns-in-Err c =
    let f : SFits w32 c.minus.result = record { sfits = c.minus.type_inv } in
    let told = sym (ap reply c.in-Err.is) ∙ c.check.ensures.reply in
    record { replied = simp to_z-of_z c.minus.ensures ∙ given-refusal _ _ told; room = c.check.ensures.room }
