-- The unit record: the body, and behind that of an 04h its ends.
use mathlib.Core.Path.{◌≡◌, refl}
use mathlib.Core.Bool.{true}
use Prim.Native.Nat.{◌+◌, ◌≤◌}
use native.Mathlib.Omega.{arith}
use lib.Dec.{eqb}
use lib.ListN.{length}
use borrow.Author.Tests.{eq-eqb, ne_eqb}
use mir.Syntax.{w32}
use mir.Val.{SFits}
use mir.Facts.{to_z-of_z}
use Rattle.numbers.specs.Bytes.{bytes16, bytes32}
use Rattle.numbers.proofs.Laid.{laid_next}
use Rattle.records.specs.Layouts.{behind, interval_kind, interval_length, unit_bytes}
use Rattle.writers.specs.Inner.{quantities, body_bytes}
use borrow.Author.Rules.{rules}
use Rattle.writers.proofs.lay.lay_unit.Goals as goal

pub returns-then-u-eq-INTERVAL_KIND : goal.returns-then-u-eq-INTERVAL_KIND
unfolding unit_bytes body_bytes quantities behind bytes32 bytes16
returns-then-u-eq-INTERVAL_KIND c =
    let u = c.args.u in
    let l = c.args.room.now in
    let i = c.args.at in
    let h = (let fits : c.args.at + interval_length ≤ length c.args.room.now = rw (let own : eqb c.args.u.kind interval_kind ≡ true = eq-eqb _ _ c.if-u-eq-INTERVAL_KIND.true in own) at c.requires in fits) in
    let fl : SFits w32 u.lower = search rules in
    let fu : SFits w32 u.upper = search rules in
    let e = laid_next l i _ _ _ c.lay_body.ensures (simp to_z-of_z at c.lay.ensures) refl (omega arith) in
    rw (let own : eqb c.args.u.kind interval_kind ≡ true = eq-eqb _ _ c.if-u-eq-INTERVAL_KIND.true in own) (laid_next l i _ _ _ e (simp to_z-of_z at c.lay-then-u-eq-INTERVAL_KIND.ensures) refl (omega arith))

pub returns-else-u-eq-INTERVAL_KIND : goal.returns-else-u-eq-INTERVAL_KIND
unfolding unit_bytes body_bytes quantities behind bytes32 bytes16
returns-else-u-eq-INTERVAL_KIND c = rw (ne_eqb _ _ c.if-u-eq-INTERVAL_KIND.false) c.lay_body.ensures
