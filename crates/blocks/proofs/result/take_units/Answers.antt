-- The block's refusal, 12, or the columns that were read through the steps, and what these leave written.
use Rattle.std.proofs.Common.{◌≤◌, refl, sym, ap, ◌∙◌, arith, length-take-le}
use borrow.Author.Tests.{lt-leb, le-leb}
use lib.ListN.{length}
use Rattle.terms.specs.Reply.{is}
use Rattle.terms.specs.Checks.{most_units}
use Rattle.group.specs.Inner.{zeros}
use Rattle.group.proofs.Explaining.{zeros-taken}
use Rattle.records.specs.declared.group.GroupRecord.{GroupRecord}
use Rattle.blocks.proofs.Telling.{broken-off, read-block, read-passed, read-decoded, taking-refused, taking-small, taking-done, taken-long}
use Rattle.blocks.proofs.result.take_units.Goals as goal

pub returns-in_default : goal.returns-in_default
returns-in_default c =
    taking-refused _ _ _ _ c.units_asked.ensures (broken-off _ _ _ c.requires.0 c.requires.1 c.judged_by.ensures c.units_into-read.ensures c.in_default.is)

pub returns-then-room-block : goal.returns-then-room-block
returns-then-room-block c =
    let e = read-block _ _ _ c.requires.0 c.requires.1 c.judged_by.ensures c.units_into-read.ensures c.in-Some.is ∙ ap is (sym c.of-block.ensures) in
    taking-small _ _ _ _ e refl (lt-leb c.of-block.result.written _ c.if-room-block.true)

pub write_passed-requires : goal.write_passed-requires
write_passed-requires c =
    let b = c.requires in
    let j = c.judged_by.ensures in
    let u = c.units_into-read.ensures in
    let e = read-block _ _ _ b.0 b.1 j u c.in-Some.is ∙ ap is (sym c.of-block.ensures) in
    let n = c.from-n.ensures ∙ ap (λ (g : GroupRecord). g.count) b.1 in
    let k : c.from-n.result ≤ most_units = omega (arith, n, b.0.few) in
    record {
      passed = read-passed _ _ _ b.0 b.1 j u c.in-Some.is;
      decoded = read-decoded _ _ _ b.0 b.1 j u c.in-Some.is n _ _ _ _ _;
      firsts = length-take-le _ _ k ∙ n;
      nothing = zeros-taken _ 64 k ∙ ap zeros n;
      enough = omega (arith, taken-long _ _ _ c.args.room.now e b.1, c.if-room-block.false);
    }

pub returns : goal.returns
returns c =
    let e = read-block _ _ _ c.requires.0 c.requires.1 c.judged_by.ensures c.units_into-read.ensures c.in-Some.is ∙ ap is (sym c.of-block.ensures) in
    taking-done _ _ _ _ e refl (le-leb c.of-block.result.written (length c.args.room.now) c.if-room-block.false) c.write_passed.ensures
