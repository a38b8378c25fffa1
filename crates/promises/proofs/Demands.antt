-- What the product promises, sentence by sentence: each statement is proved by the theorem that it cites.
use Rattle.std.specs.Prelude.{Result}
use Prim.Native.Nat.{ℕ, ◌≤◌, ◌<◌}
use mathlib.Core.Path.{◌≡◌}
use mathlib.Core.List.{List}
use mathlib.Core.Logic.{◌⊎◌}
use lib.IntN.{ℤ, pos}
use lib.ListN.{length, take}
use Rattle.numbers.specs.Bytes.{Bytes, byte_at}
use Rattle.numbers.specs.Column.{at}
use Rattle.terms.specs.Reply.{is}
use Rattle.terms.specs.Refusals.{reply}
use Rattle.terms.specs.declared.refusal.Refusal.{Refusal}
use Rattle.group.specs.Group.{Group, n3}
use Rattle.group.specs.Columns.{Judges, SameOutcome}
use Rattle.group.specs.declared.judge.Sums.{Sums}
use Rattle.group.specs.Accepted.{Accepted}
use Rattle.group.specs.Demand3.{Demand3}
use Rattle.group.specs.Ties.{LargerFirst}
use Rattle.group.proofs.Unique.{judge-unique}
use Rattle.group.proofs.Demand3.{group-demand3}
use Rattle.group.proofs.Ties.{group-larger-first}
use Rattle.records.specs.declared.day.DayRecord.{DayRecord}
use Rattle.records.specs.declared.group.GroupRecord.{GroupRecord}
use Rattle.records.specs.declared.end.EndRecord.{EndRecord}
use Rattle.records.specs.Layouts.{day_at, group_at, end_at, group_result_at, unit_result_at}
use Rattle.records.specs.Reading.{day_of, end_of, unit_in}
use Rattle.records.specs.Decoding.{Inside}
use Rattle.writers.specs.Columns.{Columns, columns_in}
use Rattle.writers.specs.Results.{result_length}
use Rattle.writers.specs.Trips.{Values}
use Rattle.writers.specs.Writing.{group_over, DayWritten, BlockWritten, EndWritten}
use Rattle.writers.proofs.Back.{day-back, block_back, end_back}
use Rattle.walk.specs.declared.table.Role.TheVariants.{Opens, Block, Closes}
use Rattle.walk.specs.Table.{role_of}
use Rattle.decode.specs.Block.{block_count}
use Rattle.blocks.specs.Blocks.{group_told, block_group, unit_result}
use Rattle.day.specs.declared.value.Day.{Day}
use Rattle.day.specs.Outcome.{Step}
use Rattle.day.specs.Outcome.{Taken, Refused}
use Rattle.day.specs.Days.{fresh, opened}
use Rattle.day.specs.Offers.{Offers}
use Rattle.day.specs.Answered.{One}
use Rattle.day.proofs.Demands.{offer-answered, refusal-keeps, block-accepted, group-told, unit-told, block-fair, block_inside}
use Rattle.day.proofs.Again.{day-same, block_same, end_same}
use Rattle.desk.specs.Desk.{Checks}
use Rattle.desk.specs.Header.{Replied, CallTaken}
use Rattle.desk.proofs.Told.{reply-in, call-fair}
use Rattle.listing.specs.Whole.{day_list, Steps}
use Rattle.listing.proofs.Whole.{list-whole}
use Rattle.partner.specs.declared.line.Line.{Line}
use Rattle.partner.specs.declared.line.LineRead.{LineRead}
use Rattle.partner.specs.Line.{read_of, LineWritten}
use Rattle.partner.proofs.Unique.{read-line-unique, write-line-unique}
use Rattle.partner.proofs.Lines.{line-back, line-again}

-- ---- 1. Every set of columns and every byte string gets a reply.
-- A byte string, offered to any day with any room, gets one answer and leaves one content of the room.
pub every-byte-string : (day : Day) (s room : List ℕ) → One day s room
every-byte-string = offer-answered

-- Two answers to one set of columns are one, and so are the columns written.
pub every-set-of-columns : (g : Group) (first second third : List ℤ) (r q : Result Sums Refusal) {x1 y1 x2 y2 x3 y3 : List ℤ}
    → Judges g first second third (reply r) x1 x2 x3 → Judges g first second third (reply q) y1 y2 y3 → SameOutcome r q x1 y1 x2 y2 x3 y3
every-set-of-columns = judge-unique

-- The C call gives the length of a result or minus the number of a refusal, each one that its header says.
pub every_call : (day block room : List ℕ) {z : ℤ} {exit : List ℕ} → Checks day block room z exit → Replied z
every_call = reply-in

-- Every input has a list.
pub every-input : (input : List ℕ) → Steps (record { day = fresh; place = 0 }) input (day_list input)
every-input = list-whole

-- Two answers to the bytes of a partner's line are one, and so are two answers and two rooms of its writer.
pub every-line : (s : List ℕ) (a b : Result LineRead Refusal) → reply a ≡ read_of s → reply b ≡ read_of s → a ≡ b
every-line = read-line-unique

pub every-written-line : (l : Line) (room : List ℕ) {r q : Result ℕ Refusal} {exit other : List ℕ} → LineWritten l room r exit → LineWritten l room q other
    → (r ≡ q) × (exit ≡ other)
every-written-line l room = write-line-unique l room

-- A refused call writes nothing into lent memory, and the day stands as before.
pub refused-writes-nothing : (day : Day) (s room : List ℕ) (f : Refusal) (back : Day) {exit : List ℕ} → Offers day s room (Refused f back) exit
    → (back ≡ day) × (exit ≡ room)
refused-writes-nothing = refusal-keeps

-- ---- 2. Accepted groups come out exactly as the rule says, and both round trips hold.
-- What our writers make reads back as the values given.
module _ {room exit : List ℕ} {r : Result ℕ Refusal} {n : ℕ} (done : reply r ≡ is n) where
  pub day-reads-back : (d : DayRecord) → DayWritten d room r exit → (day_at exit 0 ≡ d) × (day_of exit ≡ is d)
  day-reads-back = day-back done

  pub block-reads-back : (g : GroupRecord) (c : Columns) → BlockWritten g c room r exit → Values (group_over g c) c exit
  block-reads-back g c w = block_back g c done w

  pub end-reads-back : (x : EndRecord) → EndWritten x room r exit → (end_at exit 0 ≡ x) × (end_of exit x.groups ≡ is x)
  end-reads-back = end_back done

  -- A unit's number has 16 bits.
  pub line-reads-back : (l : Line) → l.number ≤ 65535 → LineWritten l room r exit → read_of exit ≡ is (record { line = l; used = n })
  line-reads-back l small = line-back l small done

-- Of a line too: what is accepted, written again, gives the same bytes.
pub line-written-again : (s : List ℕ) (l : LineRead) → read_of s ≡ is l → (lent : List ℕ) {left : List ℕ} {r : Result ℕ Refusal} → l.used ≤ length lent
    → LineWritten l.line lent r left → (reply r ≡ is l.used) × (take l.used left ≡ take l.used s)
line-written-again s l e lent fits = line-again s l e lent fits

module _ (day : Day) (s room : List ℕ) {step : Step} {exit : List ℕ} (o : Offers day s room (Taken step) exit) where
  -- Three steps, verdicts, balance.
  pub group-by-the-rule : role_of (byte_at s 0) ≡ Block → group_result_at exit 0 ≡ group_told s
  group-by-the-rule = group-told day s room o

  pub units-by-the-rule : role_of (byte_at s 0) ≡ Block → (i : ℕ) → i < block_count s → unit_result_at exit (result_length i) ≡ unit_result s i
  units-by-the-rule = unit-told day s room o

  -- What is accepted, written again, gives the same bytes.
  module _ (small : Bytes s) (lent : List ℕ) {left : List ℕ} {r : Result ℕ Refusal} (fits : step.used ≤ length lent) where
    pub day-written-again : role_of (byte_at s 0) ≡ Opens → DayWritten (day_at s 0) lent r left
        → (reply r ≡ is step.used) × (take step.used left ≡ take step.used s)
    day-written-again = day-same day s room o small lent fits

    pub block-written-again : role_of (byte_at s 0) ≡ Block
        → BlockWritten (group_at s 0) (columns_in s (block_count s)) lent r left
        → (reply r ≡ is step.used) × (take step.used left ≡ take step.used s)
    block-written-again = block_same day s room o small lent fits

    pub end-written-again : role_of (byte_at s 0) ≡ Closes → EndWritten (end_at s 0) lent r left
        → (reply r ≡ is step.used) × (take step.used left ≡ take step.used s)
    end-written-again = end_same day s room o small lent fits

  -- ---- 3. In step 2 the cut is fair: each sentence is a field of `Demand3`.
  pub block-cut-fairly : role_of (byte_at s 0) ≡ Block → Demand3 (block_group s)
  block-cut-fairly = block-fair day s room o

  -- At the end a unit is at zero, or inside both its margins and its interval.
  pub units-end-inside : role_of (byte_at s 0) ≡ Block → (i : ℕ) → i < block_count s
      → (at (n3 (block_group s)) i ≡ pos 0) ⊎ Inside (unit_in s i) (at (n3 (block_group s)) i)
  units-end-inside = block_inside day s room o

  -- ---- The odd kWh go to the largest remainders, among equal ones to the larger units first, then to the earlier.
  pub block-larger-first : role_of (byte_at s 0) ≡ Block → LargerFirst (block_group s)
  block-larger-first is_block = group-larger-first (block_group s) (block-accepted day s room o is_block)

-- Both hold of every group of columns that passes the checks, and of every block that the C call accepts.
pub group-cut-fairly : (g : Group) → Accepted g → Demand3 g
group-cut-fairly = group-demand3

pub call-cut-fairly : (day block room : List ℕ) {n : ℕ} {exit : List ℕ} → CallTaken day block room n exit → Demand3 (block_group block)
call-cut-fairly = call-fair

pub columns-larger-first : (g : Group) → Accepted g → LargerFirst g
columns-larger-first = group-larger-first

pub call-larger-first : (day block room : List ℕ) {n : ℕ} {exit : List ℕ} → CallTaken day block room n exit → LargerFirst (block_group block)
call-larger-first day block room c = block-larger-first (opened c.opens) block room c.taken c.is_block
