-- "The day list program": its runs, for any bytes that reads give and any answers of writes. What the system's read gave are the bytes that came into the buffer; what was handed to its write are the lines that waited.
use Rattle.std.specs.Prelude.{ℕ, ◌≡◌, Bool, true, false, List, [], ◌++◌}
use Rattle.daylist.specs.declared.work.Run.{Run}
use Rattle.daylist.specs.declared.work.Run.TheVariants.{Going, Whole, Refused, InputFailed, OutputFailed}
use Rattle.daylist.specs.declared.work.Work.{Work}
use Rattle.daylist.specs.Works.{fresh_work, is_going, held_of, WroteOut, Refilled, more, none, Waited, unread, wrote, TookTurn, lists, stops, ends, writes, reads}

-- the bytes that a turn's read gave
abbrev pub refill_gave : {w r : Work} {entry exit : List ℕ} → Refilled w entry r exit → List ℕ
refill_gave (more bytes e h) = bytes
refill_gave (none n e) = []

abbrev pub wait_gave : {w r : Work} {entry exit : List ℕ} → Waited w entry r exit → List ℕ
wait_gave (unread e) = []
wait_gave (wrote f) = refill_gave f

abbrev pub turn_gave : {w r : Work} {input output input_after output_after : List ℕ} → TookTurn w input output r input_after output_after → List ℕ
turn_gave (lists part a e i o) = []
turn_gave (stops told place n a e i o) = []
turn_gave (ends a e i o) = []
turn_gave (writes a e i o) = []
turn_gave (reads a f o) = wait_gave f

-- the bytes that it handed to be written
abbrev pub turn_handed : {w r : Work} {input output input_after output_after : List ℕ} → TookTurn w input output r input_after output_after → List ℕ
turn_handed (lists part a e i o) = []
turn_handed (stops told place n a e i o) = []
turn_handed (ends a e i o) = []
turn_handed {w} {output = output} (writes a e i o) = held_of w output
turn_handed {w} {output = output} (reads a f o) = held_of w output

-- turns one after another: what all reads gave, and what all writes were handed, in order
pub data Turns : List ℕ → List ℕ → Work → List ℕ → List ℕ → Type 0 where
  begin : {input output : List ℕ} → Turns [] [] fresh_work input output
  turn : {given handed : List ℕ} {w r : Work} {input output input_after output_after : List ℕ} → Turns given handed w input output → is_going w.run ≡ true
      → (t : TookTurn w input output r input_after output_after) → Turns (given ++ turn_gave t) (handed ++ turn_handed t) r input_after output_after

-- a run: turns, and at last the lines that still wait are handed over
pub record Ran (run : Run) : Type 0 where
  pub given : List ℕ
  pub handed : List ℕ
  pub work : Work
  pub input : List ℕ
  pub output : List ℕ
  pub turns : Turns given handed work input output
  pub last : Work
  pub wrote : WroteOut work last
  pub came : run ≡ last.run

-- all that it handed over
abbrev pub all_handed : {run : Run} → Ran run → List ℕ
all_handed r = r.handed ++ held_of r.work r.output

-- the list has come to its end: it is whole, or it ends in a refusal
abbrev pub is_listed : Run → Bool
is_listed Going = false
is_listed Whole = true
is_listed (Refused told place) = true
is_listed InputFailed = false
is_listed OutputFailed = false
