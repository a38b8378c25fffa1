-- "The day list program": what it keeps between two steps of the list, and what a turn makes of it and of its two buffers, whatever the system's read and write answer.
use Rattle.std.specs.Prelude.{ℕ, ◌+◌, ◌-◌, ◌≤◌, ◌≡◌, Bool, true, false, List, ◌++◌, eqb, ltb, ℤ, pos, negsuc, length, take, drop}
use Rattle.numbers.specs.Bytes.{laid_at}
use Rattle.numbers.specs.Choice.{pick}
use Rattle.terms.specs.Refusals.{number_of}
use Rattle.terms.specs.declared.refusal.Refusal.{Refusal}
use Rattle.day.specs.Days.{fresh}
use Rattle.listing.specs.declared.list.Part.{Part}
use Rattle.listing.specs.Listing.{accepts, refuses, waits, full, done, Outcome, list_of}
use Rattle.daylist.specs.declared.work.Run.{Run}
use Rattle.daylist.specs.declared.work.Run.TheVariants.{Going, Whole, Refused, InputFailed, OutputFailed}
use Rattle.daylist.specs.declared.work.Work.{Work}

-- ---- what is kept
abbrev pub fresh_work : Work
fresh_work = record { listing = record { day = fresh; place = 0 }; from = 0; end = 0; full = 0; ended = false; run = Going }

abbrev pub is_going : Run → Bool
is_going Going = true
is_going Whole = false
is_going (Refused told place) = false
is_going InputFailed = false
is_going OutputFailed = false

-- the bytes at hand, and the lines that wait to be written
abbrev pub hand_of : Work → List ℕ → List ℕ
hand_of w input = take (w.end - w.from) (drop w.from input)

abbrev pub held_of : Work → List ℕ → List ℕ
held_of w output = take w.full output

-- a record or block was listed
abbrev pub advanced_by : Work → Part → Work
advanced_by w part =
    record { listing = part.listing; from = w.from + part.used; end = w.end; full = w.full + part.written; ended = w.ended; run = w.run }

-- the run comes to this, with so many bytes of a last line
abbrev pub stopped_by : Work → Run → ℕ → Work
stopped_by w run n = record { listing = w.listing; from = w.from; end = w.end; full = w.full + n; ended = w.ended; run = run }

-- the lines that wait were handed to be written: where they were not taken, that ends the run
abbrev pub wrote_by : Work → Bool → Work
wrote_by w taken = record { listing = w.listing; from = w.from; end = w.end; full = 0; ended = w.ended; run = pick taken w.run OutputFailed }

pub record WroteOut (w r : Work) : Type 0 where
  pub taken : Bool
  pub left : r ≡ wrote_by w taken

-- what a read answered: so many bytes came behind those at hand, none where the input has ended; below 0 it failed, and that ends the run
abbrev pub read_by : Work → ℕ → ℕ → ℤ → Work
read_by w from end (pos n) = record { listing = w.listing; from = from; end = end + n; full = w.full; ended = eqb n 0; run = w.run }
read_by w from end (negsuc n) = stopped_by w InputFailed 0

pub data Read (w : Work) (from end : ℕ) (free : List ℕ) (r : Work) : Type 0 where
  gave : (n : ℕ) → n ≤ length free → r ≡ read_by w from end (pos n) → Read w from end free r
  failed : (n : ℕ) → r ≡ read_by w from end (negsuc n) → Read w from end free r

-- ---- more of the input
-- where the bytes at hand begin and end once there is room behind them: at the front where there was none
abbrev pub front_of : Work → ℕ
front_of w = pick (ltb w.end 65536) w.from 0

abbrev pub back_of : Work → ℕ
back_of w = pick (ltb w.end 65536) w.end (w.end - w.from)

-- then those that a read gave are at hand behind them
pub data Refilled (w : Work) (entry : List ℕ) (r : Work) (exit : List ℕ) : Type 0 where
  more : (bytes : List ℕ) → r ≡ read_by w (front_of w) (back_of w) (pos (length bytes)) → hand_of r exit ≡ hand_of w entry ++ bytes → Refilled w entry r exit
  none : (n : ℕ) → r ≡ read_by w (front_of w) (back_of w) (negsuc n) → Refilled w entry r exit

-- the list waits: the lines are written before more is read
pub data Waited (w : Work) (entry : List ℕ) (r : Work) (exit : List ℕ) : Type 0 where
  unread : r ≡ wrote_by w false → Waited w entry r exit
  wrote : Refilled (wrote_by w true) entry r exit → Waited w entry r exit

-- ---- a turn
-- the list's step, with what is at hand and the room that is left
abbrev pub list_step : Work → List ℕ → Outcome
list_step w input = list_of w.listing (hand_of w input) w.ended (65536 - w.full)

-- by the answer of that step, whose lines stand behind those that wait
pub data TookTurn (w : Work) (input output : List ℕ) (r : Work) (input_after output_after : List ℕ) : Type 0 where
  lists : (part : Part) → (list_step w input).answer ≡ accepts part → r ≡ advanced_by w part → input_after ≡ input → output_after ≡ laid_at output w.full (list_step w input).lines
      → TookTurn w input output r input_after output_after
  stops : (told : Refusal) (place n : ℕ) → (list_step w input).answer ≡ refuses (number_of told.why) told.place place n → r ≡ stopped_by w (Refused told place) n → input_after ≡ input
      → output_after ≡ laid_at output w.full (list_step w input).lines → TookTurn w input output r input_after output_after
  ends : (list_step w input).answer ≡ done → r ≡ stopped_by w Whole 0 → input_after ≡ input → output_after ≡ output → TookTurn w input output r input_after output_after
  writes : (list_step w input).answer ≡ full → WroteOut w r → input_after ≡ input → output_after ≡ output → TookTurn w input output r input_after output_after
  reads : (list_step w input).answer ≡ waits → Waited w input r input_after → output_after ≡ output → TookTurn w input output r input_after output_after
