-- What the program says of a run that ended refused: the line that names the plant, of the day and the bytes that were at hand.
use Rattle.std.specs.Prelude.{ℕ, ◌≡◌, List}
use Rattle.terms.specs.Refusals.{refusal}
use Rattle.terms.specs.declared.refusal.Refusal.{Refusal}
use Rattle.records.specs.Longest.{longest_result}
use Rattle.day.specs.Offers.{offer_of}
use Rattle.listing.specs.Listing.{further}
use Rattle.naming.specs.Words.{Names}
use Rattle.daylist.specs.declared.work.Run.TheVariants.{Refused}
use Rattle.daylist.specs.declared.work.Work.{Work}
use Rattle.daylist.specs.Works.{hand_of}
use Rattle.daylist.specs.Runs.{Ran}

-- a run, what it kept at last, and its input buffer then
pub record Ended (w : Work) (input : List ℕ) : Type 0 where
  pub ran : Ran w.run
  pub kept : ran.last ≡ w
  pub bytes : ran.input ≡ input

-- what ended the run is this refusal
pub record CameTo (w : Work) (told : Refusal) : Type 0 where
  pub place : ℕ
  pub run : w.run ≡ Refused told place

-- that refusal is what the list's day replies to the bytes at hand, its place in the input is the list's further by its own, and the line is its line
pub record Named (w : Work) (input : List ℕ) (told : Refusal) (at : ℕ) (entry : List ℕ) (n : ℕ) (exit : List ℕ) : Type 0 where
  pub replied : offer_of w.listing.day (hand_of w input) longest_result ≡ refusal told
  pub place : at ≡ further w.listing.place told.place
  pub line : Names w.listing.day (hand_of w input) told entry n exit
