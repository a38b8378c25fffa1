-- "The day list" of a whole input, and a run of steps that each have a part of it at hand.
use Rattle.std.specs.Prelude.{◌≡◌, ℕ, zero, suc, ◌+◌, Bool, true, List, [], ◌++◌, length, drop}
use Rattle.numbers.specs.Bytes.{byte_at}
use Rattle.numbers.specs.Choice.{pick}
use Rattle.terms.specs.Reply.{Reply, is, refused}
use Rattle.records.specs.Longest.{longest_result}
use Rattle.walk.specs.Table.{role_of}
use Rattle.day.specs.Outcome.{Step}
use Rattle.day.specs.Days.{fresh}
use Rattle.day.specs.Offers.{offer_of, written_of}
use Rattle.lines.specs.Lines.{refused_line}
use Rattle.listing.specs.declared.list.Listing.{Listing}
use Rattle.listing.specs.declared.list.Part.{Part}
use Rattle.listing.specs.Listing.{further, accepts, refuses, done, outcome, accepted_lines, over, list_of}

-- the list after what was accepted
abbrev pub following : Listing → Step → Listing
following l step = record { day = step.day; place = further l.place step.used }

-- a refusal's line, or the lines of what was accepted and then those of what follows it
unfoldable pub onward : Listing → List ℕ → Reply Step → (Listing → List ℕ → List ℕ) → List ℕ
onward l s (is step) rest = accepted_lines (role_of (byte_at s 0)) step.day (written_of s) ++ rest (following l step) (drop step.used s)
onward l s (refused number inside) rest = refused_line number (further l.place inside)

-- at most n records and blocks more, from what is left of the input
unfoldable pub lines_from : ℕ → Listing → List ℕ → List ℕ
lines_from zero l s = []
lines_from (suc n) l s = pick (over l.day s) [] (onward l s (offer_of l.day s longest_result) (lines_from n))

-- the list of an input, in which no record or block is without a byte
unfoldable pub day_list : List ℕ → List ℕ
day_list input = lines_from (length input + 1) (record { day = fresh; place = 0 }) input

-- Steps up to the last, the lines that they write joined: each has a front part of what is left of the input at hand, all of it where the input has ended.
-- A step that waits or finds no room writes nothing and is tried again.
pub data Steps : Listing → List ℕ → List ℕ → Type 0 where
  went : {l : Listing} {input lines rest : List ℕ} {part : Part} (s more : List ℕ) (ended : Bool) (room : ℕ) → input ≡ s ++ more → (ended ≡ true → more ≡ [])
      → list_of l s ended room ≡ outcome (accepts part) lines → Steps part.listing (drop part.used input) rest → Steps l input (lines ++ rest)
  stopped : {l : Listing} {input lines : List ℕ} {number inside place n : ℕ} (s more : List ℕ) (ended : Bool) (room : ℕ) → input ≡ s ++ more → (ended ≡ true → more ≡ [])
      → list_of l s ended room ≡ outcome (refuses number inside place n) lines → Steps l input lines
  finished : {l : Listing} {input lines : List ℕ} (s more : List ℕ) (ended : Bool) (room : ℕ) → input ≡ s ++ more → (ended ≡ true → more ≡ [])
      → list_of l s ended room ≡ outcome done lines → Steps l input lines
