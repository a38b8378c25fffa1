-- "Ways in": one record or block, offered to a day that goes in and comes back as a value. "Numbers given back": the reply, the day and the room.
use Rattle.std.specs.Prelude.{ℕ, ◌≡◌, Bool, false, List, [], ◌++◌, eqb, leb, ltb, length, drop}
use Rattle.numbers.specs.Bytes.{byte_at}
use Rattle.numbers.specs.Choice.{pick}
use Rattle.terms.specs.Reply.{Reply, is, refused, need, next}
use Rattle.terms.specs.Refusals.{refusal}
use Rattle.records.specs.Reading.{day_fields_of, end_fields_of}
use Rattle.walk.specs.declared.table.Role.{Role}
use Rattle.walk.specs.declared.table.Role.TheVariants.{Opens, Block, Closes}
use Rattle.walk.specs.declared.table.Head.{Head}
use Rattle.walk.specs.Table.{role_of, is_block, head_in}
use Rattle.day.specs.declared.value.Day.{Day}
use Rattle.day.specs.Outcome.{Step}
use Rattle.day.specs.Outcome.{Offered}
use Rattle.day.specs.Outcome as O
use Rattle.day.specs.Days.{opened, counted, closed, possible}
use Rattle.day.specs.Checking.{block_fields_of, block_head_for}
use Rattle.blocks.specs.Blocks.{block_result}

-- the head of what is offered: 1 if empty, 2, 1
unfoldable pub head_for : Day → List ℕ → Reply Head
head_for day s =
    need (ltb 0 (length s)) 1 (length s)
    (need (possible day) 2 0
    (head_in s 0 day.state))

-- a day record that ends at a place opens the day: 3
unfoldable pub day_taken : List ℕ → ℕ → Reply Step
day_taken s end =
    next (day_fields_of s) λ d.
    is (record { used = end; written = 0; day = opened d })

-- a block is one group more: its checks, and last 12
unfoldable pub block_taken : Day → List ℕ → ℕ → Reply Step
block_taken day s room =
    next (block_fields_of day s) λ block.
    need (leb block.written room) 12 0
    (is (record { used = block.used; written = block.written; day = counted day block.key }))

-- an end record that ends at a place closes the day: 14
unfoldable pub end_taken : Day → List ℕ → ℕ → Reply Step
end_taken day s end =
    next (end_fields_of s day.groups) λ _.
    is (record { used = end; written = 0; day = closed day })

-- the fields of what is offered, by what it is to the day and where its first record ends
abbrev pub taken : Day → List ℕ → ℕ → Role → ℕ → Reply Step
taken day s room Opens end = day_taken s end
taken day s room Block end = block_taken day s room
taken day s room Closes end = end_taken day s end

-- the reply: bytes used, bytes written and the new day, or a refusal
unfoldable pub offer_of : Day → List ℕ → ℕ → Reply Step
offer_of day s room = next (head_for day s) λ head. taken day s room head.role head.end

-- the same of a block alone, where any other record is 2
unfoldable pub block_offer_of : Day → List ℕ → ℕ → Reply Step
block_offer_of day s room = next (block_head_for day s) λ _. block_taken day s room

-- what an accepted offer writes: the result of a block, and nothing for a day or an end
abbrev pub written_of : List ℕ → List ℕ
written_of s = pick (is_block (role_of (byte_at s 0))) (block_result s) []

-- what is at hand is only cut short: nothing in it is wrong, and more may make it whole
abbrev pub is_cut_short : {A : Type 0} → Reply A → Bool
is_cut_short (is a) = false
is_cut_short (refused number place) = eqb number 1

-- a refusal returns the day unchanged, and writes nothing; an accepted offer writes no byte of the room beyond its result
unfoldable pub day_after : Reply Step → Day → Day
day_after (is step) day = step.day
day_after (refused number place) day = day

unfoldable pub room_after : Reply Step → List ℕ → List ℕ → List ℕ
room_after (is step) bytes room = bytes ++ drop step.written room
room_after (refused number place) bytes room = room

-- an answer as a reply, and the day that comes back with it
abbrev pub offer_reply : Offered → Reply Step
offer_reply (O.Taken step) = is step
offer_reply (O.Refused r day) = refusal r

abbrev pub day_back : Offered → Day
day_back (O.Taken step) = step.day
day_back (O.Refused r day) = day

pub record Gave (right : Reply Step) (day : Day) (r : Offered) : Type 0 where
  pub replied : offer_reply r ≡ right
  pub returned : day_back r ≡ day_after right day

-- the answer, the day and the room are the right ones
pub record Offering (right : Reply Step) (bytes : List ℕ) (day : Day) (entry : List ℕ) (r : Offered) (exit : List ℕ) : Type 0 where
  pub gave : Gave right day r
  pub room : exit ≡ room_after right bytes entry

abbrev pub Offers : Day → List ℕ → List ℕ → Offered → List ℕ → Type 0
Offers day s entry r exit = Offering (offer_of day s (length entry)) (written_of s) day entry r exit

abbrev pub OffersBlock : Day → List ℕ → List ℕ → Offered → List ℕ → Type 0
OffersBlock day s entry r exit = Offering (block_offer_of day s (length entry)) (block_result s) day entry r exit
