-- "House records": one table gives, for each state and kind, whether the record may come. One byte of kind, then a body whose length the kind fixes.
use Rattle.std.specs.Prelude.{ℕ, ◌+◌, ◌-◌, ◌≡◌, Bool, true, false, List, [], ◌∷◌, eqb, leb, ltb, length, Option, Some, None}
use Rattle.numbers.specs.Bytes.{byte_at}
use Rattle.numbers.specs.Choice.{pick}
use Rattle.numbers.specs.Column.{column}
use Rattle.terms.specs.Reply.{Reply, is, need}
use Rattle.records.specs.Layouts.{day_kind, day_length, group_kind, group_length, end_kind, end_length}
use Rattle.walk.specs.declared.table.State.{State}
use Rattle.walk.specs.declared.table.State.TheVariants.{Fresh, Open, Closed}
use Rattle.walk.specs.declared.table.Role.{Role}
use Rattle.walk.specs.declared.table.Role.TheVariants.{Opens, Block, Closes}
use Rattle.walk.specs.declared.table.Entry.{Entry}
use Rattle.walk.specs.declared.table.Head.{Head}

-- ---- the table
-- an entry: the record comes as what it is to the day, and is so long with its byte of kind
abbrev pub comes : Role → ℕ → Option Entry
comes role len = Some (record { role = role; len = len })

-- fresh takes 01h, which opens the day; open takes 02h, a block, and 0Fh, which closes the day; closed takes none
abbrev pub table : State → ℕ → Option Entry
table Fresh kind = pick (eqb kind day_kind) (comes Opens day_length) None
table Open kind = pick (eqb kind group_kind) (comes Block group_length) (pick (eqb kind end_kind) (comes Closes end_length) None)
table Closed kind = None

-- ---- what it tells
abbrev pub body : Option Entry → ℕ
body (Some entry) = entry.len - 1
body None = 0

abbrev pub role_or : Role → Option Entry → Role
role_or other (Some entry) = entry.role
role_or other None = other

-- the length of the body, and 0 where the record may not come
abbrev pub body_of : State → ℕ → ℕ
body_of state kind = body (table state kind)

-- a record of this kind may come
abbrev pub may_come : State → ℕ → Bool
may_come state kind = ltb 0 (body_of state kind)

-- what a record of this kind is to a day, in the state that takes it; of a kind that no state takes it says nothing
abbrev pub role_of : ℕ → Role
role_of kind = role_or (role_or Closes (table Open kind)) (table Fresh kind)

abbrev pub is_block : Role → Bool
is_block Opens = false
is_block Block = true
is_block Closes = false

-- the day after such a record
abbrev pub state_after : Role → State
state_after Opens = Open
state_after Block = Open
state_after Closes = Closed

abbrev pub is_closed : State → Bool
is_closed Fresh = false
is_closed Open = false
is_closed Closed = true

-- the row of a state in the table
abbrev pub row_of : State → ℕ
row_of Fresh = 0
row_of Open = 1
row_of Closed = 2

-- for each state, the bodies of all the kinds
abbrev pub rows : List (List ℕ)
rows = column 16 (body_of Fresh) ∷ column 16 (body_of Open) ∷ column 16 (body_of Closed) ∷ []

-- ---- what may come
-- the records that may come
pub data Coming (state : State) (role : Role) : Type 0 where
  the_day : state ≡ Fresh → role ≡ Opens → Coming state role
  a_group : state ≡ Open → role ≡ Block → Coming state role
  the_end : state ≡ Open → role ≡ Closes → Coming state role

-- their lengths
abbrev pub length_as : Role → ℕ
length_as Opens = day_length
length_as Block = group_length
length_as Closes = end_length

-- what the table says of a record that may come
pub record Row (state : State) (kind : ℕ) : Type 0 where
  pub which : Coming state (role_of kind)
  pub fixed : 1 + body_of state kind ≡ length_as (role_of kind)

-- ---- the head of a record
-- what the record that is to begin at a place is to the day, and where it ends
abbrev pub head_at : List ℕ → ℕ → State → Head
head_at s at state = record { role = role_of (byte_at s at); end = at + (1 + body_of state (byte_at s at)) }

-- the head of a record that may come: 1 if it does not lie within the bytes
abbrev pub head_by : Entry → ℕ → ℕ → Reply Head
head_by entry at n = need (leb (at + entry.len) n) 1 n (is (record { role = entry.role; end = at + entry.len }))

-- its head: 1 if empty, 2, 1
unfoldable pub head_in : List ℕ → ℕ → State → Reply Head
head_in s at state =
    need (ltb at (length s)) 1 (length s)
    (need (may_come state (byte_at s at)) 2 at
    (need (leb (head_at s at state).end (length s)) 1 (length s)
    (is (head_at s at state))))

-- the head of a block: any other record is 2
unfoldable pub block_head_in : List ℕ → ℕ → State → Reply Head
block_head_in s at state =
    need (ltb at (length s)) 1 (length s)
    (need (is_block (role_of (byte_at s at))) 2 at
    (head_in s at state))
