-- "Numbers given back", for a block: the order of its checks.
use Rattle.std.specs.Prelude.{ℕ, List, ltb, length}
use Rattle.terms.specs.Reply.{Reply, is, need, next}
use Rattle.records.specs.Reading.{group_fields_of}
use Rattle.walk.specs.declared.table.State.{State}
use Rattle.walk.specs.declared.table.Head.{Head}
use Rattle.walk.specs.Table.{block_head_in}
use Rattle.blocks.specs.declared.check.Block.{Block}
use Rattle.blocks.specs.Checking.{block_units_of}
use Rattle.day.specs.declared.value.Day.{Day}
use Rattle.day.specs.Days.{possible}

-- the group's fields, in their order, and then the units
unfoldable pub block_fields_of : Day → List ℕ → Reply Block
block_fields_of day s =
    next (group_fields_of s day.«record» day.last) λ group.
    block_units_of s group day.«record»

-- the state by which the table says what may come: 1 if empty, 2
unfoldable pub due_of : Day → List ℕ → Reply State
due_of day s =
    need (ltb 0 (length s)) 1 (length s)
    (need (possible day) 2 0
    (is day.state))

-- the head of a block, for a day: 1 if empty, 2, 1; any other record is 2
unfoldable pub block_head_for : Day → List ℕ → Reply Head
block_head_for day s =
    need (ltb 0 (length s)) 1 (length s)
    (need (possible day) 2 0
    (block_head_in s 0 day.state))

-- a block checked: its head, then fields
unfoldable pub check_of : Day → List ℕ → Reply Block
check_of day s = next (block_head_for day s) λ _. block_fields_of day s
