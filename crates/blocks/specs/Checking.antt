-- "Numbers given back", for the units of a block: each in turn, and what would be used and written.
use Rattle.std.specs.Prelude.{ℕ, List}
use Rattle.terms.specs.Reply.{Reply, is, next}
use Rattle.records.specs.declared.day.DayRecord.{DayRecord}
use Rattle.records.specs.declared.group.GroupRecord.{GroupRecord}
use Rattle.records.specs.Layouts.{group_length}
use Rattle.records.specs.Reading.{key_of, judged_by, units_of}
use Rattle.writers.specs.Results.{result_length}
use Rattle.blocks.specs.declared.check.Block.{Block}

-- a block of a group record that ends at a place: its result has 27 + 20·count bytes
abbrev pub block_of : GroupRecord → ℕ → Block
block_of group end = record { key = key_of group; count = group.count; used = end; written = result_length group.count }

-- each unit in turn, judged by what a day record is to its group
unfoldable pub block_units_of : List ℕ → GroupRecord → DayRecord → Reply Block
block_units_of s group day =
    next (units_of s group_length 0 (judged_by group day) group.count) λ end.
    is (block_of group end)
