-- Extents one after another, the bytes that they hold, and a day by its extents.
use Rattle.std.specs.Prelude.{ℕ, ◌≤◌, ◌<◌, ◌≡◌, List, [], ◌∷◌, ◌++◌, length}
use Rattle.std.proofs.Math.Seq.{slice}
use Rattle.terms.specs.Reply.{Reply, is}
use Rattle.walk.specs.declared.table.State.{State}
use Rattle.walk.specs.declared.table.State.TheVariants.{Fresh, Open, Closed}
use Rattle.walk.specs.declared.table.Role.{Role}
use Rattle.walk.specs.declared.table.Role.TheVariants.{Opens, Block, Closes}
use Rattle.walk.specs.declared.table.Head.{Head}
use Rattle.walk.specs.declared.step.Extent.{Extent}
use Rattle.walk.specs.Table.{head_in}
use Rattle.walk.specs.Walk.{block_end_of}

abbrev pub from : ℕ → ℕ → State → Extent
from start end after = record { start = start; end = end; after = after }

-- an extent starts at the place, has bytes, and lies within those that are lent
pub record Lies (s : List ℕ) (place : ℕ) (e : Extent) : Type 0 where
  pub start : e.start ≡ place
  pub onward : place < e.end
  pub within : e.end ≤ length s

-- from a place to an end each extent starts where the one before ends
abbrev pub Tiles : List ℕ → ℕ → List Extent → ℕ → Type 0
Tiles s place [] end = place ≡ end
Tiles s place (e ∷ es) end = Lies s place e × Tiles s e.end es end

-- where the last of them ends
abbrev pub last_end : ℕ → List Extent → ℕ
last_end place [] = place
last_end place (e ∷ es) = last_end e.end es

-- the bytes of extents, joined
abbrev pub bytes_in : List ℕ → List Extent → List ℕ
bytes_in s [] = []
bytes_in s (e ∷ es) = slice e.start e.end s ++ bytes_in s es

-- "House records": a day is one day record, blocks, one end record, and nothing after it, each by the table; of what else is asked of a day the walker checks nothing
abbrev pub headed : Role → ℕ → Reply Head
headed role end = is (record { role = role; end = end })

pub data Blocks (s : List ℕ) : ℕ → List Extent → Type 0 where
  block : (at units end : ℕ) (es : List Extent) → head_in s at Open ≡ headed Block units → block_end_of s at ≡ is end → Blocks s end es → Blocks s at (from at end Open ∷ es)
  ending : (at : ℕ) → head_in s at Open ≡ headed Closes (length s) → Blocks s at (from at (length s) Closed ∷ [])

pub data DayOf (s : List ℕ) : List Extent → Type 0 where
  opening : (end : ℕ) (es : List Extent) → head_in s 0 Fresh ≡ headed Opens end → Blocks s end es → DayOf s (from 0 end Open ∷ es)
