-- "Numbers given back": a refusal returns the walker unchanged. A walker remembers where it stands.
use Rattle.std.specs.Prelude.{ℕ, zero, suc, List, Option, Some, None}
use Rattle.std.specs.Borrow.{Bor}
use Rattle.terms.specs.Reply.{Reply, is, refused}
use Rattle.walk.specs.declared.table.State.TheVariants.{Fresh}
use Rattle.walk.specs.declared.step.Extent.{Extent}
use Rattle.walk.specs.declared.walker.Walker.{Walker}
use Rattle.walk.specs.Walk.{step_of}

-- the walker starts fresh, at the first byte
abbrev pub opened_on : Bor (List ℕ) → Walker
opened_on bytes = record { bytes = bytes; state = Fresh; place = 0 }

-- past a record
abbrev pub walker_past : Walker → Extent → Walker
walker_past w e = record { bytes = w.bytes; state = e.after; place = e.end }

-- past the record that a reply gave; a refusal and done leave it where it stood
abbrev pub walker_after : Walker → Reply (Option Extent) → Walker
walker_after w (is (Some e)) = walker_past w e
walker_after w (is None) = w
walker_after w (refused number place) = w

-- what is replied where a walker stands
abbrev pub there : Walker → Reply (Option Extent)
there w = step_of w.bytes.now w.state w.place

-- after so many steps
unfoldable pub ahead_of : Walker → ℕ → Walker
ahead_of w zero = w
ahead_of w (suc more) = ahead_of (walker_after w (there w)) more
