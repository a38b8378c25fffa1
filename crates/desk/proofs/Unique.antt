-- The C call's contract leaves one reply and one room.
use Prim.Native.Nat.{ℕ}
use mathlib.Core.Path.{◌≡◌, sym, ◌∙◌}
use mathlib.Core.List.{List}
use lib.IntN.{ℤ}
use Rattle.desk.specs.Desk.{Checks}

module _ (day block entry : List ℕ) {r r' : ℤ} {exit exit' : List ℕ} (a : Checks day block entry r exit) (b : Checks day block entry r' exit') where
  pub reply-unique : r ≡ r'
  reply-unique = a.replied ∙ sym b.replied

  pub room-unique : exit ≡ exit'
  room-unique = a.room ∙ sym b.room
