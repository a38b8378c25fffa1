-- A comment found byte by byte: what stands in front of it is the front of its line, and as long as what is read and what is left; and a line too short for the byte order mark has none.
use Prim.Native.Nat.{ℕ, suc, ◌+◌, ◌≤◌, ◌<◌}
use mathlib.Core.Path.{◌≡◌, refl}
use mathlib.Core.Bool.{Bool, true, false, ◌&&◌}
use mathlib.Core.List.{List, [], ◌∷◌}
use Rattle.std.proofs.Common.{rules}
use native.Mathlib.Numerals.{add-one}
use native.Mathlib.Omega.{arith}
use lib.Dec.{eqb}
use lib.ListN.{length, get_or, take, drop, drop_of_length-le}
use lib.Seq.{drop-cons}
use Rattle.text.specs.Numbers.{is_blank}
use Rattle.text.specs.Line.{uncommented}

module _ (s : List ℕ) (i : ℕ) (fresh : Bool) where
  pub comment-on : i < length s → fresh && eqb (get_or s i 0) 35 ≡ false → length (uncommented fresh (drop i s)) ≡ suc (length (uncommented (is_blank (get_or s i 0)) (drop (i + 1) s)))
  unfolding uncommented
  comment-on h e = rw (add-one, drop-cons s i 0, e)

  pub comment-out : i < length s → fresh && eqb (get_or s i 0) 35 ≡ true → length (uncommented fresh (drop i s)) ≡ 0
  unfolding uncommented
  comment-out h e = rw (drop-cons s i 0, e)

  pub comment-end : length s ≤ i → length (uncommented fresh (drop i s)) ≡ 0
  unfolding uncommented
  comment-end h = rw (drop_of_length-le s h)

pub uncommented-front : (fresh : Bool) (s : List ℕ) → take (length (uncommented fresh s)) s ≡ uncommented fresh s
unfolding uncommented
uncommented-front fresh [] = refl
uncommented-front fresh (b ∷ s) =
    let r = uncommented-front (is_blank b) s in
    search rules

pub uncommented-le : (fresh : Bool) (s : List ℕ) → length (uncommented fresh s) ≤ length s
unfolding uncommented
uncommented-le fresh [] = omega arith
uncommented-le fresh (b ∷ s) =
    let r = uncommented-le (is_blank b) s in
    search rules

pub ruleset comments = (comment-on, comment-out, comment-end, uncommented-front, uncommented-le)
