-- Digits read one by one: the size of all is the size of what is left after those read, and a number only grows.
use Prim.Native.Nat.{ℕ, ◌+◌, ◌*◌, ◌-◌, ◌≤◌, ◌<◌}
use mathlib.Core.Path.{◌≡◌}
use mathlib.Core.Bool.{true, false, and-false}
use mathlib.Core.List.{List}
use native.Mathlib.Numerals.{add-one}
use native.Mathlib.Omega.{arith}
use borrow.Author.Tests.{le-leb, lt-leb}
use lib.ListN.{length, get_or, drop, drop_of_length-le}
use lib.Seq.{drop-cons}
use Rattle.std.specs.Prelude.{Some, None}
use Rattle.numbers.specs.Decimal.{is_digit, all_digits, number_from}
use Rattle.numbers.proofs.ReadBack.{grows}
use Rattle.text.specs.Numbers.{size_from}

pub too_large : (n : ℕ) (s : List ℕ) → 4294967295 < n → size_from n s ≡ None
unfolding size_from
too_large n s h =
    let e = lt-leb (number_from n s) 4294967295 (omega (arith, grows n s)) in
    rw (e, and-false (all_digits s))

module _ (n : ℕ) (s : List ℕ) (i : ℕ) where
  pub turn : i < length s → is_digit (get_or s i 0) ≡ true → size_from n (drop i s) ≡ size_from (n * 10 + (get_or s i 0 - 48)) (drop (i + 1) s)
  unfolding size_from all_digits number_from
  turn h e = rw (add-one, drop-cons s i 0, e)

  pub stop : i < length s → is_digit (get_or s i 0) ≡ false → size_from n (drop i s) ≡ None
  unfolding size_from all_digits number_from
  stop h e = rw (drop-cons s i 0, e)

  pub end : length s ≤ i → n ≤ 4294967295 → size_from n (drop i s) ≡ Some n
  unfolding size_from all_digits number_from
  end g h = rw (drop_of_length-le s g, le-leb n 4294967295 h)

pub ruleset sizes = (too_large, turn, stop, end)
