-- The digits of a signed number, by its sign: they are those of its size, behind a minus sign where it is negative.
use Prim.Native.Nat.{ℕ, ◌+◌, ◌^◌, ◌≤◌, ◌<◌}
use mathlib.Core.Path.{◌≡◌, refl, ap, ◌∙◌}
use mathlib.Core.Bool.{true, false}
use mathlib.Core.List.{◌∷◌}
use native.Mathlib.Omega.{arith}
use lib.IntN.{ℤ, pos, negsuc, nat_abs}
use lib.Signed.{lt_z}
use mir.Syntax.{w32}
use mir.Val.{hbits}
use mir.Facts.{to_z_pos}
use Rattle.numbers.specs.Bytes.{signed32}
use Rattle.numbers.specs.Decimal.{decimal}
use Rattle.numbers.proofs.Integers.{lt-t, lt-f, abs-z, read_down, zarith}
use Rattle.lines.specs.Lines.{signed_decimal}

pub negative : (z : ℤ) → lt_z z (pos 0) ≡ true → signed_decimal z ≡ 45 ∷ decimal (nat_abs z)
unfolding signed_decimal
negative (pos n) t = absurd (omega (arith, lt-t (pos n) (pos 0) t))
negative (negsuc n) t = refl

pub natural : (z : ℤ) → lt_z z (pos 0) ≡ false → signed_decimal z ≡ decimal (nat_abs z)
unfolding signed_decimal
natural (pos n) t = refl
natural (negsuc n) t = absurd (omega (arith, lt-f (negsuc n) (pos 0) t))

-- the digits of the number that 32 bits stand for: those of the bits below 2 ^ 31, and from there on those of what is missing to 2 ^ 32
pub low_bits : (x : ℕ) → x < 2147483648 → signed_decimal (signed32 x) ≡ decimal x
unfolding signed_decimal
low_bits x h =
    let k : x < 2 ^ hbits w32 = omega arith in
    ap signed_decimal (to_z_pos w32 k)

pub high_bits : (x size : ℕ) → 2147483648 ≤ x → 0 < size → x + size ≡ 4294967296 → signed_decimal (signed32 x) ≡ 45 ∷ decimal size
high_bits x size h p e =
    let d = read_down w32 x (omega arith) (omega arith) in
    let t : lt_z (signed32 x) (pos 0) ≡ true = omega (zarith, d.0, d.1) in
    let s : nat_abs (signed32 x) ≡ size = omega (arith, abs-z (signed32 x), d.0, d.1) in
    negative (signed32 x) t ∙ ap (λ (n : ℕ). 45 ∷ decimal n) s
