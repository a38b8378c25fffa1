-- Signed linear arithmetic by omega: every ℤ is `pp z - nn z`, two naturals of which one is 0, and each statement about ℤ is one about those.
-- Tests, equations and ranges go by rules (the set `zarith`); a sum, a difference or a negation by a fact that the call lists (`plus a b`, `minus a b`, `neg a`).
use Rattle.std.proofs.Common.{◌≡◌, ℕ, zero, suc, ◌+◌, ◌-◌, ◌^◌, ◌<◌, ◌≤◌, max, Bool, true, false, cond, ◌&&◌, T, eqb, ltb, ℤ, pos, negsuc, ◌+ℤ◌, ◌-ℤ◌, neg_ℤ, nat_abs, sym, refl, ap, ◌∙◌, subst, arith, w8, w16, w32, w64, SFits, to_z, of_z, ltb-false, ltb-true, le-ltb, lt-ltb, eqb-true, le-leb, leb-false, leb-true}
use borrow.Author.Tests.{lt-leb}
use lib.IntN.{sub_ℕ}
use lib.Signed.{lt_z, le_z, non_neg}
use mir.Syntax.{Width, w128}
use mir.Val.{bits, hbits, sel}
use mir.ValLaws.{to_z-of_z}
use mir.Facts.{sfits_lit}
use Rattle.numbers.specs.Range.{Within}

-- the part above zero, and the part below
abbrev pub pp : ℤ → ℕ
pp (pos n) = n
pp (negsuc n) = 0

abbrev pub nn : ℤ → ℕ
nn (pos n) = 0
nn (negsuc n) = suc n

true-false {ℓ} : {X : Type ℓ} → ◌≡◌ {A = Bool} false true → X
true-false e = absurd (subst T (sym e) tt)

false-true {ℓ} : {X : Type ℓ} → ◌≡◌ {A = Bool} true false → X
false-true e = absurd (subst T e tt)

-- ---- tests, as a branch leaves them
pub lt-t : (a b : ℤ) → lt_z a b ≡ true → pp a + nn b < pp b + nn a
lt-t (pos a) (pos b) e = omega (arith, ltb-true)
lt-t (pos a) (negsuc b) e = true-false e
lt-t (negsuc a) (pos b) e = omega arith
lt-t (negsuc a) (negsuc b) e = omega (arith, ltb-true)

pub lt-f : (a b : ℤ) → lt_z a b ≡ false → pp b + nn a ≤ pp a + nn b
lt-f (pos a) (pos b) e = omega (arith, ltb-false)
lt-f (pos a) (negsuc b) e = omega arith
lt-f (negsuc a) (pos b) e = false-true e
lt-f (negsuc a) (negsuc b) e = omega (arith, ltb-false)

pub le-t : (a b : ℤ) → le_z a b ≡ true → pp a + nn b ≤ pp b + nn a
le-t (pos a) (pos b) e = omega (arith, leb-true)
le-t (pos a) (negsuc b) e = true-false e
le-t (negsuc a) (pos b) e = omega arith
le-t (negsuc a) (negsuc b) e = omega (arith, leb-true)

pub le-f : (a b : ℤ) → le_z a b ≡ false → pp b + nn a < pp a + nn b
le-f (pos a) (pos b) e = omega (arith, leb-false)
le-f (pos a) (negsuc b) e = omega arith
le-f (negsuc a) (pos b) e = false-true e
le-f (negsuc a) (negsuc b) e = omega (arith, leb-false)

-- ---- the same, to be shown
pub t-lt : (a b : ℤ) → pp a + nn b < pp b + nn a → lt_z a b ≡ true
t-lt (pos a) (pos b) h = lt-ltb a b (omega arith)
t-lt (pos a) (negsuc b) h = absurd (no a b h)
  where
    no : (a b : ℕ) → a + suc b < 0 + 0 → ⊥
    no a b h = omega arith
t-lt (negsuc a) (pos b) h = refl
t-lt (negsuc a) (negsuc b) h = lt-ltb b a (omega arith)

pub f_lt : (a b : ℤ) → pp b + nn a ≤ pp a + nn b → lt_z a b ≡ false
f_lt (pos a) (pos b) h = le-ltb a b (omega arith)
f_lt (pos a) (negsuc b) h = refl
f_lt (negsuc a) (pos b) h = absurd (no a b h)
  where
    no : (a b : ℕ) → b + suc a ≤ 0 + 0 → ⊥
    no a b h = omega arith
f_lt (negsuc a) (negsuc b) h = le-ltb b a (omega arith)

pub t-le : (a b : ℤ) → pp a + nn b ≤ pp b + nn a → le_z a b ≡ true
t-le (pos a) (pos b) h = le-leb a b (omega arith)
t-le (pos a) (negsuc b) h = absurd (no a b h)
  where
    no : (a b : ℕ) → a + suc b ≤ 0 + 0 → ⊥
    no a b h = omega arith
t-le (negsuc a) (pos b) h = refl
t-le (negsuc a) (negsuc b) h = le-leb b a (omega arith)

pub f-le : (a b : ℤ) → pp b + nn a < pp a + nn b → le_z a b ≡ false
f-le (pos a) (pos b) h = lt-leb a b (omega arith)
f-le (pos a) (negsuc b) h = refl
f-le (negsuc a) (pos b) h = absurd (no a b h)
  where
    no : (a b : ℕ) → b + suc a < 0 + 0 → ⊥
    no a b h = omega arith
f-le (negsuc a) (negsuc b) h = lt-leb b a (omega arith)

-- ---- equations
pub eq-z : (a b : ℤ) → a ≡ b → pp a + nn b ≡ pp b + nn a
eq-z a b e = subst (λ (x : ℤ). pp a + nn x ≡ pp x + nn a) e refl

pub z-eq : (a b : ℤ) → pp a + nn b ≡ pp b + nn a → a ≡ b
z-eq (pos a) (pos b) h = ap pos (omega arith)
z-eq (pos a) (negsuc b) h = absurd (no a b h)
  where
    no : (a b : ℕ) → a + suc b ≡ 0 + 0 → ⊥
    no a b h = omega arith
z-eq (negsuc a) (pos b) h = absurd (no a b h)
  where
    no : (a b : ℕ) → 0 + 0 ≡ b + suc a → ⊥
    no a b h = omega arith
z-eq (negsuc a) (negsuc b) h = ap negsuc (omega arith)

-- ---- ranges
pub z-fits : (w : Width) (z : ℤ) → max (suc (pp z)) (nn z) ≤ 2 ^ hbits w → SFits w z
z-fits w (pos n) h = record { sfits = omega arith }
z-fits w (negsuc n) h = record { sfits = omega arith }

pub fits-z : (w : Width) (z : ℤ) → SFits w z → max (suc (pp z)) (nn z) ≤ 2 ^ hbits w
fits-z w (pos n) h = omega (arith, h.sfits)
fits-z w (negsuc n) h = omega (arith, h.sfits)

-- what the machine reads back from the bits of z is z
pub back-pp : (w : Width) (z : ℤ) → SFits w z → pp (to_z w (of_z w z)) ≡ pp z
back-pp w z f = ap (λ (x : ℤ). pp x) (to_z-of_z w z f)

pub back-nn : (w : Width) (z : ℤ) → SFits w z → nn (to_z w (of_z w z)) ≡ nn z
back-nn w z f = ap (λ (x : ℤ). nn x) (to_z-of_z w z f)

-- `a == b` of two signed numbers compares their bits
pub of_z-inj : (w : Width) (a b : ℤ) → SFits w a → SFits w b → of_z w a ≡ of_z w b → a ≡ b
of_z-inj w a b f g e = sym (to_z-of_z w a f) ∙ ap (to_z w) e ∙ to_z-of_z w b g

-- a cast to an unsigned type asks this of z, and that `nat_abs z` fits
pub z-nonneg : (z : ℤ) → nn z ≡ 0 → T (non_neg z)
z-nonneg (pos n) h = tt
z-nonneg (negsuc n) h = absurd (no n h)
  where
    no : (n : ℕ) → suc n ≡ 0 → ⊥
    no n h = omega arith

-- two's complement: what bits stand for
sel-ind : (c : Bool) (x y : ℤ) (P : ℤ → Type 0) → (c ≡ true → P x) → (c ≡ false → P y) → P (sel c x y)
sel-ind true x y P f g = f refl
sel-ind false x y P f g = g refl

pub read_down : (w : Width) (x : ℕ) → 2 ^ hbits w ≤ x → x < 2 ^ bits w → (pp (to_z w x) ≡ 0) × (nn (to_z w x) + x ≡ 2 ^ bits w)
read_down w x h l =
    sel-ind (ltb x (2 ^ hbits w)) (pos x) (negsuc (2 ^ bits w - suc x)) (λ z. (pp z ≡ 0) × (nn z + x ≡ 2 ^ bits w))
    (λ e. absurd (no (2 ^ hbits w) (ltb-true x (2 ^ hbits w) e) h)) (λ e. (refl, omega arith))
  where
    no : (m : ℕ) → x < m → m ≤ x → ⊥
    no m k l = omega arith

-- one of the two parts is 0: a difference that omega splits
pub one_side : (z : ℤ) → pp z - nn z ≡ pp z
one_side (pos n) = omega arith
one_side (negsuc n) = omega arith

pub abs-z : (z : ℤ) → nat_abs z ≡ pp z + nn z
abs-z (pos n) = omega arith
abs-z (negsuc n) = omega arith

pub fits-side : (w : Width) (z : ℤ) → SFits w z → pp z - nn z ≡ pp z
fits-side w z f = one_side z

pub within-z : (b : ℕ) (z : ℤ) → Within b z → pp z + nn z ≤ b
within-z b z h = omega (arith, h.size, abs-z z)

pub z-within : (b : ℕ) (z : ℤ) → pp z + nn z ≤ b → Within b z
z-within b z h = record { size = omega (arith, abs-z z) }

-- ---- tests in code: the machine reads both sides back from their bits
pub zero-fits : (w : Width) → SFits w (pos 0)
zero-fits w8 = sfits_lit tt
zero-fits w16 = sfits_lit tt
zero-fits w32 = sfits_lit tt
zero-fits w64 = sfits_lit tt
zero-fits w128 = sfits_lit tt

-- ---- sums
-- z is `p - n`, and no further from zero than p and n are
pub record Diff (z : ℤ) (p n : ℕ) : Type 0 where
  pub is : pp z + n ≡ p + nn z
  pub up : pp z ≤ p
  pub down : nn z ≤ n

cond_ind : (c : Bool) (x y : ℤ) (P : ℤ → Type 0) → (c ≡ true → P x) → (c ≡ false → P y) → P (cond c x y)
cond_ind true x y P f g = f refl
cond_ind false x y P f g = g refl

pub sub_is : (p n : ℕ) → Diff (sub_ℕ p n) p n
sub_is p n =
    cond_ind (ltb p n) (negsuc (n - suc p)) (pos (p - n)) (λ z. Diff z p n)
    (λ e. record { is = omega (arith, ltb-true); up = omega (arith, ltb-true); down = omega (arith, ltb-true) })
    (λ e. record { is = omega (arith, ltb-false); up = omega (arith, ltb-false); down = omega (arith, ltb-false) })

pub plus : (a b : ℤ) → Diff (a +ℤ b) (pp a + pp b) (nn a + nn b)
plus (pos a) (pos b) = record { is = omega arith; up = omega arith; down = omega arith }
plus (pos a) (negsuc b) = let d = sub_is a (suc b) in record { is = omega arith; up = omega arith; down = omega arith }
plus (negsuc a) (pos b) = let d = sub_is b (suc a) in record { is = omega arith; up = omega arith; down = omega arith }
plus (negsuc a) (negsuc b) = record { is = omega arith; up = omega arith; down = omega arith }

pub neg : (a : ℤ) → (pp (neg_ℤ a) ≡ nn a) × (nn (neg_ℤ a) ≡ pp a)
neg (pos zero) = (refl, refl)
neg (pos (suc n)) = (refl, refl)
neg (negsuc n) = (refl, refl)

pub minus : (a b : ℤ) → Diff (a -ℤ b) (pp a + nn b) (nn a + pp b)
minus a b = let d = plus a (neg_ℤ b) in let e = neg b in record { is = omega arith; up = omega arith; down = omega arith }

pub ruleset zarith = (arith, lt-t, lt-f, le-t, le-f, t-lt, f_lt, t-le, f-le, eq-z, z-eq, z-fits, fits-z, back-pp, back-nn, z-nonneg, fits-side, within-z, z-within)

pub asym : (a b : ℤ) → lt_z a b ≡ true → lt_z b a ≡ false
asym a b e = omega zarith

-- what holds at both values of a test holds of it
pub by-test : (t : Bool) (P : Bool → Type 0) → (t ≡ true → P true) → (t ≡ false → P false) → P t
by-test true P f g = f refl
by-test false P f g = g refl
