-- The digits of a number, laid from the last one back: those that are laid stand behind those of what is left.
use Rattle.std.proofs.Common.{◌≡◌, ℕ, zero, suc, ◌+◌, ◌-◌, ◌/◌, ◌%◌, ◌^◌, ◌<◌, ◌≤◌, List, [], ◌∷◌, ◌++◌, length, sym, refl, ap, ◌∙◌, append_assoc, append-nil, arith}
use Rattle.numbers.specs.Bytes.{laid_at}
use Rattle.numbers.proofs.Laid.{laid_none, laid-before, length-laid}
use Rattle.numbers.specs.Decimal.{digit, digits, decimal}
use Rattle.numbers.proofs.Digits.{last-digit, more-digits, more-length, tenth-below, some}

-- what is left of n are the digits of rest, which end at the place last
pub record Spelling (n at : ℕ) (entry out : List ℕ) (last rest : ℕ) : Type 0 where
  pub most : ℕ
  pub tail : List ℕ
  pub small : rest < 10 ^ suc most
  pub parts : digits (suc most) rest ++ tail ≡ decimal n
  pub here : at + length (digits (suc most) rest) ≡ last + 1
  pub fits : last + 1 + length tail ≤ length entry
  pub so : out ≡ laid_at entry (last + 1) tail

module _ (n at : ℕ) (entry : List ℕ) where
  pub start : (count : ℕ) → n < 2 ^ 64 → count ≡ length (decimal n) → at + count ≤ length entry → Spelling n at entry entry (at + count - 1) n
  unfolding decimal
  start count w e h =
      let s = some 19 n in
      let q : at + count - 1 + 1 ≡ at + count = omega arith in
      record {
        most = 19;
        tail = [];
        small = omega arith;
        parts = append-nil (digits 20 n);
        here = omega arith;
        fits = omega arith;
        so = rw q (laid_none entry (at + count));
      }

  pub kept : {out : List ℕ} {last rest : ℕ} → Spelling n at entry out last rest → length out ≡ length entry
  kept {out} {last} s = ap length s.so ∙ length-laid entry (last + 1) s.tail s.fits

  turn_by : {out next : List ℕ} (last rest most : ℕ) (tail : List ℕ) → rest < 10 ^ suc most → digits (suc most) rest ++ tail ≡ decimal n
      → at + length (digits (suc most) rest) ≡ last + 1 → last + 1 + length tail ≤ length entry → out ≡ laid_at entry (last + 1) tail
      → 10 ≤ rest → next ≡ laid_at out last (digit (rest % 10) ∷ []) → Spelling n at entry next (last - 1) (rest / 10)
  turn_by last rest zero tail small parts here fits so t e = absurd (omega arith)
  turn_by last rest (suc m) tail small parts here fits so t e =
      let len = more-length (suc m) rest t in
      let s = some m (rest / 10) in
      let d = digit (rest % 10) in
      let q : last - 1 + 1 ≡ last = omega arith in
      record {
        most = m;
        tail = d ∷ tail;
        small = tenth-below (suc m) rest small;
        parts = sym (append_assoc (digits (suc m) (rest / 10)) (d ∷ []) tail) ∙ ap (λ (x : List ℕ). x ++ tail) (sym (more-digits (suc m) rest t)) ∙ parts;
        here = omega arith;
        fits = omega arith;
        so = e ∙ rw (so, q) (laid-before entry last (d ∷ []) tail (last + 1) refl fits);
      }

  -- one digit more
  pub turn : {out next : List ℕ} (last rest : ℕ) → Spelling n at entry out last rest → 10 ≤ rest → next ≡ laid_at out last (digit (rest % 10) ∷ [])
      → Spelling n at entry next (last - 1) (rest / 10)
  turn last rest s t e = turn_by last rest s.most s.tail s.small s.parts s.here s.fits s.so t e

  -- there is a place before the last digit
  pub front : {out : List ℕ} (last rest : ℕ) → Spelling n at entry out last rest → 10 ≤ rest → 1 ≤ last
  front last rest s t = go s.most s.small s.here
    where
      go : (most : ℕ) → rest < 10 ^ suc most → at + length (digits (suc most) rest) ≡ last + 1 → 1 ≤ last
      go zero small here = absurd (omega arith)
      go (suc m) small here = omega (arith, more-length (suc m) rest t, some m (rest / 10))

  -- the first digit
  pub end : {out next : List ℕ} (last rest : ℕ) → Spelling n at entry out last rest → rest < 10 → next ≡ laid_at out last (digit rest ∷ [])
      → next ≡ laid_at entry at (decimal n)
  end last rest s t e =
      let one = last-digit s.most rest t in
      let all : digit rest ∷ s.tail ≡ decimal n = ap (λ (x : List ℕ). x ++ s.tail) (sym one) ∙ s.parts in
      let len : length (digits (suc s.most) rest) ≡ 1 = ap length one in
      let q : last ≡ at = omega (arith, s.here) in
      rw (e, s.so, laid-before entry last (digit rest ∷ []) s.tail (last + 1) refl s.fits, all, q)

-- the digits counted, and those of what is left
pub record Counting (n count rest : ℕ) : Type 0 where
  pub most : ℕ
  pub small : rest < 10 ^ suc most
  pub counted : count + length (digits (suc most) rest) ≡ length (decimal n) + 1

pub first_count : (n : ℕ) → n < 2 ^ 64 → Counting n 1 n
unfolding decimal
first_count n h = record { most = 19; small = omega arith; counted = omega arith }

pub next-count : (n count rest : ℕ) → Counting n count rest → 10 ≤ rest → Counting n (count + 1) (rest / 10)
next-count n count rest s t = go s.most s.small s.counted
  where
    go : (most : ℕ) → rest < 10 ^ suc most → count + length (digits (suc most) rest) ≡ length (decimal n) + 1 → Counting n (count + 1) (rest / 10)
    go zero small counted = absurd (omega arith)
    go (suc m) small counted = record { most = m; small = tenth-below (suc m) rest small; counted = omega (arith, more-length (suc m) rest t) }

pub below-count : (n count rest : ℕ) → Counting n count rest → count ≤ length (decimal n)
below-count n count rest s = omega (arith, s.counted, some s.most rest)

pub last-count : (n count rest : ℕ) → Counting n count rest → rest < 10 → count ≡ length (decimal n)
last-count n count rest s t =
    let len : length (digits (suc s.most) rest) ≡ 1 = ap length (last-digit s.most rest t) in
    omega (arith, s.counted)
