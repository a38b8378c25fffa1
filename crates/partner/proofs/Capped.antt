-- A number that is kept at a cap: what further digits make of it is the same, and what lies below the cap was not changed.
use Rattle.std.proofs.Common.{ℕ, ◌+◌, ◌*◌, ◌-◌, ◌≤◌, ◌<◌, min}
use mathlib.Core.Path.{◌≡◌, refl, ap, ◌∙◌}
use mathlib.Core.Bool.{true, false}
use mathlib.Core.List.{List, [], ◌∷◌}
use native.Mathlib.Decide.{dec_lt}
use native.Mathlib.Numerals.{add-one}
use native.Mathlib.Omega.{arith}
use lib.ListN.{length, drop, drop_of_length-le}
use lib.Seq.{drop-cons}
use Rattle.numbers.specs.Bytes.{byte_at}
use Rattle.numbers.specs.Decimal.{is_digit, number_from}
use Rattle.numbers.proofs.ReadBack.{grows}
use Rattle.partner.specs.Form.{held, digits_from}
use Rattle.partner.specs.Inner.{number_cap, Digits}

-- ---- the cap: more digits make as much of it
pub more-kept : (cap n : ℕ) (d : List ℕ) → min cap (number_from (min cap n) d) ≡ min cap (number_from n d)
more-kept cap n d = go (dec_lt n cap)
  where
    go : Dec (n < cap) → min cap (number_from (min cap n) d) ≡ min cap (number_from n d)
    go (yes l) =
        let e : min cap n ≡ n = omega arith in
        rw e
    go (no l) =
        let e : min cap n ≡ cap = omega arith in
        rw e (omega (arith, grows cap d, grows n d))

-- ---- the digits at a place
pub digits-on : (s : List ℕ) (i : ℕ) → i < length s → is_digit (byte_at s i) ≡ true → digits_from (drop i s) ≡ byte_at s i ∷ digits_from (drop (i + 1) s)
unfolding digits_from
digits-on s i h e = rw (add-one, drop-cons s i 0, e)

pub digits-none : (s : List ℕ) (i : ℕ) → length s ≤ i → digits_from (drop i s) ≡ []
unfolding digits_from
digits-none s i h = rw (drop_of_length-le s h)

pub digits-out : (s : List ℕ) (i : ℕ) → is_digit (byte_at s i) ≡ false → digits_from (drop i s) ≡ []
unfolding digits_from
digits-out s i e = go (dec_lt i (length s))
  where
    go : Dec (i < length s) → digits_from (drop i s) ≡ []
    go (yes h) = rw (drop-cons s i 0, e)
    go (no h) = digits-none s i (omega arith)

-- ---- read one by one
pub record Reading (s : List ℕ) (at first cap value i : ℕ) : Type 0 where
  pub small : value ≤ cap
  pub most : cap ≤ number_cap
  pub place : i + length (digits_from (drop i s)) ≡ at + length (digits_from (drop at s))
  pub number : min cap (number_from value (digits_from (drop i s))) ≡ min cap (number_from first (digits_from (drop at s)))

module _ (s : List ℕ) (at first cap : ℕ) where
  pub start : first ≤ cap → cap ≤ number_cap → Reading s at first cap first at
  start h m = record { small = h; most = m; place = refl; number = refl }

  pub turn : (value i next : ℕ) → Reading s at first cap value i → i < length s → is_digit (byte_at s i) ≡ true → next ≡ min cap (value * 10 + (byte_at s i - 48))
      → Reading s at first cap next (i + 1)
  unfolding number_from
  turn value i next r h e n =
      let d = digits-on s i h e in
      let len = ap length d in
      let w = value * 10 + (byte_at s i - 48) in
      record {
        small = rw n (omega arith);
        most = r.most;
        place = omega (arith, r.place);
        number = rw n (more-kept cap w (digits_from (drop (i + 1) s)) ∙ (rw d at r.number));
      }

  end : (value i : ℕ) → Reading s at first cap value i → digits_from (drop i s) ≡ [] → Digits s at first cap (held value i)
  unfolding number_from
  end value i r e =
      record {
        value = omega (arith, r.small, rw e at r.number);
        next = omega (arith, r.place, ap length e);
      }

  pub stopped : (value i : ℕ) → Reading s at first cap value i → is_digit (byte_at s i) ≡ false → Digits s at first cap (held value i)
  stopped value i r e = end value i r (digits-out s i e)

  pub ended : (value : ℕ) → Reading s at first cap value (length s) → Digits s at first cap (held value (length s))
  ended value r = end value (length s) r (digits-none s (length s) (omega arith))
