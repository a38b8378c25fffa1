-- The head of a unit record: what was read of it ends where the unit does, within the bytes, and comes wherever its first byte stands and its length fits. Kind and length of a unit are spelled in no other law.
use Prim.Native.Nat.{ℕ, ◌+◌, ◌≤◌, ◌<◌}
use mathlib.Core.Path.{◌≡◌, refl, sym, ap, ◌∙◌}
use mathlib.Core.Bool.{Bool, true, false, ◌&&◌, ◌||◌, false≢true, or-true}
use mathlib.Core.List.{List}
use native.Mathlib.Omega.{arith}
use native.Mathlib.Decide.{dec_lt}
use lib.Dec.{eqb}
use lib.IntN.{ℤ}
use lib.ListN.{length}
use borrow.Author.Tests.{lt-ltb, le-ltb, le-leb, eq-eqb}
use Rattle.numbers.specs.Bytes.{byte_at}
use Rattle.numbers.specs.Choice.{pick, eq_z}
use Rattle.terms.specs.Reply.{is, refused, need}
use Rattle.terms.proofs.Replies.{next-is}
use Rattle.records.specs.declared.day.DayRecord.{DayRecord}
use Rattle.records.specs.declared.unit.UnitRecord.{UnitRecord}
use Rattle.records.specs.Layouts.{unit_kind, interval_kind, is_unit, unit_length, interval_length, full_lower, full_upper, body_at, interval_at, unit_at, length_of, longest_unit}
use Rattle.records.specs.Reading.{head_of, kind_due, unit_head_of, unit_end, unit_of, ends_fit}
use Rattle.records.specs.Inner.{is_there, is_plain, is_interval, is_whole}
use Rattle.records.proofs.Heads.{headed, head-end, whole-head, whole-headed, head-there, head-longer}

-- ---- by kind
-- an 04h is longer than any other
module _ (u : UnitRecord) where
  of_length : (P : ℕ → Type 0) → P interval_length → P unit_length → P (length_of u)
  of_length P long short = go (eqb u.kind interval_kind)
    where
      go : (t : Bool) → P (pick t interval_length unit_length)
      go true = long
      go false = short

  -- a unit has bytes, no less than the shortest and no more than the longest
  pub length_some : 0 < length_of u
  length_some = of_length (λ n. 0 < n) (omega arith) (omega arith)

  pub length-least : unit_length ≤ length_of u
  length-least = of_length (λ n. unit_length ≤ n) (omega arith) (omega arith)

  pub length_most : length_of u ≤ longest_unit
  length_most = of_length (λ n. n ≤ longest_unit) (omega arith) (omega arith)

-- what stands at a place is by its first byte an 04h, or else a 03h, and has the ends of its kind
module _ (s : List ℕ) (at : ℕ) where
  of-kind : (P : ℕ → ℕ → Type 0) → (eqb (byte_at s at) interval_kind ≡ true → P interval_kind interval_length)
      → (eqb (byte_at s at) interval_kind ≡ false → P unit_kind unit_length) → P (kind_due s at) (length_of (unit_at s at))
  unfolding unit_at
  of-kind P interval plain = go (eqb (byte_at s at) interval_kind) refl
    where
      go : (t : Bool) → eqb (byte_at s at) interval_kind ≡ t → P (pick t interval_kind unit_kind) (pick (eqb (pick t interval_kind unit_kind) interval_kind) interval_length unit_length)
      go true e = interval e
      go false e = plain e

  pub kind-known : is_unit (kind_due s at) ≡ true
  kind-known = of-kind (λ kind len. is_unit kind ≡ true) (λ e. refl) (λ e. refl)

  pub ends-fit : ends_fit (unit_at s at) ≡ true
  unfolding unit_at
  ends-fit = go (eqb (byte_at s at) interval_kind) _ _
    where
      go : (t : Bool) (lower upper : ℤ)
          → eqb (pick t interval_kind unit_kind) interval_kind || (eq_z (pick t lower full_lower) full_lower && eq_z (pick t upper full_upper) full_upper) ≡ true
      go true lower upper = refl
      go false lower upper = refl

  -- a 03h is its body
  pub plain_body : is_plain s at ≡ true → unit_at s at ≡ body_at s at
  unfolding unit_at
  plain_body w =
      let e : eqb (byte_at s at) interval_kind ≡ false = rw (whole-headed s at unit_kind unit_length w).first in
      rw e

  pub plain-whole : is_plain s at ≡ true → is_whole s at ≡ true
  plain-whole w = rw w

  -- and an 04h has its ends behind it
  pub interval-body : is_interval s at ≡ true → unit_at s at ≡ interval_at s at
  unfolding unit_at
  interval-body w =
      let e : eqb (byte_at s at) interval_kind ≡ true = rw (whole-headed s at interval_kind interval_length w).first in
      rw e

  pub interval-whole : is_interval s at ≡ true → is_whole s at ≡ true
  interval-whole w = rw w (or-true (is_plain s at))

  -- a unit record that lies there whole does so by its own kind and length, and the other way round
  whole-there : is_whole s at ≡ true → is_there s at (kind_due s at) (length_of (unit_at s at)) ≡ true
  whole-there w =
      of-kind (λ kind len. is_there s at kind len ≡ true)
      (λ e. other (is_plain s at) refl e w)
      (λ e. plain (is_plain s at) refl e w)
    where
      other : (t : Bool) → is_plain s at ≡ t → eqb (byte_at s at) interval_kind ≡ true → t || is_interval s at ≡ true → is_interval s at ≡ true
      other true p e w =
          let k : eqb (byte_at s at) interval_kind ≡ false = rw (whole-headed s at unit_kind unit_length p).first in
          absurd (false≢true (sym k ∙ e))
      other false p e w = w

      plain : (t : Bool) → is_plain s at ≡ t → eqb (byte_at s at) interval_kind ≡ false → t || is_interval s at ≡ true → is_plain s at ≡ true
      plain true p e w = p
      plain false p e w =
          let k : eqb (byte_at s at) interval_kind ≡ true = rw (whole-headed s at interval_kind interval_length w).first in
          absurd (false≢true (sym e ∙ k))

  there-whole : is_there s at (kind_due s at) (length_of (unit_at s at)) ≡ true → is_whole s at ≡ true
  there-whole =
      of-kind (λ kind len. is_there s at kind len ≡ true → is_whole s at ≡ true)
      (λ e w. interval-whole w)
      (λ e w. plain-whole w)

-- kind and length are those of any place with the same first byte
module _ (s t : List ℕ) (at to : ℕ) (b : byte_at t to ≡ byte_at s at) where
  kind-same : kind_due t to ≡ kind_due s at
  unfolding unit_at
  kind-same = rw b

  pub length-same : length_of (unit_at t to) ≡ length_of (unit_at s at)
  length-same = ap (λ (kind : ℕ). pick (eqb kind interval_kind) interval_length unit_length) kind-same

-- ---- whatever its kind
module _ (s : List ℕ) (at : ℕ) where
  abbrev kind : ℕ
  kind = kind_due s at

  abbrev len : ℕ
  len = length_of (unit_at s at)

  pub unit-past : at < unit_end s at
  unit-past = omega (arith, length_some (unit_at s at))

  pub unit-most : unit_end s at ≤ at + longest_unit
  unit-most = omega (arith, length_most (unit_at s at))

  -- a unit record that lies there whole has its head read
  pub whole-read : is_whole s at ≡ true → unit_head_of s at ≡ is (unit_end s at)
  whole-read w = whole-head s at kind len (length_some (unit_at s at)) (whole-there s at w)

  pub whole_long : is_whole s at ≡ true → unit_end s at ≤ length s
  whole_long w = (whole-headed s at kind len (whole-there s at w)).long

  -- it ends by its first byte
  pub plain_end : is_whole s at ≡ true → byte_at s at ≡ unit_kind → unit_end s at ≡ at + unit_length
  plain_end w e = of-kind s at (λ k l. at + l ≡ at + unit_length) (λ f. absurd (not-both e f)) (λ f. refl)
    where
      not-both : byte_at s at ≡ unit_kind → eqb (byte_at s at) interval_kind ≡ true → ⊥
      not-both e f =
          let g : eqb (byte_at s at) interval_kind ≡ false = rw e in
          false≢true (sym g ∙ f)

  pub interval-end : is_whole s at ≡ true → (byte_at s at ≡ unit_kind → ⊥) → unit_end s at ≡ at + interval_length
  interval-end w other =
      of-kind s at (λ k l. byte_at s at ≡ k → at + l ≡ at + interval_length) (λ f first. refl) (λ f first. absurd (other first)) (whole-headed s at kind len (whole-there s at w)).first

  -- its head is refused by 1 only where the longest would not fit
  pub unit-there : at + longest_unit ≤ length s → (p : ℕ) → unit_head_of s at ≡ refused 1 p → ⊥
  unit-there h = head-there s at kind len (length_some (unit_at s at)) (omega (arith, unit-most))

  module _ {end : ℕ} (e : unit_head_of s at ≡ is end) where
    pub read-end : end ≡ unit_end s at
    read-end = sym (head-end s at kind len e)

    pub read_whole : is_whole s at ≡ true
    read_whole =
        let h = headed s at kind len e in
        there-whole s at (rw (le-leb (at + len) (length s) h.long, eq-eqb (byte_at s at) kind h.first))

    pub read-kind : is_unit (byte_at s at) ≡ true
    read-kind = ap is_unit (headed s at kind len e).first ∙ kind-known s at

    pub read-long : unit_end s at ≤ length s
    read-long = whole_long read_whole

  -- a unit that was read lies whole in the bytes
  pub unit-lies : (floor : ℕ) (day : DayRecord) {u : UnitRecord} → unit_of s at floor day ≡ is u → is_whole s at ≡ true
  unfolding unit_of
  unit-lies floor day e = read_whole (next-is _ _ e).1.0

  pub unit-long : (floor : ℕ) (day : DayRecord) {u : UnitRecord} → unit_of s at floor day ≡ is u → unit_end s at ≤ length s
  unit-long floor day e = whole_long (unit-lies floor day e)

-- the head of a unit in other bytes, where these have its first byte: the same tests, as far as both are long enough
module _ (s t : List ℕ) (at to : ℕ) (b : byte_at t to ≡ byte_at s at) where
  pub unit-moved : (n : ℕ) → unit_head_of s at ≡ is (at + n) → to + n ≤ length t → unit_head_of t to ≡ is (to + n)
  unfolding head_of need
  unit-moved n e l =
      let h = headed s at (kind s at) (len s at) e in
      let k : byte_at t to ≡ kind t to = b ∙ h.first ∙ sym (kind-same s t at to b) in
      let m : len t to ≡ n = length-same s t at to b ∙ omega (arith, head-end s at (kind s at) (len s at) e) in
      simp (eq-eqb (byte_at t to) (kind t to) k, m, lt-ltb to (length t) (omega (arith, length_some (unit_at t to))), le-leb (to + n) (length t) l)

-- unless it is cut short, the head is the same in longer bytes, where its first byte is
pub unit-longer : (s t : List ℕ) (at : ℕ) → length s ≤ length t → (at < length s → byte_at t at ≡ byte_at s at)
    → ((p : ℕ) → unit_head_of s at ≡ refused 1 p → ⊥) → unit_head_of t at ≡ unit_head_of s at
unfolding head_of need
unit-longer s t at more b uncut = go (dec_lt at (length s))
  where
    go : Dec (at < length s) → unit_head_of t at ≡ unit_head_of s at
    go (yes l) =
        rw (kind-same s t at at (b l)) (head-longer s t at (kind s at) (len s at) more b uncut)
    go (no l) = absurd (uncut (length s) (rw (le-ltb at (length s) (omega arith))))
