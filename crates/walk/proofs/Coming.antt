-- What a head that was read in a state says of the record, since each test of the head passed; and that it is the head of the one kind that came, as a record that is read by its own head comes.
use Prim.Native.Nat.{ℕ, ◌+◌, ◌≤◌, ◌<◌}
use mathlib.Core.Path.{◌≡◌, refl, sym, ap, ◌∙◌}
use mathlib.Core.Bool.{Bool, true, false}
use mathlib.Core.List.{List}
use native.Mathlib.Omega.{arith}
use borrow.Author.Tests.{ltb-true, leb-true, eqb-true, lt-ltb, le-leb, eq-eqb}
use lib.Dec.{eqb, ltb}
use lib.ListN.{length}
use Rattle.std.specs.Prelude.{None}
use Rattle.numbers.specs.Bytes.{byte_at}
use Rattle.numbers.specs.Choice.{pick}
use Rattle.terms.specs.Reply.{Reply, is, need, next}
use Rattle.terms.proofs.Replies.{need-is, next-need}
use Rattle.records.specs.Layouts.{day_kind, day_length, day_at, day_length_of, group_kind, group_length, end_kind, end_length}
use Rattle.records.specs.Reading.{head_of, day_head_of, group_head_of, end_head_of}
use Rattle.records.proofs.Heads.{headed, whole-head}
use Rattle.walk.specs.declared.table.State.{State}
use Rattle.walk.specs.declared.table.State.TheVariants.{Fresh, Open, Closed}
use Rattle.walk.specs.declared.table.Role.{Role}
use Rattle.walk.specs.declared.table.Role.TheVariants.{Opens, Block, Closes}
use Rattle.walk.specs.declared.table.Head.{Head}
use Rattle.walk.specs.Table.{comes, body, Coming, the_day, a_group, the_end, length_as, Row, role_of, body_of, is_block, may_come, head_in, block_head_in}

-- the table, row by row: what holds of each of its records holds of whatever may come
by_row : (P : State → ℕ → Type 0) → P Fresh day_kind → P Open group_kind → P Open end_kind → (state : State) (kind : ℕ) → may_come state kind ≡ true → P state kind
by_row P day group end Fresh kind e = go (eqb kind day_kind) refl e
  where
    go : (d : Bool) → eqb kind day_kind ≡ d → ltb 0 (body (pick d (comes Opens day_length) None)) ≡ true → P Fresh kind
    go true k e = rw (eqb-true kind day_kind k) day
    go false k e = absurd (omega (arith, ltb-true 0 0 e))
by_row P day group end Open kind e = go (eqb kind group_kind) (eqb kind end_kind) refl refl e
  where
    go : (g n : Bool) → eqb kind group_kind ≡ g → eqb kind end_kind ≡ n → ltb 0 (body (pick g (comes Block group_length) (pick n (comes Closes end_length) None))) ≡ true → P Open kind
    go true n k j e = rw (eqb-true kind group_kind k) group
    go false true k j e = rw (eqb-true kind end_kind j) end
    go false false k j e = absurd (omega (arith, ltb-true 0 0 e))
by_row P day group end Closed kind e = absurd (omega (arith, ltb-true 0 0 e))

pub row-comes : (state : State) (kind : ℕ) → may_come state kind ≡ true → Row state kind
row-comes =
    by_row Row (record { which = the_day refl refl; fixed = refl }) (record { which = a_group refl refl; fixed = refl }) (record { which = the_end refl refl; fixed = refl })

-- the table has a column for each
pub kind-below : (state : State) (kind : ℕ) → may_come state kind ≡ true → kind < 16
kind-below = by_row (λ _ (kind : ℕ). kind < 16) (omega arith) (omega arith) (omega arith)

-- what is a block is no other record, and comes to an open day alone
pub is_block-only : (role : Role) → is_block role ≡ true → role ≡ Block
is_block-only Opens e =
    let z : ◌≡◌ {A = ℕ} 0 1 = cc in
    absurd (omega arith)
is_block-only Block e = refl
is_block-only Closes e =
    let z : ◌≡◌ {A = ℕ} 0 1 = cc in
    absurd (omega arith)

pub block-open : (state : State) (role : Role) → Coming state role → role ≡ Block → state ≡ Open
block-open state role (the_day p q) k =
    let e : is_block Opens ≡ is_block Block = ap is_block (sym q ∙ k) in
    let z : ◌≡◌ {A = ℕ} 0 1 = cc in
    absurd (omega arith)
block-open state role (a_group p q) k = p
block-open state role (the_end p q) k = p

-- how long the record is that stands at a place as this to the day
abbrev pub length_in : Role → List ℕ → ℕ → ℕ
length_in Opens s at = day_length_of (day_at s at)
length_in Block s at = group_length
length_in Closes s at = end_length

fixed_in : (s : List ℕ) (at : ℕ) (role : Role) → length_as role ≡ length_in role s at
fixed_in s at Opens = refl
fixed_in s at Block = refl
fixed_in s at Closes = refl

pub record Came (s : List ℕ) (at : ℕ) (state : State) (h : Head) : Type 0 where
  pub first : role_of (byte_at s at) ≡ h.role
  pub may : may_come state (byte_at s at) ≡ true
  pub which : Coming state h.role
  pub past : h.end ≡ at + (1 + body_of state (byte_at s at))
  pub end : h.end ≡ at + length_in h.role s at
  pub long : h.end ≤ length s

module _ (s : List ℕ) (at : ℕ) (state : State) where
  pub came : (h : Head) → head_in s at state ≡ is h → Came s at state h
  unfolding head_in
  came h e =
      let a = need-is _ _ _ _ e in
      let b = need-is _ _ _ _ a.1 in
      let d = need-is _ _ _ _ b.1 in
      let k : role_of (byte_at s at) ≡ h.role = cc in
      let n : at + (1 + body_of state (byte_at s at)) ≡ h.end = cc in
      let r = row-comes state (byte_at s at) b.0 in
      record {
        first = k;
        may = b.0;
        which = rw (← k) r.which;
        past = sym n;
        end = rw (← k) (sym n ∙ ap (λ (x : ℕ). at + x) (r.fixed ∙ fixed_in s at (role_of (byte_at s at))));
        long = omega (arith, leb-true (at + (1 + body_of state (byte_at s at))) (length s) d.0);
      }

  -- a block that came has its group record whole
  pub group-whole : (h : Head) → head_in s at state ≡ is h → is_block h.role ≡ true → at + group_length ≤ length s
  group-whole h e k =
      let m = came h e in
      let n : h.end ≡ at + group_length = m.end ∙ ap (λ (x : Role). at + length_in x s at) (is_block-only h.role k) in
      omega (arith, m.long)

  -- where a kind may come and has come, its head by the table is its head by its kind and length
  head-of : (kind : ℕ) → may_come state kind ≡ true → byte_at s at ≡ kind
      → head_in s at state ≡ next (head_of s at kind (1 + body_of state kind)) λ end. is (record { role = role_of kind; end = end })
  unfolding head_in head_of need next
  head-of kind c k =
      simp (k, c, eq-eqb kind kind refl, next-need {A = ℕ} {B = Head})

-- a record whose own head was read comes to the day that takes it
module _ (s : List ℕ) {end : ℕ} where
  by_kind : (state : State) (kind len : ℕ) → may_come state kind ≡ true → 1 + body_of state kind ≡ len → head_of s 0 kind len ≡ is end
      → head_in s 0 state ≡ is (record { role = role_of kind; end = end })
  unfolding next
  by_kind state kind len may fixed e = head-of s 0 state kind may (headed s 0 kind len e).first ∙ rw (fixed, e)

  pub day-comes : day_head_of s ≡ is end → head_in s 0 Fresh ≡ is (record { role = Opens; end = end })
  day-comes e = by_kind Fresh day_kind day_length refl refl e

  pub group-comes : group_head_of s ≡ is end → head_in s 0 Open ≡ is (record { role = Block; end = end })
  group-comes e = by_kind Open group_kind group_length refl refl e

  pub end-comes : end_head_of s ≡ is end → head_in s 0 Open ≡ is (record { role = Closes; end = end })
  end-comes e = by_kind Open end_kind end_length refl refl e

-- and the head that came is its record's own, by the byte that came
abbrev pub head_as : Role → List ℕ → Reply ℕ
head_as Opens s = day_head_of s
head_as Block s = group_head_of s
head_as Closes s = end_head_of s

module _ (s : List ℕ) (state : State) where
  by_byte : may_come state (byte_at s 0) ≡ true → head_as (role_of (byte_at s 0)) s ≡ head_of s 0 (byte_at s 0) (1 + body_of state (byte_at s 0))
  by_byte may =
      by_row (λ (x : State) (kind : ℕ). byte_at s 0 ≡ kind → head_as (role_of kind) s ≡ head_of s 0 kind (1 + body_of x kind)) (λ _. refl) (λ _. refl) (λ _. refl) state (byte_at s 0) may refl

  pub own-head : (h : Head) → head_in s 0 state ≡ is h → (role : Role) → h.role ≡ role → head_as role s ≡ is h.end
  own-head h e role k =
      let m = came s 0 state h e in
      let n : 1 + body_of state (byte_at s 0) ≡ h.end = omega (arith, m.past) in
      let long = le-leb (0 + h.end) (length s) (omega (arith, m.long)) in
      let z : 0 + h.end ≡ h.end = omega arith in
      let whole = whole-head s 0 (byte_at s 0) h.end (omega arith) (simp (long, eq-eqb (byte_at s 0) (byte_at s 0) refl)) ∙ ap is z in
      rw (← k, ← m.first) (by_byte m.may ∙ rw n whole)

-- a block by its head: it is one by the table, it comes, and its group record is there whole
pub record BlockCame (s : List ℕ) (at : ℕ) (state : State) (h : Head) : Type 0 where
  pub first : role_of (byte_at s at) ≡ Block
  pub read : head_in s at state ≡ is h
  pub role : h.role ≡ Block
  pub long : at + group_length ≤ length s

pub block-came : (s : List ℕ) (at : ℕ) (state : State) (h : Head) → block_head_in s at state ≡ is h → BlockCame s at state h
unfolding block_head_in
block-came s at state h e =
    let b = need-is _ _ _ _ (need-is _ _ _ _ e).1 in
    let k = is_block-only (role_of (byte_at s at)) b.0 in
    let r = sym (came s at state h b.1).first ∙ k in
    record { first = k; read = b.1; role = r; long = group-whole s at state h b.1 (ap is_block r) }

-- a record that came at a place comes wherever its first byte stands and its length fits
pub head-moved : (s t : List ℕ) (at to n : ℕ) (state : State) {h : Head} → head_in s at state ≡ is h → h.end ≡ at + n → byte_at t to ≡ byte_at s at → to + n ≤ length t
    → head_in t to state ≡ is (record { role = h.role; end = to + n })
unfolding head_in need
head-moved s t at to n state {h} e q b l =
    let m = came s at state h e in
    let x : 1 + body_of state (byte_at s at) ≡ n = omega (arith, m.past) in
    simp (b, lt-ltb to (length t) (omega arith), m.may, x, le-leb (to + n) (length t) l, m.first)
