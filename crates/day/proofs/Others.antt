use Rattle.std.specs.Prelude.{Result}
use Rattle.terms.specs.Refusals.{reply}
-- Only 13 of a block and 14 of an end record depend on other blocks: every other test is of the bytes and the day record, since days that runs of calls give are possible.
use Prim.Native.Nat.{ℕ}
use mathlib.Core.Path.{◌≡◌, refl, sym, ap, ◌∙◌}
use mathlib.Core.Bool.{Bool, true, false}
use mathlib.Core.List.Memᴰ
use mathlib.Core.List.{List, ◌++◌}
use lib.Dec.{eqb, leb, ltb}
use lib.ListN.{length, drop}
use Rattle.numbers.specs.Bytes.{byte_at}
use Rattle.terms.specs.Reply.{Reply, is, refused, need, next}
use Rattle.terms.specs.Checks.{unit_count}
use Rattle.terms.proofs.Replies.{never}
use Rattle.records.specs.Layouts.{group_at, end_at, end_groups}
use Rattle.records.specs.Reading.{follows, group_fields_of, end_fields_of}
use Rattle.walk.specs.declared.table.State.TheVariants.{Open}
use Rattle.walk.specs.declared.table.Role.{Role}
use Rattle.walk.specs.declared.table.Role.TheVariants as R
use Rattle.walk.specs.declared.table.Head.{Head}
use Rattle.walk.specs.Table.{role_of, head_in, block_head_in}
use Rattle.blocks.specs.declared.check.Block.{Block}
use Rattle.blocks.specs.Blocks.{block_key}
use Rattle.day.specs.declared.value.Day.{Day}
use Rattle.day.specs.declared.offer.Lengths.{Lengths}
use Rattle.day.specs.Outcome.{Step}
use Rattle.day.specs.Outcome.{Offered}
use Rattle.day.specs.Days.{counted, closed, possible}
use Rattle.day.specs.Checking.{block_fields_of, block_head_for, check_of}
use Rattle.day.specs.Offers.{head_for, block_taken, end_taken, taken, offer_of, written_of, offer_reply, room_after, Offers}
use Rattle.day.specs.Others.{by, Agrees, this, that, agreed, lengths_of}
use Rattle.day.specs.Reached.{Reached}
use Rattle.day.proofs.ByKind.{head-came}
use Rattle.day.proofs.BlockAlone.{head-possible}
use Rattle.day.proofs.Reaching.{reached-possible}
use Rattle.terms.specs.declared.refusal.Refusal.{Refusal}

-- two readings that differ in the test of 13 alone, behind 4 and 5
keyed : {G B : Type 0} (q c f g : Bool) (rest : Reply G) (after : G → Reply B)
    → Agrees R.Block
    (next (need q 4 4 (need c 5 5 (need f 13 1 rest))) after)
    (next (need q 4 4 (need c 5 5 (need g 13 1 rest))) after)
    (next (need q 4 4 (need c 5 5 (need f 13 1 rest))) after ≡ next (need q 4 4 (need c 5 5 (need g 13 1 rest))) after)
unfolding need next
keyed false c f g rest after = agreed refl
keyed true false f g rest after = agreed refl
keyed true true false g rest after = this (by 13 1 (Memᴰ.head refl) refl)
keyed true true true false rest after = that (by 13 1 (Memᴰ.head refl) refl)
keyed true true true true rest after = agreed refl

-- what a block that passed leaves, whichever day it came to
room-then : (x : Reply Block) (a b : Day) (room : ℕ)
    → lengths_of (next x λ block. need (leb block.written room) 12 0 (is (record { used = block.used; written = block.written; day = counted a block.key })))
    ≡ lengths_of (next x λ block. need (leb block.written room) 12 0 (is (record { used = block.used; written = block.written; day = counted b block.key })))
unfolding next need
room-then (refused n p) a b room = refl
room-then (is block) a b room = by-room (leb block.written room)
  where
    by-room : (t : Bool)
        → lengths_of (need t 12 0 (is (record { used = block.used; written = block.written; day = counted a block.key })))
        ≡ lengths_of (need t 12 0 (is (record { used = block.used; written = block.written; day = counted b block.key })))
    by-room true = refl
    by-room false = refl

-- a refusal goes through what would come after
onward : {A B : Type 0} (x : Reply A) (f : A → Reply B) {n p : ℕ} → x ≡ refused n p → next x f ≡ refused n p
unfolding next
onward x f e = rw e

-- the room is told by the reply
same-room : (x y : Reply Step) (bytes room : List ℕ) → lengths_of x ≡ lengths_of y → room_after x bytes room ≡ room_after y bytes room
unfolding room_after
same-room (is x) (is y) bytes room e =
    let w : ◌≡◌ {A = Lengths} (record { used = x.used; written = x.written }) (record { used = y.used; written = y.written }) = cc e in
    ap (λ (l : Lengths). bytes ++ drop l.written room) w
same-room (is x) (refused n p) bytes room e = never (sym e)
same-room (refused n p) (is y) bytes room e = never e
same-room (refused n p) (refused m q) bytes room e = refl

module _ (a b : Day) (d : a.«record» ≡ b.«record») (s : List ℕ) where
  fields-others : Agrees R.Block (block_fields_of a s) (block_fields_of b s) (block_fields_of a s ≡ block_fields_of b s)
  unfolding block_fields_of group_fields_of
  fields-others =
      rw d (keyed (ltb (group_at s 0).quarter b.«record».quarters) (unit_count (group_at s 0).count) (follows a.last (block_key s)) (follows b.last (block_key s)) _ _)

  abbrev Like : Role → Reply Step → Reply Step → Type 0
  Like role x y = Agrees role x y (lengths_of x ≡ lengths_of y)

  block-others : (room : ℕ) → Like R.Block (block_taken a s room) (block_taken b s room)
  unfolding block_taken
  block-others room = go fields-others
    where
      go : Agrees R.Block (block_fields_of a s) (block_fields_of b s) (block_fields_of a s ≡ block_fields_of b s) → Like R.Block (block_taken a s room) (block_taken b s room)
      go (this (by n p m e)) = this (by n p m (onward (block_fields_of a s) _ e))
      go (that (by n p m e)) = that (by n p m (onward (block_fields_of b s) _ e))
      go (agreed e) = agreed (rw e (room-then (block_fields_of b s) a b room))

  end-others : (end : ℕ) → Like R.Closes (end_taken a s end) (end_taken b s end)
  unfolding end_taken end_fields_of next need
  end-others end = go (eqb (end_at s 0).groups a.groups) (eqb (end_at s 0).groups b.groups)
    where
      go : (f g : Bool)
          → Like R.Closes
          (next (need f 14 end_groups.place (is (end_at s 0))) λ _. is (record { used = end; written = 0; day = closed a }))
          (next (need g 14 end_groups.place (is (end_at s 0))) λ _. is (record { used = end; written = 0; day = closed b }))
      go false g = this (by 14 end_groups.place (Memᴰ.head refl) refl)
      go true false = that (by 14 end_groups.place (Memᴰ.head refl) refl)
      go true true = agreed refl

  taken-others : (room : ℕ) (role : Role) (end : ℕ) → Like role (taken a s room role end) (taken b s room role end)
  taken-others room R.Opens end = agreed refl
  taken-others room R.Block end = block-others room
  taken-others room R.Closes end = end-others end

  module _ (ra : Reached a) (rb : Reached b) (oa : a.state ≡ Open) (ob : b.state ≡ Open) where
    -- their heads are one
    head-open : (day : Day) → possible day ≡ true → day.state ≡ Open → head_for day s ≡ need (ltb 0 (length s)) 1 (length s) (head_in s 0 Open)
    unfolding head_for need
    head-open day p q = rw (p, q)

    heads : head_for a s ≡ head_for b s
    heads = head-open a (reached-possible ra) oa ∙ sym (head-open b (reached-possible rb) ob)

    block-heads : block_head_for a s ≡ block_head_for b s
    block-heads = head-possible a s (reached-possible ra) ∙ ap (block_head_in s 0) (oa ∙ sym ob) ∙ sym (head-possible b s (reached-possible rb))

    reply-others : (room : ℕ) → Like (role_of (byte_at s 0)) (offer_of a s room) (offer_of b s room)
    unfolding offer_of next
    reply-others room = rw heads (go (head_for b s) refl)
      where
        go : (x : Reply Head) → head_for b s ≡ x
            → Like (role_of (byte_at s 0)) (next x λ head. taken a s room head.role head.end) (next x λ head. taken b s room head.role head.end)
        go (is head) e = rw (head-came b s head e).first (taken-others room head.role head.end)
        go (refused n p) e = agreed refl

    -- What is offered to two open days with one day record, which runs of calls give, is refused by what may depend on other blocks in one of them,
    -- or is refused alike in both, or taken with the same bytes used and written and the same room.
    pub offer-others : (entry : List ℕ) (r q : Offered) (exit left : List ℕ) → Offers a s entry r exit → Offers b s entry q left
        → Agrees (role_of (byte_at s 0)) (offer_reply r) (offer_reply q) ((lengths_of (offer_reply r) ≡ lengths_of (offer_reply q)) × (exit ≡ left))
    offer-others entry r q exit left x y = rw (x.gave.replied, y.gave.replied) (go (reply-others (length entry)))
      where
        go : Like (role_of (byte_at s 0)) (offer_of a s (length entry)) (offer_of b s (length entry))
            → Agrees (role_of (byte_at s 0)) (offer_of a s (length entry)) (offer_of b s (length entry))
            ((lengths_of (offer_of a s (length entry)) ≡ lengths_of (offer_of b s (length entry))) × (exit ≡ left))
        go (this e) = this e
        go (that e) = that e
        go (agreed e) = agreed (e, x.room ∙ same-room (offer_of a s (length entry)) (offer_of b s (length entry)) (written_of s) entry e ∙ sym y.room)

    -- The same of a block that is checked.
    pub check-others : (r q : Result Block Refusal) → reply r ≡ check_of a s → reply q ≡ check_of b s → Agrees R.Block (reply r) (reply q) (reply r ≡ reply q)
    unfolding check_of next
    check-others r q x y = rw (x, y, block-heads) (go (block_head_for b s))
      where
        go : (h : Reply Head) → Agrees R.Block (next h λ _. block_fields_of a s) (next h λ _. block_fields_of b s) ((next h λ _. block_fields_of a s) ≡ (next h λ _. block_fields_of b s))
        go (is head) = fields-others
        go (refused n p) = agreed refl
