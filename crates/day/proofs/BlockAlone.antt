-- A block offered alone is the block offered: where a block came, the two heads are one.
use Prim.Native.Nat.{ℕ}
use mathlib.Core.Path.{◌≡◌, refl, sym, ◌∙◌}
use mathlib.Core.Bool.{Bool, true, false}
use mathlib.Core.List.{List}
use lib.Dec.{ltb}
use lib.ListN.{length}
use Rattle.numbers.specs.Bytes.{byte_at}
use Rattle.terms.specs.Reply.{Reply, is, refused, need, next}
use Rattle.terms.proofs.Replies.{need-is, next-is}
use Rattle.walk.specs.declared.table.Role.TheVariants.{Block}
use Rattle.walk.specs.declared.table.Head.{Head}
use Rattle.walk.specs.Table.{role_of, is_block, head_in, block_head_in}
use Rattle.walk.proofs.Coming.{block-came}
use Rattle.day.specs.declared.value.Day.{Day}
use Rattle.day.specs.Outcome.{Step}
use Rattle.day.specs.Outcome.{Offered}
use Rattle.day.specs.Days.{possible}
use Rattle.day.specs.Checking.{block_head_for}
use Rattle.day.specs.Offers.{head_for, block_taken, offer_of, block_offer_of, Offers, OffersBlock}
use Rattle.day.proofs.ByKind.{head-came, offer-out, offer-block}

module _ (day : Day) (s : List ℕ) where
  -- the head of a block that came
  pub record BlockFor (head : Head) : Type 0 where
    pub came : head_for day s ≡ is head
    pub role : head.role ≡ Block
    pub first : role_of (byte_at s 0) ≡ Block

  pub block-for : {head : Head} → block_head_for day s ≡ is head → BlockFor head
  unfolding block_head_for head_for need
  block-for {head} e =
      let some = need-is (ltb 0 (length s)) 1 (length s) _ e in
      let may = need-is (possible day) 2 0 _ some.1 in
      let b = block-came s 0 day.state head may.1 in
      record { came = rw (some.0, may.0) b.read; role = b.role; first = b.first }

  -- of a day that a run of calls can give the table decides alone
  pub head-possible : possible day ≡ true → block_head_for day s ≡ block_head_in s 0 day.state
  unfolding block_head_for block_head_in need
  head-possible p = rw p (go (ltb 0 (length s)) (need (is_block (role_of (byte_at s 0))) 2 0 (head_in s 0 day.state)))
    where
      go : (t : Bool) (x : Reply Head) → need t 1 (length s) (need t 1 (length s) x) ≡ need t 1 (length s) x
      go true x = refl
      go false x = refl

  -- a head that was refused
  pub alone-out : (room : ℕ) {n p : ℕ} → block_head_for day s ≡ refused n p → block_offer_of day s room ≡ refused n p
  unfolding block_offer_of next
  alone-out room e = rw e

  pub alone-in : (room : ℕ) {head : Head} → block_head_for day s ≡ is head → block_offer_of day s room ≡ block_taken day s room
  unfolding block_offer_of next
  alone-in room e = rw e

  module _ (block : role_of (byte_at s 0) ≡ Block) where
    head-alone : block_head_for day s ≡ head_for day s
    unfolding block_head_for head_for block_head_in need
    head-alone = rw block (go (ltb 0 (length s)) (possible day) (head_in s 0 day.state))
      where
        go : (t p : Bool) (x : Reply Head)
            → need t 1 (length s) (need p 2 0 (need t 1 (length s) x)) ≡ need t 1 (length s) (need p 2 0 x)
        go true p x = refl
        go false p x = refl

    -- Of what opens with a block's kind the two replies are one.
    pub alone-offered : (room : ℕ) → block_offer_of day s room ≡ offer_of day s room
    alone-offered room = go (head_for day s) refl
      where
        go : (x : Reply Head) → head_for day s ≡ x → block_offer_of day s room ≡ offer_of day s room
        go (is head) e =
            alone-in room (head-alone ∙ e) ∙ sym (offer-block day s head e (sym (head-came day s head e).first ∙ block) room)
        go (refused n p) e = alone-out room (head-alone ∙ e) ∙ sym (offer-out day s room e)

    pub alone-offers : {entry exit : List ℕ} {r : Offered} → OffersBlock day s entry r exit → Offers day s entry r exit
    alone-offers {entry} o = rw (block, ← alone-offered (length entry)) o

  -- What is taken alone is a block, and is taken as what is offered is.
  pub alone-block : (room : ℕ) {step : Step} → block_offer_of day s room ≡ is step → role_of (byte_at s 0) ≡ Block
  unfolding block_offer_of
  alone-block room e = (block-for (next-is _ _ e).1.0).first
