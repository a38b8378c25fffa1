-- What is offered, by what the record that came is to the day: the table leaves three, and the record of each lies whole in the bytes.
use Prim.Native.Nat.{ℕ, ◌≤◌}
use mathlib.Core.Path.{◌≡◌}
use mathlib.Core.Bool.{true, not}
use mathlib.Core.List.{List, []}
use native.Mathlib.Omega.{arith}
use borrow.Author.Tests.{eqb-false, not-true}
use lib.Dec.{eqb}
use lib.ListN.{length}
use Rattle.numbers.proofs.Choices.{and_both}
use Rattle.terms.specs.Reply.{is, refused, next}
use Rattle.terms.proofs.Replies.{need-is}
use Rattle.records.specs.Layouts.{group_length, end_length}
use Rattle.records.specs.Reading.{permitted, day_end}
use Rattle.walk.specs.declared.table.State.TheVariants.{Open}
use Rattle.walk.specs.declared.table.Role.{Role}
use Rattle.walk.specs.declared.table.Role.TheVariants.{Opens, Block, Closes}
use Rattle.walk.specs.declared.table.Head.{Head}
use Rattle.walk.specs.Table.{head_in}
use Rattle.walk.proofs.Coming.{block-open, length_in, Came, came}
use Rattle.day.specs.declared.value.Day.{Day}
use Rattle.day.specs.Days.{could_be_open, possible}
use Rattle.blocks.specs.Blocks.{block_result}
use Rattle.day.specs.Offers.{head_for, day_taken, block_taken, end_taken, taken, offer_of, written_of}

module _ (day : Day) (s : List ℕ) where
  -- a head that was refused
  pub offer-out : (room : ℕ) {n p : ℕ} → head_for day s ≡ refused n p → offer_of day s room ≡ refused n p
  unfolding offer_of next
  offer-out room e = rw e

  module _ (head : Head) (e : head_for day s ≡ is head) where
    is-possible : possible day ≡ true
    unfolding head_for
    is-possible = (need-is _ _ _ _ (need-is _ _ _ _ e).1).0

    pub head_read : head_in s 0 day.state ≡ is head
    unfolding head_for
    head_read = (need-is _ _ _ _ (need-is _ _ _ _ e).1).1

    pub head-came : Came s 0 day.state head
    head-came = came s 0 day.state head head_read

    -- a record of each role lies whole, and its fields decide
    long_as : (role : Role) → head.role ≡ role → length_in role s 0 ≤ length s
    long_as role k =
        let m = head-came in
        rw (← k) (omega (arith, m.end, m.long))

    offer-as : (role : Role) → head.role ≡ role → (room : ℕ) → offer_of day s room ≡ taken day s room role head.end
    unfolding offer_of next
    offer-as role k room = rw (e, k)

    -- an open day that is possible does not hold 4,294,967,295 groups
    uncounted : day.state ≡ Open → day.groups ≡ 4294967295 → ⊥
    uncounted p =
        let q : could_be_open day ≡ true = rw p at is-possible in
        eqb-false _ _ (not-true _ (and_both (not (eqb day.groups 4294967295)) (permitted day.«record».quarters) q).0)

    module _ (k : head.role ≡ Opens) where
      pub day-long : day_end s ≤ length s
      day-long = long_as Opens k

      pub offer-day : (room : ℕ) → offer_of day s room ≡ day_taken s head.end
      offer-day = offer-as Opens k

      pub day-writes : written_of s ≡ []
      day-writes = rw (head-came.first, k)

    module _ (k : head.role ≡ Block) where
      pub group-long : group_length ≤ length s
      group-long = long_as Block k

      pub group-room : day.groups ≡ 4294967295 → ⊥
      group-room = uncounted (block-open day.state head.role head-came.which k)

      pub offer-block : (room : ℕ) → offer_of day s room ≡ block_taken day s room
      offer-block = offer-as Block k

      pub block_writes : written_of s ≡ block_result s
      block_writes = rw (head-came.first, k)

    module _ (k : head.role ≡ Closes) where
      pub end-long : end_length ≤ length s
      end-long = long_as Closes k

      pub offer-end : (room : ℕ) → offer_of day s room ≡ end_taken day s head.end
      offer-end = offer-as Closes k

      pub end-writes : written_of s ≡ []
      end-writes = rw (head-came.first, k)
