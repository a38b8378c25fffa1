-- "Bytes after it are not read": where the bytes agree up to the end of what was taken, it is taken with the same reply and the same result.
use Prim.Native.Nat.{ℕ, suc, ◌≤◌, ◌<◌}
use mathlib.Core.Path.{◌≡◌, refl, sym, ap, ◌∙◌}
use mathlib.Core.Bool.{Bool, true, false}
use mathlib.Core.List.{List, [], ◌++◌}
use native.Mathlib.Omega.{arith}
use borrow.Author.Tests.{lt-ltb, le-leb}
use lib.ListN.{length, take}
use lib.Seq.{take-append-le}
use Rattle.numbers.specs.Bytes.{byte_at}
use Rattle.numbers.specs.Choice.{pick}
use Rattle.numbers.specs.Column.{column}
use Rattle.numbers.specs.Sum.{bit}
use Rattle.numbers.proofs.Columns.{column-ext}
use Rattle.terms.specs.Reply.{Reply, is, next}
use Rattle.terms.proofs.Replies.{need-is, next-is}
use Rattle.records.specs.declared.group.GroupRecord.{GroupRecord}
use Rattle.records.specs.declared.unit.UnitRecord.{UnitRecord}
use Rattle.records.specs.Layouts.{group_length, group_at, margins_of, end_length}
use Rattle.records.specs.Reading.{day_end, unit_place, unit_in}
use Rattle.records.specs.Decoding.{unit_n0, unit_implicit}
use Rattle.records.proofs.Alike.{Agree, agree, group-same, day-kept, group-kept, end_kept, units-same}
use Rattle.records.proofs.Accepted.{units-accepted}
use Rattle.records.proofs.Places.{place_up, place-from}
use Rattle.records.proofs.Fields.{past}
use Rattle.walk.specs.declared.table.Role.{Role}
use Rattle.walk.specs.declared.table.Role.TheVariants as R
use Rattle.walk.specs.declared.table.Head.{Head}
use Rattle.walk.specs.Table.{role_of, is_block, head_at, head_in}
use Rattle.walk.proofs.Coming.{is_block-only, length_in}
use Rattle.day.specs.declared.value.Day.{Day}
use Rattle.blocks.specs.declared.check.Block.{Block}
use Rattle.day.specs.Outcome.{Step}
use Rattle.day.specs.Days.{opened, counted, closed}
use Rattle.blocks.proofs.ByUnits.{made, block-alike}
use Rattle.day.specs.Checking.{block_fields_of}
use Rattle.decode.specs.Block.{block_count}
use Rattle.blocks.specs.Blocks.{result_in, block_result}
use Rattle.day.specs.Offers.{head_for, day_taken, block_taken, end_taken, taken, offer_of, written_of}
use Rattle.day.proofs.ByKind.{head-came}
use Rattle.day.proofs.Read.{read}
use Rattle.day.proofs.Outcomes.{taken-block}

-- past a reading that was not refused, the whole is what comes after it
onward : {A B : Type 0} (x : Reply A) (rest : A → Reply B) {a : A} {b : B} → x ≡ is a → rest a ≡ is b → next x rest ≡ is b
unfolding next
onward x rest e r = rw e r

module _ (s t : List ℕ) (n : ℕ) (a : Agree s t n) where
  -- what is taken, by its kind
  opens_kept : (end : ℕ) → day_end s ≤ n → day_taken t end ≡ day_taken s end
  unfolding day_taken
  opens_kept end h = rw (day-kept s t n a h)

  closes_kept : (day : Day) (end : ℕ) → end_length ≤ n → end_taken day t end ≡ end_taken day s end
  unfolding end_taken
  closes_kept day end h = rw (end_kept s t n a day.groups h)

  fields-kept : (day : Day) {block : Block} → group_length ≤ n → block.used ≤ n → block_fields_of day s ≡ is block → block_fields_of day t ≡ is block
  unfolding block_fields_of
  fields-kept day {block} h k e =
      let x = next-is _ _ e in
      let m = made s x.0 _ x.1.1 in
      let u = block-alike s t n a x.0 _ (omega (arith, ap (λ (b : Block). b.used) m.value)) m.passed in
      onward _ _ (group-kept s t n a day.«record» day.last h ∙ x.1.0) (u ∙ x.1.1)

  block-kept : (day : Day) (room : ℕ) {step : Step} → group_length ≤ n → step.used ≤ n → block_taken day s room ≡ is step → block_taken day t room ≡ is step
  unfolding block_taken
  block-kept day room {step} h k e =
      let x = next-is _ _ e in
      let v : step ≡ record { used = x.0.used; written = x.0.written; day = counted day x.0.key } = cc (need-is _ _ _ _ x.1.1).1 in
      onward _ _ (fields-kept day h (omega (arith, ap (λ (y : Step). y.used) v)) x.1.0) x.1.1

  head-kept : (day : Day) {head : Head} → head.end ≤ n → head_for day s ≡ is head → head_for day t ≡ is head
  unfolding head_for head_in
  head-kept day {head} h e =
      let p = need-is _ _ _ _ (need-is _ _ _ _ e).1 in
      let m = need-is _ _ _ _ (need-is _ _ _ _ p.1).1 in
      let w = need-is _ _ _ _ m.1 in
      let v : head ≡ head_at s 0 day.state = cc w.1 in
      let q = ap (λ (x : Head). x.end) v in
      let some = lt-ltb 0 (length t) (omega (arith, a.long)) in
      let whole = le-leb (head_at s 0 day.state).end (length t) (omega (arith, a.long)) in
      rw (a.same 0 (omega arith)) (sym (past _ _ _ _ some (past _ _ _ _ p.0 (past _ _ _ _ some (past _ _ _ _ m.0 (past _ _ _ _ whole (sym w.1)))))))

  -- the result of so many units
  result-kept : (group : GroupRecord) → unit_place s group.count ≤ n → result_in t group ≡ result_in s group
  unfolding result_in
  result-kept group h =
      rw (same (λ u. u.number), same (λ u. u.class), same (λ u. bit (unit_implicit u)), same unit_n0, same (λ u. u.pc.0), same (λ u. (margins_of u).step_down), same (λ u. (margins_of u).step_up))
    where
      same : {X : Type 0} (f : UnitRecord → X) → column group.count (λ i. f (unit_in t i)) ≡ column group.count (λ i. f (unit_in s i))
      same f = column-ext _ _ group.count (λ i l. ap f (units-same s t n a group_length i (omega (arith, place_up s group_length (suc i) group.count l))))

-- what is used has its first record, and lies in the bytes
record Lies (first used long : ℕ) : Type 0 where
  pub from : first ≤ used
  pub inside : used ≤ long

fields_lie : (day : Day) (s : List ℕ) {block : Block} → group_length ≤ length s → block_fields_of day s ≡ is block → Lies group_length block.used (length s)
fields_lie day s {block} h e =
    let r = read day s h e in
    let u = ap (λ (x : Block). x.used) r.value in
    let k = units-accepted s group_length 0 _ _ h r.units in
    record { from = omega (arith, place-from s group_length (block_count s)); inside = omega (arith, k.within) }

module _ (day : Day) (s : List ℕ) (room : ℕ) {step : Step} where
  day-lies : (end : ℕ) → day_taken s end ≡ is step → end ≡ step.used
  unfolding day_taken
  day-lies end e = let v : record { used = end; written = 0; day = opened (next-is _ _ e).0 } ≡ step = cc (next-is _ _ e).1.1 in ap (λ (x : Step). x.used) v

  end-lies : (end : ℕ) → end_taken day s end ≡ is step → end ≡ step.used
  unfolding end_taken
  end-lies end e = let v : record { used = end; written = 0; day = closed day } ≡ step = cc (next-is _ _ e).1.1 in ap (λ (x : Step). x.used) v

  block-lies : group_length ≤ length s → block_taken day s room ≡ is step → Lies group_length step.used (length s)
  unfolding block_taken
  block-lies h e =
      let a = next-is _ _ e in
      let v : step ≡ record { used = a.0.used; written = a.0.written; day = counted day a.0.key } = cc (need-is _ _ _ _ a.1.1).1 in
      let u = ap (λ (x : Step). x.used) v in
      let l = fields_lie day s h a.1.0 in
      record { from = omega (arith, l.from); inside = omega (arith, l.inside) }

  taken-lies : (role : Role) (end : ℕ) → end ≡ length_in role s 0 → end ≤ length s → taken day s room role end ≡ is step → Lies end step.used (length s)
  taken-lies R.Opens end q h x = record { from = omega (arith, day-lies end x); inside = omega (arith, day-lies end x) }
  taken-lies R.Block end q h x = rw q (block-lies (omega arith) x)
  taken-lies R.Closes end q h x = record { from = omega (arith, end-lies end x); inside = omega (arith, end-lies end x) }

  taken-kept : (t : List ℕ) → Agree s t step.used → (role : Role) (end : ℕ) → length_in role s 0 ≤ step.used → taken day s room role end ≡ is step
      → taken day t room role end ≡ is step
  taken-kept t a R.Opens end h x = opens_kept s t _ a end h ∙ x
  taken-kept t a R.Block end h x = block-kept s t _ a day room h (omega arith) x
  taken-kept t a R.Closes end h x = closes_kept s t _ a day end h ∙ x

module _ (day : Day) (s : List ℕ) (room : ℕ) {step : Step} (e : offer_of day s room ≡ is step) where
  head-taken : (head : Head) × ((head_for day s ≡ is head) × (taken day s room head.role head.end ≡ is step))
  unfolding offer_of
  head-taken = next-is _ _ e

  offer-lies : Lies head-taken.0.end step.used (length s)
  offer-lies =
      let x = head-taken in
      let m = head-came day s x.0 x.1.0 in
      let n : x.0.end ≡ length_in x.0.role s 0 = omega (arith, m.end) in
      taken-lies day s room x.0.role x.0.end n m.long x.1.1

  some : 0 < step.used
  some =
      let x = head-taken in
      omega (arith, (head-came day s x.0 x.1.0).past, offer-lies.from)

  module _ (t : List ℕ) (a : Agree s t step.used) where
    offer-kept : offer_of day t room ≡ is step
    unfolding offer_of
    offer-kept =
        let x = head-taken in
        let n = (head-came day s x.0 x.1.0).end in
        onward _ _ (head-kept s t _ a day offer-lies.from x.1.0)
        (taken-kept day s room t a x.0.role x.0.end (omega (arith, offer-lies.from)) x.1.1)

    written-kept : written_of t ≡ written_of s
    written-kept = rw (a.same 0 some) (go (is_block (role_of (byte_at s 0))) refl)
      where
        go : (g : Bool) → is_block (role_of (byte_at s 0)) ≡ g → pick g (block_result t) [] ≡ pick g (block_result s) []
        go true q =
            let u = ap (λ (x : Step). x.used) (taken-block day s room e (is_block-only (role_of (byte_at s 0)) q)).value in
            ap (result_in t) (group-same s t _ a (omega (arith, place-from s group_length (block_count s)))) ∙ result-kept s t _ a (group_at s 0) (omega arith)
        go false q = refl

-- what was taken has bytes, and lies in those that were offered
pub used : (day : Day) (s : List ℕ) (room : ℕ) {step : Step} → offer_of day s room ≡ is step → 0 < step.used
used day s room e = some day s room e

pub inside : (day : Day) (s : List ℕ) (room : ℕ) {step : Step} → offer_of day s room ≡ is step → step.used ≤ length s
inside day s room e = (offer-lies day s room e).inside

pub offer-local : (day : Day) (s t : List ℕ) (room : ℕ) {step : Step} → offer_of day s room ≡ is step → take step.used s ≡ take step.used t
    → (offer_of day t room ≡ is step) × (written_of t ≡ written_of s)
offer-local day s t room {step} e same =
    let a = agree s t step.used (inside day s room e) same in
    (offer-kept day s room e t a, written-kept day s room e t a)

-- what was taken is taken whatever bytes follow
pub offer-unread : (day : Day) (s t : List ℕ) (room : ℕ) {step : Step} → offer_of day s room ≡ is step → (offer_of day (s ++ t) room ≡ is step) × (written_of (s ++ t) ≡ written_of s)
offer-unread day s t room {step} e = offer-local day s (s ++ t) room e (sym (take-append-le step.used s t (inside day s room e)))
