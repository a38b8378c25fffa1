-- Every day that a run of calls gives is possible: the keys of its blocks rise strictly, so there are no more groups than keys up to the last one.
use Rattle.std.specs.Prelude.{Option, Some, None}
use Prim.Native.Nat.{ℕ, ◌+◌, ◌*◌, ◌≤◌, ◌<◌}
use mathlib.Core.Path.{◌≡◌, refl, sym, ap, ◌∙◌}
use mathlib.Core.Bool.{Bool, true, false}
use mathlib.Core.List.{List}
use native.Mathlib.Omega.{arith}
use borrow.Author.Tests.{eqb-true, ltb-true, ne_eqb}
use lib.Dec.{eqb, ltb}
use lib.ListN.{length}
use Rattle.numbers.specs.Bytes.{Bytes, byte_at}
use Rattle.numbers.specs.Choice.{pick}
use Rattle.numbers.proofs.Trips.{below16}
use Rattle.terms.specs.Reply.{Reply, is}
use Rattle.terms.specs.declared.refusal.Refusal.{Refusal}
use Rattle.terms.proofs.Replies.{next-is}
use Rattle.records.specs.declared.key.Key.{Key}
use Rattle.records.specs.Layouts.{group_at}
use Rattle.records.specs.Reading.{permitted, below, follows, day_fields_of, end_fields_of}
use Rattle.records.proofs.Read.{day-passed, quarters-most}
use Rattle.walk.specs.declared.table.State.{State}
use Rattle.walk.specs.declared.table.State.TheVariants.{Fresh, Open, Closed}
use Rattle.walk.specs.declared.table.Role.{Role}
use Rattle.walk.specs.declared.table.Role.TheVariants.{Opens, Block, Closes}
use Rattle.walk.specs.Table.{role_of, row_of}
use Rattle.blocks.specs.Blocks.{block_key}
use Rattle.day.specs.declared.value.Day.{Day}
use Rattle.day.specs.Outcome.{Step}
use Rattle.day.specs.Outcome.{Offered}
use Rattle.day.specs.Outcome as O
use Rattle.day.specs.Days.{opened, closed, possible_in, possible}
use Rattle.day.specs.Offers.{head_for, day_taken, end_taken, taken, offer_of, day_after, day_back, Offering, Offers, OffersBlock}
use Rattle.day.specs.Reached.{Reached, begun, offered, alone}
use Rattle.day.proofs.ByKind.{head-came}
use Rattle.day.proofs.Read.{read}
use Rattle.day.proofs.Outcomes.{taken-block, reply}
use Rattle.day.proofs.BlockAlone.{alone-block, alone-offered}

-- ---- keys
-- a key that a record of some day can have
record Held (k : Key) : Type 0 where
  pub brp : k.brp < 65536
  pub zone : k.zone < 256
  pub quarter : k.quarter < 100

-- how many keys there are up to the last one
rank : Option Key → ℕ
rank None = 0
rank (Some k) = k.brp * 25600 + k.zone * 100 + k.quarter + 1

HeldLast : Option Key → Type 0
HeldLast None = Unit
HeldLast (Some k) = Held k

below_up : (a b : Key) → Held a → Held b → below a b ≡ true → rank (Some a) < rank (Some b)
unfolding rank
below_up a b h k e = go (eqb a.brp b.brp) (eqb a.zone b.zone) refl refl e
  where
    go : (x y : Bool) → eqb a.brp b.brp ≡ x → eqb a.zone b.zone ≡ y
        → pick x (pick y (ltb a.quarter b.quarter) (ltb a.zone b.zone)) (ltb a.brp b.brp) ≡ true
        → a.brp * 25600 + a.zone * 100 + a.quarter + 1 < b.brp * 25600 + b.zone * 100 + b.quarter + 1
    go true true p q e = omega (arith, eqb-true a.brp b.brp p, eqb-true a.zone b.zone q, ltb-true a.quarter b.quarter e)
    go true false p q e = omega (arith, eqb-true a.brp b.brp p, ltb-true a.zone b.zone e, h.quarter, k.quarter)
    go false y p q e = omega (arith, ltb-true a.brp b.brp e, h.zone, h.quarter)

follows-up : (last : Option Key) (b : Key) → HeldLast last → Held b → follows last b ≡ true → rank last < rank (Some b)
unfolding rank HeldLast
follows-up None b h k e = omega arith
follows-up (Some a) b h k e = below_up a b h k e

-- there are 65,536 · 256 · 100 keys
rank_most : (last : Option Key) → HeldLast last → rank last ≤ 1677721600
unfolding rank HeldLast
rank_most None h = omega arith
rank_most (Some k) h = omega (arith, h.brp, h.zone, h.quarter)

-- ---- days
-- what every open day that was reached has
record Risen (day : Day) : Type 0 where
  pub quarters : permitted day.«record».quarters ≡ true
  pub last : HeldLast day.last
  pub groups : day.groups ≤ rank day.last

abbrev Good : Day → Type 0
Good day = day.state ≡ Open → Risen day

key-held : (s : List ℕ) → Bytes s → (quarters : ℕ) → quarters ≤ 100 → (group_at s 0).quarter < quarters → Held (block_key s)
unfolding group_at
key-held s small quarters h l = record { brp = below16 s small 1; zone = small 3; quarter = omega arith }

module _ (day : Day) (s : List ℕ) (small : Bytes s) (good : Good day) (room : ℕ) {step : Step} (e : offer_of day s room ≡ is step) where
  day-good : (end : ℕ) → day_taken s end ≡ is step → Good step.day
  unfolding day_taken rank HeldLast
  day-good end h p =
      let a = next-is (day_fields_of s) _ h in
      let v : step ≡ record { used = end; written = 0; day = opened a.0 } = cc a.1.1 in
      rw v (record { quarters = (day-passed s a.1.0).quarters; last = tt; groups = omega arith })

  end-good : (end : ℕ) → end_taken day s end ≡ is step → Good step.day
  unfolding end_taken
  end-good end h p =
      let a = next-is (end_fields_of s day.groups) _ h in
      let v : step ≡ record { used = end; written = 0; day = closed day } = cc a.1.1 in
      let z : Closed ≡ Open = sym (ap (λ (x : Step). x.day.state) v) ∙ p in
      absurd (omega (arith, ap row_of z))

  block-good : role_of (byte_at s 0) ≡ Block → Good step.day
  unfolding HeldLast
  block-good k p =
      let t = taken-block day s room e k in
      let before = good (sym (ap (λ (x : Step). x.day.state) t.value) ∙ p) in
      let g = (read day s t.long t.fields).passed in
      let key = key-held s small _ (quarters-most _ before.quarters) g.early in
      let up = follows-up day.last (block_key s) before.last key g.after in
      rw t.value (record { quarters = before.quarters; last = key; groups = omega (arith, before.groups, up) })

  by-role : (role : Role) (end : ℕ) → role_of (byte_at s 0) ≡ role → taken day s room role end ≡ is step → Good step.day
  by-role Opens end k h = day-good end h
  by-role Block end k h = block-good k
  by-role Closes end k h = end-good end h

  taken-good : Good step.day
  unfolding offer_of
  taken-good =
      let x = next-is (head_for day s) _ e in
      by-role x.0.role x.0.end (head-came day s x.0 x.1.0).first x.1.1

-- a refusal gives the day back
kept : {right : Reply Step} (bytes : List ℕ) (day : Day) (entry : List ℕ) (f : Refusal) (back : Day) {exit : List ℕ} → Offering right bytes day entry (O.Refused f back) exit → back ≡ day
unfolding day_after
kept bytes day entry f back o = o.gave.returned ∙ rw (sym o.gave.replied)

offered-good : (day : Day) (s entry exit : List ℕ) (r : Offered) → Good day → Bytes s → Offers day s entry r exit → Good (day_back r)
offered-good day s entry exit (O.Taken step) g small o = taken-good day s small g (length entry) (reply day s entry o)
offered-good day s entry exit (O.Refused f back) g small o = rw (kept _ day entry f back o) g

alone-good : (day : Day) (s entry exit : List ℕ) (r : Offered) → Good day → Bytes s → OffersBlock day s entry r exit → Good (day_back r)
alone-good day s entry exit (O.Taken step) g small o =
    let e = sym o.gave.replied in
    taken-good day s small g (length entry) (sym (alone-offered day s (alone-block day s (length entry) e) (length entry)) ∙ e)
alone-good day s entry exit (O.Refused f back) g small o = rw (kept _ day entry f back o) g

good : {day : Day} → Reached day → Good day
good begun = λ p. absurd (omega (arith, ap row_of p))
good (offered day s entry exit r before small o) = offered-good day s entry exit r (good before) small o
good (alone day s entry exit r before small o) = alone-good day s entry exit r (good before) small o

-- Every day that a run of calls gives is possible.
pub reached-possible : {day : Day} → Reached day → possible day ≡ true
reached-possible {day} r = go day.state refl
  where
    go : (state : State) → day.state ≡ state → possible_in state day ≡ true
    go Fresh p = refl
    go Open p =
        let g = good r p in
        rw (ne_eqb day.groups 4294967295 (λ q. omega (arith, g.groups, rank_most day.last g.last)), g.quarters)
    go Closed p = refl
