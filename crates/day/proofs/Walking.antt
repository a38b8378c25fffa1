-- The walk over an accepted day that lies whole gives the extent of each of its parts, and then is done.
use Prim.Native.Nat.{ℕ, zero, suc, ◌+◌, ◌-◌, ◌≤◌, ◌<◌}
use mathlib.Core.Path.{◌≡◌, refl, sym, ap, ◌∙◌}
use mathlib.Core.List.{List, [], ◌∷◌, ◌++◌, append_assoc, append-nil}
use native.Mathlib.Omega.{arith}
use native.Mathlib.Nat.{add-zero}
use lib.ListN.{length, length-append, get_or-append}
use lib.Seq.{get_or-append-add}
use Rattle.std.specs.Prelude.{None}
use Rattle.numbers.specs.Bytes.{byte_at}
use Rattle.terms.specs.Reply.{is, need, next}
use Rattle.terms.proofs.Replies.{next-is}
use Rattle.records.specs.declared.day.DayRecord.{DayRecord}
use Rattle.records.specs.Layouts.{group_length, group_count, group_at}
use Rattle.records.specs.Reading.{unit_head_of, unit_end, day_fields_of, end_fields_of, unit_of, units_of}
use Rattle.records.proofs.UnitHeads.{unit-past, read-end, read-long, unit-moved}
use Rattle.walk.specs.declared.table.State.{State}
use Rattle.walk.specs.declared.table.State.TheVariants.{Fresh, Open, Closed}
use Rattle.walk.specs.declared.table.Role.{Role}
use Rattle.walk.specs.declared.table.Role.TheVariants.{Opens, Block, Closes}
use Rattle.walk.specs.declared.table.Head.{Head}
use Rattle.walk.specs.Table.{role_of, row_of, state_after, head_in, Coming, the_day, a_group, the_end}
use Rattle.walk.specs.Walk.{heads_of, block_end_of, walk_from}
use Rattle.walk.specs.Extents.{from, headed, Blocks, block, ending, DayOf, opening}
use Rattle.walk.proofs.Coming.{came, head-moved}
use Rattle.walk.proofs.Visits.{walk-visits}
use Rattle.day.specs.declared.value.Day.{Day}
use Rattle.blocks.specs.declared.check.Block as checked
use Rattle.day.specs.Days.{fresh, opened, closed}
use Rattle.day.specs.Checking.{block_fields_of}
use Rattle.day.specs.Outcome.{Step}
use Rattle.day.specs.Offers.{head_for, day_taken, end_taken, offer_of}
use Rattle.day.specs.WholeDays.{Part, part, joined, extents_from, Run, none, more, AcceptedDay}
use Rattle.day.proofs.ByKind.{head_read, head-came, offer-day, offer-end}
use Rattle.day.proofs.Read.{read}
use Rattle.day.proofs.Outcomes.{taken-block, reply}

-- the bytes s stand in t from a place on
record Stand (t : List ℕ) (at : ℕ) (s : List ℕ) : Type 0 where
  pub fits : at + length s ≤ length t
  pub same : (i : ℕ) → i < length s → byte_at t (at + i) ≡ byte_at s i

module _ (t : List ℕ) (at : ℕ) (s : List ℕ) (a : Stand t at s) where
  unit-there : (from : ℕ) {end : ℕ} → unit_head_of s from ≡ is end → unit_head_of t (at + from) ≡ is (at + end)
  unit-there from {end} e =
      let q = read-end s from e in
      let past = unit-past s from in
      let long = read-long s from e in
      let m : end ≡ from + (end - from) = omega arith in
      let k : at + from + (end - from) ≡ at + end = omega arith in
      unit-moved s t from (at + from) (a.same from (omega arith)) (end - from) (e ∙ ap is m) (omega (arith, a.fits)) ∙ ap is k

  units-there : (from floor : ℕ) (d : DayRecord) (count : ℕ) {end : ℕ} → units_of s from floor d count ≡ is end → heads_of t (at + from) count ≡ is (at + end)
  unfolding units_of unit_of heads_of next
  units-there from floor d zero {end} e =
      let q : from ≡ end = cc e in
      rw q
  units-there from floor d (suc count) {end} e =
      let u = next-is (unit_of s from floor d) (λ u. units_of s (unit_end s from) (u.number + 1) d count) e in
      let h = next-is _ _ u.1.0 in
      let q : unit_head_of s from ≡ is (unit_end s from) = h.1.0 ∙ ap is (read-end s from h.1.0) in
      rw (unit-there from q) (units-there (unit_end s from) (u.0.number + 1) d count u.1.1)

  -- a record that comes alone comes there
  record-there : (state : State) {h : Head} → head_in s 0 state ≡ is h → head_in t at state ≡ headed h.role (at + h.end)
  record-there state {h} e =
      let m = came s 0 state h e in
      let b : byte_at t at ≡ byte_at s 0 = ap (byte_at t) (sym (add-zero at)) ∙ a.same 0 (omega (arith, m.past, m.long)) in
      head-moved s t 0 at h.end state e (omega arith) b (omega (arith, a.fits, m.long))

  -- a block that passed its checks is a block to the walk
  module _ (day : Day) (long : group_length ≤ length s) where
    count-there : (group_at t at).count ≡ (group_at s 0).count
    unfolding group_at
    count-there = a.same group_count.place (omega arith)

    block-there : {x : checked.Block} → block_fields_of day s ≡ is x → block_end_of t at ≡ is (at + x.used)
    unfolding block_end_of need
    block-there e =
        let b = read day s long e in
        rw (count-there, b.passed.counted, b.value) (units-there group_length 0 _ _ b.units)

-- the front part of the rest of a day stands where the rest begins
stand : (pre s post : List ℕ) → Stand (pre ++ (s ++ post)) (length pre) s
stand pre s post =
    record {
      fits = omega (arith, length-append pre (s ++ post), length-append s post);
      same = λ i l. get_or-append-add pre (s ++ post) i 0 ∙ get_or-append s post 0 i l;
    }

-- what a day of a state takes, with all its bytes
data Takes (s : List ℕ) : State → State → Type 0 where
  the-day : head_in s 0 Fresh ≡ headed Opens (length s) → Takes s Fresh Open
  a_block : (day : Day) (units : ℕ) {x : checked.Block} → head_in s 0 Open ≡ headed Block units → group_length ≤ length s → block_fields_of day s ≡ is x → x.used ≡ length s
      → Takes s Open Open
  the-end : head_in s 0 Open ≡ headed Closes (length s) → Takes s Open Closed

module _ (day : Day) (s : List ℕ) (room : ℕ) {step : Step} (e : offer_of day s room ≡ is step) (u : step.used ≡ length s) (head : Head) (h : head_for day s ≡ is head) where
  -- the head that came, in the state and as what it came
  head_as : (state : State) (role : Role) (end : ℕ) → day.state ≡ state → head.role ≡ role → head.end ≡ end → head_in s 0 state ≡ headed role end
  head_as state role end p q n = rw (p, q, n) at (head_read day s head h)

  day-takes : day.state ≡ Fresh → head.role ≡ Opens → Takes s day.state step.day.state
  unfolding day_taken
  day-takes p q =
      let a = next-is (day_fields_of s) _ (sym (offer-day day s head h q room) ∙ e) in
      let v : step ≡ record { used = head.end; written = 0; day = opened a.0 } = cc a.1.1 in
      rw (p, v) (the-day (head_as Fresh Opens (length s) p q (sym (ap (λ (x : Step). x.used) v) ∙ u)))

  end-takes : day.state ≡ Open → head.role ≡ Closes → Takes s day.state step.day.state
  unfolding end_taken
  end-takes p q =
      let a = next-is (end_fields_of s day.groups) _ (sym (offer-end day s head h q room) ∙ e) in
      let v : step ≡ record { used = head.end; written = 0; day = closed day } = cc a.1.1 in
      rw (p, v) (the-end (head_as Open Closes (length s) p q (sym (ap (λ (x : Step). x.used) v) ∙ u)))

  block-takes : day.state ≡ Open → head.role ≡ Block → Takes s day.state step.day.state
  block-takes p q =
      let b = taken-block day s room e ((head-came day s head h).first ∙ q) in
      let n = ap (λ (x : Step). x.used) b.value in
      let m : step.day.state ≡ Open = ap (λ (x : Step). x.day.state) b.value ∙ p in
      rw (p, m) (a_block day head.end (head_as Open Block head.end p q refl) b.long b.fields (sym n ∙ u))

  by-role : Coming day.state head.role → Takes s day.state step.day.state
  by-role (the_day p q) = day-takes p q
  by-role (a_group p q) = block-takes p q
  by-role (the_end p q) = end-takes p q

takes : (day : Day) (s : List ℕ) (room : ℕ) {step : Step} → offer_of day s room ≡ is step → step.used ≡ length s → Takes s day.state step.day.state
unfolding offer_of
takes day s room e u =
    let x = next-is (head_for day s) _ e in
    by-role day s room e u x.0 x.1.0 (head-came day s x.0 x.1.0).which

-- a closed day takes nothing
closed_none : {day left : Day} {parts : List Part} → Run day parts left → day.state ≡ Closed → parts ≡ []
closed_none none p = refl
closed_none {day} (more {s = s} {entry = entry} o u r) p = go (takes day s (length entry) (reply day s entry o) u) p
  where
    go : {a b : State} {P : Type 0} → Takes s a b → a ≡ Closed → P
    go (the-day h) q = absurd (omega (arith, ap row_of q))
    go (a_block d n h l e w) q = absurd (omega (arith, ap row_of q))
    go (the-end h) q = absurd (omega (arith, ap row_of q))

-- the rest of an open day that is closed at last
blocks-walked : {day left : Day} {parts : List Part} (pre : List ℕ) → Run day parts left → day.state ≡ Open → left.state ≡ Closed
    → Blocks (pre ++ joined parts) (length pre) (extents_from (length pre) parts)
blocks-walked pre none p q = absurd (omega (arith, ap row_of (sym p ∙ q)))
blocks-walked {day} pre (more {s = s} {entry = entry} {step = step} {rest = rest} o u r) p q =
    go (takes day s (length entry) (reply day s entry o) u) p refl (λ z. blocks-walked (pre ++ s) r z q) (λ z. closed_none r z)
  where
    go : {a b : State} → Takes s a b → a ≡ Open → step.day.state ≡ b
        → (step.day.state ≡ Open → Blocks ((pre ++ s) ++ joined rest) (length (pre ++ s)) (extents_from (length (pre ++ s)) rest))
        → (step.day.state ≡ Closed → rest ≡ [])
        → Blocks (pre ++ (s ++ joined rest)) (length pre) (from (length pre) (length pre + length s) (state_after (role_of (byte_at s 0))) ∷ extents_from (length pre + length s) rest)
    go (the-day h) x y f g = absurd (omega (arith, ap row_of x))
    go (a_block d n h l e w) x y f g =
        let z = stand pre s (joined rest) in
        let m : Blocks (pre ++ (s ++ joined rest)) (length pre + length s) (extents_from (length pre + length s) rest) =
        rw (append_assoc pre s (joined rest), length-append pre s) at (f y) in
        let b = rw w at (block-there _ _ s z d l e) in
        rw (came s 0 Open _ h).first (block (length pre) (length pre + n) (length pre + length s) (extents_from (length pre + length s) rest) (record-there _ _ s z Open h) b m)
    go (the-end h) x y f g =
        let n : length (pre ++ (s ++ [])) ≡ length pre + length s = length-append pre (s ++ []) ∙ ap (λ (v : List ℕ). length pre + length v) (append-nil s) in
        let z = record-there _ _ s (stand pre s []) Open h ∙ ap (headed Closes) (sym n) in
        rw (g y, (came s 0 Open _ h).first, ← n) (ending (length pre) z)

-- A run of parts from a fresh day to a closed one is a day to the walk.
day-walked : {parts : List Part} {left : Day} → Run fresh parts left → left.state ≡ Closed → DayOf (joined parts) (extents_from 0 parts)
day-walked none q = absurd (omega (arith, ap row_of q))
day-walked (more {s = s} {entry = entry} {step = step} {rest = rest} o u r) q =
    go (takes fresh s (length entry) (reply fresh s entry o) u) refl refl (λ z. blocks-walked s r z q)
  where
    go : {a b : State} → Takes s a b → a ≡ Fresh → step.day.state ≡ b
        → (step.day.state ≡ Open → Blocks (s ++ joined rest) (length s) (extents_from (length s) rest))
        → DayOf (s ++ joined rest) (from 0 (0 + length s) (state_after (role_of (byte_at s 0))) ∷ extents_from (0 + length s) rest)
    go (the-day h) x y f =
        let z : 0 + length s ≡ length s = omega arith in
        let e : head_in (s ++ joined rest) 0 Fresh ≡ headed Opens (length s) = record-there _ _ s (stand [] s (joined rest)) Fresh h ∙ ap (headed Opens) z in
        rw (z, (came s 0 Fresh _ h).first) (opening (length s) (extents_from (length s) rest) e (f y))
    go (a_block d n h l e w) x y f = absurd (omega (arith, ap row_of x))
    go (the-end h) x y f = absurd (omega (arith, ap row_of x))

-- The walk over an accepted day visits each of its parts, and nothing else.
pub accepted-walked : {day end : List ℕ} {blocks : List Part} → AcceptedDay day blocks end → let parts = part day [] ∷ blocks ++ (part end [] ∷ []) in
    walk_from (joined parts) Fresh 0 (length (extents_from 0 parts)) ≡ record { extents = extents_from 0 parts; reply = is None }
accepted-walked a = walk-visits _ (day-walked a.run a.closed)
