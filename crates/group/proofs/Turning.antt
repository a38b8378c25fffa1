-- The one loop of steps 2 and 3: it fills the columns of what is left, of n3 and of reasons, and of each it reads only the place that it fills next.
use Rattle.std.proofs.Common.{◌≡◌, ℕ, ◌+◌, ◌≤◌, ◌<◌, List, length, get_or, set, ℤ, pos, ◌+ℤ◌, sym, ap, ◌∙◌, arith, w32, SFits}
use Rattle.numbers.specs.Column.{column, at}
use Rattle.numbers.specs.Sum.{sum_z}
use Rattle.numbers.proofs.Columns.{column-length, column-at}
use Rattle.numbers.proofs.Filling.{Filled, filled-start, filled_next, filled-turn, filled-end}
use Rattle.terms.specs.declared.quantity.Direction.{Direction}
use Rattle.group.specs.Steps.{nearer_by, step3_of, reason_of}
use Rattle.group.specs.Group.{margins_at, step3_all, reasons_all}
use Rattle.group.specs.Inner.{left_by, Aligned, Explained}
use Rattle.group.proofs.Running.{Run, run-start, run-adds, run-turn, run_end}
use Rattle.group.proofs.Ranges.{third_at, third-small}
use Rattle.group.proofs.Explaining.{reason_at, reasons-end}

module _ (d : Direction) (n1 : List ℤ) (losses : List ℕ) where
  -- what step 2 leaves of the unit of an index, and of every unit
  abbrev pub left_at : ℕ → ℤ
  left_at i = nearer_by d (at n1 i) (get_or losses i 0)

  abbrev x2 : List ℤ
  x2 = left_by d n1 losses

  left-length : length x2 ≡ length n1
  unfolding left_by
  left-length = column-length left_at (length n1)

  left-at : (i : ℕ) → i < length n1 → at x2 i ≡ left_at i
  unfolding left_by
  left-at i l = column-at left_at (length n1) i (pos 0) l

  left-all : {l m : List ℤ} {i : ℕ} → Filled left_at (length n1) l m i → length l ≡ length n1 → length n1 ≤ i → m ≡ x2
  unfolding left_by
  left-all h lent full = filled-end h lent full

  -- after i turns, from columns of step-up and step-down margins and of marks
  pub record Turned (n0 up down : List ℤ) (taken : List ℕ) (second third : List ℤ) (why : List ℕ) (s3 : ℤ) (i : ℕ) : Type 0 where
    pub lefts : Filled left_at (length n1) up second i
    pub thirds : Run (third_at x2 down up) (length n1) down third s3 i
    pub whys : Filled (reason_at taken n0 n1 x2 down up) (length n1) taken why i

  pub turned-start : (n0 up down : List ℤ) (taken : List ℕ) → Turned n0 up down taken up down taken (pos 0) 0
  turned-start n0 up down taken = record { lefts = filled-start _ _ _; thirds = run-start _ _ _; whys = filled-start _ _ _ }

module _ {d : Direction} {n1 : List ℤ} {losses : List ℕ} {n0 up down : List ℤ} {taken : List ℕ} (h : Aligned (left_by d n1 losses) down up down)
    (e : Explained taken n0 n1 (left_by d n1 losses) down up) {second third : List ℤ} {why : List ℕ} {s3 : ℤ} {i : ℕ}
    (t : Turned d n1 losses n0 up down taken second third why s3 i) where
  few : length n1 ≤ 64
  few = omega (arith, left-length d n1 losses, h.few)

  ups-lent : length up ≡ length n1
  ups-lent = h.up ∙ left-length d n1 losses

  downs-lent : length down ≡ length n1
  downs-lent = h.down ∙ left-length d n1 losses

  whys-lent : length taken ≡ length n1
  whys-lent = e.places ∙ sym e.firsts

  module _ (l : i < length n1) where
    pub turn-told : get_or why i 0 ≤ 1
    turn-told = rw (filled_next t.whys whys-lent 0 l) (e.told i)

    module _ {left n3 : ℤ} (left-is : left ≡ left_at d n1 losses i) (n3-is : n3 ≡ step3_of left (margins_at third second i)) where
      ups : at second i ≡ at up i
      ups = filled_next t.lefts ups-lent (pos 0) l

      downs : at third i ≡ at down i
      downs = filled_next t.thirds.places downs-lent (pos 0) l

      third-is : n3 ≡ third_at (left_by d n1 losses) down up i
      third-is = n3-is ∙ rw (ups, downs, left-is, left-at d n1 losses i l)

      pub turn-adds : SFits w32 (s3 +ℤ n3)
      turn-adds = run-adds (third-small h) few t.thirds third-is l

      pub turn : {r : ℕ} → r ≡ reason_of (get_or why i 0) (at n0 i) (at n1 i) left n3 (margins_at third second i)
          → Turned d n1 losses n0 up down taken (set second i left) (set third i n3) (set why i r) (s3 +ℤ n3) (i + 1)
      turn {r} r-is =
          let p : r ≡ reason_at taken n0 n1 (left_by d n1 losses) down up i =
          r-is ∙ rw (ups, downs, filled_next t.whys whys-lent 0 l, third-is, left-is, left-at d n1 losses i l)
          in
          record {
            lefts = filled-turn t.lefts ups-lent (pos 0) left-is l;
            thirds = run-turn (third-small h) few t.thirds third-is l downs-lent;
            whys = filled-turn t.whys whys-lent 0 p l;
          }

  pub turned-end : length n1 ≤ i
      → (second ≡ left_by d n1 losses) × (s3 ≡ sum_z (step3_all second down up)) × (third ≡ step3_all second down up)
      × (why ≡ reasons_all taken n0 n1 second third down up)
  unfolding step3_all
  turned-end full =
      let n = left-length d n1 losses in
      let two = left-all d n1 losses t.lefts ups-lent full in
      let run = run_end (third-small h) few t.thirds full downs-lent in
      let three : third ≡ step3_all (left_by d n1 losses) down up = run.1 ∙ ap (λ (k : ℕ). column k (third_at (left_by d n1 losses) down up)) (sym n) in
      let whys = filled-end t.whys whys-lent full in
      let w = reasons-end e three (whys ∙ ap (λ (k : ℕ). column k (reason_at taken n0 n1 (left_by d n1 losses) down up)) (sym n)) in
      (two, rw two (run.0 ∙ ap (λ (k : ℕ). sum_z (column k (third_at (left_by d n1 losses) down up))) (sym n)), rw two three, rw two w)
