-- Two refusals with one number and one place are one refusal: the number leads back to its reason. So two answers with one reply are one answer.
use Rattle.std.specs.Prelude.{Result, Ok, Err}
use Prim.Native.Nat.{ℕ}
use mathlib.Core.Path.{◌≡◌, refl, sym, ap, ◌∙◌}
use mathlib.Core.List.{List, [], ◌∷◌}
use lib.ListN.{get_or}
use Rattle.terms.specs.Reply.{Reply}
use Rattle.terms.specs.Refusals.{number_of, refusal, reply}
use Rattle.terms.specs.declared.refusal.Why.{Why}
use Rattle.terms.specs.declared.refusal.Why.TheVariants as W
use Rattle.terms.specs.declared.refusal.Refusal.{Refusal}

-- the reasons by their numbers; there is no number 0 and no 16
abbrev whys : List Why
whys =
    W.CutShort
    ∷ W.CutShort
    ∷ W.Kind
    ∷ W.Quarters
    ∷ W.Quarter
    ∷ W.UnitCount
    ∷ W.UnitNumber
    ∷ W.Flag
    ∷ W.Range
    ∷ W.Crossed
    ∷ W.PositionAge
    ∷ W.MarginAge
    ∷ W.Room
    ∷ W.BlockOrder
    ∷ W.EndCount
    ∷ W.Columns
    ∷ W.CutShort
    ∷ W.PositionAhead
    ∷ W.MarginAhead
    ∷ W.WorkingCrossed
    ∷ W.Line
    ∷ []

abbrev pub why_by : ℕ → Why
why_by k = get_or whys k W.CutShort

pub why-back : (w : Why) → why_by (number_of w) ≡ w
why-back W.CutShort = refl
why-back W.Kind = refl
why-back W.Quarters = refl
why-back W.Quarter = refl
why-back W.UnitCount = refl
why-back W.UnitNumber = refl
why-back W.Flag = refl
why-back W.Range = refl
why-back W.Crossed = refl
why-back W.PositionAge = refl
why-back W.MarginAge = refl
why-back W.Room = refl
why-back W.BlockOrder = refl
why-back W.EndCount = refl
why-back W.Columns = refl
why-back W.PositionAhead = refl
why-back W.MarginAhead = refl
why-back W.WorkingCrossed = refl
why-back W.Line = refl

pub why-same : (v w : Why) → number_of v ≡ number_of w → v ≡ w
why-same v w e = sym (why-back v) ∙ ap why_by e ∙ why-back w

pub refusal-same : {A : Type 0} (r q : Refusal) → ◌≡◌ {A = Reply A} (refusal r) (refusal q) → r ≡ q
refusal-same r q e =
    let n : number_of r.why ≡ number_of q.why = cc in
    let p : r.place ≡ q.place = cc in
    let w : r.why ≡ q.why = why-same r.why q.why n in
    ap {B = Refusal} (λ (v : Why). record { why = v; place = r.place }) w ∙ ap {B = Refusal} (λ (k : ℕ). record { why = q.why; place = k }) p

pub reply-same : {A : Type 0} (a b : Result A Refusal) → reply a ≡ reply b → a ≡ b
reply-same (Ok m) (Ok n) e = ap Ok (cc)
reply-same (Ok m) (Err q) e = cc
reply-same (Err r) (Ok n) e = cc
reply-same (Err r) (Err q) e = ap Err (refusal-same r q e)
