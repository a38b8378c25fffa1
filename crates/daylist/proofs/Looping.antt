-- The loop of turns: the places stay in the buffers, and the turns so far are a run.
use Rattle.std.proofs.Common.{◌≡◌, ℕ, true, List, [], ◌++◌, refl, arith}
use Rattle.daylist.specs.declared.work.Work.{Work}
use Rattle.daylist.specs.Inner.{Places}
use Rattle.daylist.specs.Works.{fresh_work, is_going, WroteOut, TookTurn}
use Rattle.daylist.specs.Runs.{turn_gave, turn_handed, Turns, begin, turn}
use Rattle.daylist.specs.Saying.{Ended}

pub record Loops (input output : List ℕ) (w : Work) : Type 0 where
  pub places : Places w
  pub given : List ℕ
  pub handed : List ℕ
  pub turns : Turns given handed w input output

pub starts : {input output : List ℕ} → Loops input output fresh_work
starts = record { places = record { order = omega arith; hand = omega arith; lines = omega arith }; given = []; handed = []; turns = begin }

pub goes_on : {input output input_after output_after : List ℕ} {w r : Work} → Loops input output w → is_going w.run ≡ true
    → TookTurn w input output r input_after output_after × Places r → Loops input_after output_after r
goes_on l g t = record { places = t.1; given = l.given ++ turn_gave t.0; handed = l.handed ++ turn_handed t.0; turns = turn l.turns g t.0 }

pub ended : {input output : List ℕ} {w last : Work} → Loops input output w → WroteOut w last → Ended last input
ended {input} {output} {w} {last} l e =
    record {
      ran = record { given = l.given; handed = l.handed; work = w; input = input; output = output; turns = l.turns; last = last; wrote = e; came = refl };
      kept = refl;
      bytes = refl;
    }
