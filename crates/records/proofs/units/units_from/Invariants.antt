use Rattle.terms.proofs.FirstRefused.{Left}
use Rattle.records.specs.Reading.{units_of}
use Rattle.records.proofs.Turns.{units_after}
use Rattle.records.proofs.units.units_from.Given as goal

abbrev pub invariant-loop : goal.invariant-loop
invariant-loop l = Left (units_after l.s l.day) (units_of l.s l.at 0 l.day l.count) l.count l.counter (l.here, l.floor)
