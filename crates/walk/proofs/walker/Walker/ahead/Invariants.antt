use Rattle.std.proofs.Common.{◌≡◌, ◌-◌}
use Rattle.walk.specs.Stands.{ahead_of}
use Rattle.walk.proofs.walker.Walker.ahead.Given as goal

-- where the walker comes to in the end is so many steps on from here
abbrev pub invariant-loop : goal.invariant-loop
invariant-loop l = ahead_of l.fn.self l.steps ≡ ahead_of l.self (l.steps - l.counter)
