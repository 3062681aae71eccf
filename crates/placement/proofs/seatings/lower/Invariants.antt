use Rattle.std.proofs.Common.{◌≡◌, ◌-◌, ◌++◌, map, take, drop}
use Rattle.placement.proofs.seatings.lower.Given as goal

abbrev pub invariant-loop-t : goal.invariant-loop-t
invariant-loop-t l =
    l.times ≡ map (λ u. u - l.base) (take l.t-index l.initial.times) ++ drop l.t-index l.initial.times
