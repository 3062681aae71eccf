use Rattle.std.proofs.Common.{◌≡◌, ◌+◌, ◌++◌, map, take, drop}
use Rattle.placement.proofs.seatings.raise.Given as goal

abbrev pub invariant-loop-t : goal.invariant-loop-t
invariant-loop-t l =
    l.early ≡ map (λ u. u + l.ring.ticks) (take l.t-index l.initial.early) ++ drop l.t-index l.initial.early
