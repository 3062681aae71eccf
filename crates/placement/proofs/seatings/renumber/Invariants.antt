use Rattle.std.proofs.Common.{◌≡◌, ◌++◌, map, take, drop}
use Rattle.placement.specs.Seatings.{fallen}
use Rattle.placement.proofs.seatings.renumber.Given as goal

abbrev pub invariant-loop-o : goal.invariant-loop-o
invariant-loop-o l =
    l.order ≡ map (fallen l.stay) (take l.o-index l.initial.order) ++ drop l.o-index l.initial.order
