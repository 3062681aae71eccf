use Rattle.ring.proofs.Divisors.{Euclid}
use Rattle.ring.proofs.fractions.divisor.Given as goal

abbrev pub invariant-loop-y : goal.invariant-loop-y
invariant-loop-y l = Euclid l.p l.q l.x l.y

abbrev pub decreases-loop-y : goal.decreases-loop-y
decreases-loop-y l = l.y
