use Rattle.leeway.proofs.Greatest.{SoFar}
use Rattle.leeway.proofs.courses.Course.greatest.Given as goal

abbrev pub invariant-loop-k : goal.invariant-loop-k
invariant-loop-k l = SoFar l.self.ring.ticks l.self.stays.now l.self.order.now l.k l.best
