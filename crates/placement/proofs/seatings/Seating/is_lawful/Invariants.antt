use Rattle.std.proofs.Common.{ℕ, ◌<◌, vec_items}
use Rattle.placement.specs.Seatings.{Fine}
use Rattle.placement.proofs.seatings.Seating.is_lawful.Given as goal

abbrev pub invariant-loop-k : goal.invariant-loop-k
invariant-loop-k l =
    (j : ℕ) → j < l.k → Fine l.ring.ticks l.pace.p l.pace.q l.stays (vec_items l.self.order) (vec_items l.self.times) j
