use Rattle.std.proofs.Common.{ℕ, ◌<◌, get_or}
use Rattle.placement.specs.Stays.{StayBounds, no_stay}
use Rattle.placement.proofs.stays.all_in_bounds.Given as goal

abbrev pub invariant-loop-stay : goal.invariant-loop-stay
invariant-loop-stay l = (k : ℕ) → k < l.stay-index → StayBounds l.ring.ticks (get_or l.stays k no_stay)
