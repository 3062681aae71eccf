use Rattle.std.proofs.Common.{◌≡◌, ℕ, ◌<◌, get_or}
use Rattle.placement.specs.Seatings.{place_of}
use Rattle.placement.proofs.seatings.is_order.Given as goal

abbrev pub invariant-loop-k : goal.invariant-loop-k
invariant-loop-k l =
    (j : ℕ) → j < l.k → (get_or l.order j 0 < l.n) × (place_of (get_or l.order j 0) l.order ≡ j)
