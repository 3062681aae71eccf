use Rattle.std.proofs.Common.{ℕ, ◌+◌, ◌-◌, ◌<◌, ◌≤◌}
use Rattle.leeway.specs.Leeways.{SeatsIn}
use Rattle.leeway.proofs.courses.Course.largest.Given as goal

abbrev pub invariant-loop-high : goal.invariant-loop-high
invariant-loop-high l =
    (l.low < l.high) × (l.high ≤ l.self.ring.ticks + 1) × (l.from.over ≤ l.low)
    × SeatsIn l.self.ring.ticks l.low l.from.under l.self.stays.now l.self.order.now
    × ((e : ℕ) → e ≤ l.self.ring.ticks → SeatsIn l.self.ring.ticks e l.from.under l.self.stays.now l.self.order.now → e < l.high)

abbrev pub decreases-loop-high : goal.decreases-loop-high
decreases-loop-high l = l.high - l.low
