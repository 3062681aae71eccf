use Rattle.std.proofs.Common.{◌≡◌, ℕ, ◌-◌, ◌<◌, ◌≤◌, length, get_or, take, vec_items}
use Rattle.placement.specs.Stays.{no_stay}
use Rattle.placement.specs.Seatings.{turned}
use Rattle.trials.specs.Trials.{Trial, last_of}
use Rattle.trials.proofs.Followers.{Fails}
use Rattle.trials.proofs.tries.first_closing.Given as goal

abbrev pub invariant-followers : goal.invariant-followers
invariant-followers l =
    (l.at ≤ l.end)
    × Trial l.ring.ticks l.ratio.over l.ratio.under l.stays (take l.k (turned l.t l.order)) (vec_items l.times)
    × (get_or l.stays (last_of 0 (take l.k (turned l.t l.order))) no_stay ≡ l.last)
    × (last_of 0 (vec_items l.times) ≡ l.at)

abbrev pub invariant-trials : goal.invariant-trials
invariant-trials l =
    (l.starts.start ≤ length l.order)
    × (l.starts.end ≡ length l.order)
    × ((u : ℕ) → u < l.starts.start → Fails l.ring.ticks l.ratio.over l.ratio.under l.stays (turned u l.order))

abbrev pub decreases-trials : goal.decreases-trials
decreases-trials l = l.n - l.starts.start
