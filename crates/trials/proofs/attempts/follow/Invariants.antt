use Rattle.std.proofs.Common.{◌≡◌, ◌∷◌, get_or, take, vec_items}
use Rattle.placement.specs.Stays.{no_stay}
use Rattle.trials.specs.Trials.{Trial, last_of}
use Rattle.trials.proofs.attempts.follow.Given as goal

abbrev pub invariant-loop-i : goal.invariant-loop-i
invariant-loop-i l =
    Trial l.ring.ticks l.ratio.over l.ratio.under l.stays (l.head ∷ take l.i-index l.others) (vec_items l.times)
    × (get_or l.stays (last_of 0 (l.head ∷ take l.i-index l.others)) no_stay ≡ l.last)
    × (last_of 0 (vec_items l.times) ≡ l.at)
