use Rattle.std.proofs.Common.{ℕ, ◌<◌, List, [], reverse, length, vec_items}
use Rattle.placement.specs.declared.stays.Stay.{Stay}
use Rattle.search.specs.Roads.{Whole}
use Rattle.search.specs.Partials.{Sound, nth}
use Rattle.search.proofs.partials.Arena.read_back.Given as goal

abbrev pub invariant-loop-times : goal.invariant-loop-times
invariant-loop-times l =
    (l.i < length l.partials)
    × ((C p q : ℕ) (s : List Stay) (room : ℕ) → Sound C p q s (length l.partials) l.partials
    → Whole C p q s room (nth l.partials l.at).set (nth l.partials l.at).end [] []
    → Whole C p q s room (nth l.partials l.i).set (nth l.partials l.i).end (reverse (vec_items l.order)) (reverse (vec_items l.times)))

abbrev pub decreases-loop-times : goal.decreases-loop-times
decreases-loop-times l = l.i
