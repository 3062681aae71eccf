use Rattle.std.proofs.Common.{◌≡◌, map, take, vec_items}
use Rattle.seaters.specs.Layers.{widened}
use Rattle.seaters.proofs.margin.widen_all.Given as goal

abbrev pub invariant-loop-stay : goal.invariant-loop-stay
invariant-loop-stay l = vec_items l.list ≡ map (widened l.margin) (take l.stay-index l.stays)
