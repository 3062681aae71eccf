use Rattle.std.proofs.Common.{◌-◌, arith}
use Rattle.placement.proofs.Places.{over_more}
use Rattle.placement.proofs.seatings.lower.Goals as goal

pub loop-t-preserved : goal.loop-t-preserved
loop-t-preserved c =
    over_more (λ u. u - c.args.base) c.args.times.now c.loop-t.times c.loop-t.t-index c.saturating_sub.result (omega arith) c.loop-t.auto.times c.loop-t.invariant c.saturating_sub.ensures
