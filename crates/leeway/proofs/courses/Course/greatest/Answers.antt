use Rattle.std.proofs.Common.{arith}
use Rattle.leeway.proofs.Greatest.{greatest, so_far_raised}
use Rattle.leeway.proofs.courses.Course.greatest.Goals as goal

pub loop-k-preserved : goal.loop-k-preserved
loop-k-preserved c =
    so_far_raised c.args.self.ring.ticks c.args.self.stays.now c.args.self.order.now c.loop-k.k c.gap_after.result c.loop-k.best _ c.gap_after.ensures c.loop-k.invariant c.in_ok-best.ensures

pub returns : goal.returns
returns c = greatest c.args.self.ring.ticks c.args.self.stays.now c.args.self.order.now c.loop-k.k c.loop-k.best c.args.self.asked (omega arith) c.loop-k.invariant
