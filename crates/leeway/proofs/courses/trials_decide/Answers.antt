use Rattle.leeway.proofs.Turning.{decided}
use Rattle.leeway.proofs.courses.trials_decide.Goals as goal

pub returns : goal.returns
returns c = decided c.args.ring.ticks c.args.ratio.over c.args.ratio.under c.args.stays.now c.args.order.now c.args.ring.bounds.0 c.args.ratio.whole
