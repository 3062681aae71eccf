use Rattle.placement.proofs.Leaving.{empty_seated}
use Rattle.trials.proofs.tries.empty_is_seated.Goals as goal

pub returns : goal.returns
returns c = λ n. (empty_seated c.args.ring.ticks c.args.ratio.over c.args.ratio.under c.args.stays.now n).1
