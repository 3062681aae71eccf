use Rattle.trials.specs.Trials.{Complete}
use Rattle.trials.proofs.Firsts.{first_exists}
use Rattle.trials.proofs.tries.some_trial_closes.Goals as goal

pub returns : goal.returns
unfolding Complete
returns c = λ good o n ts h.
    first_exists c.args.ring.ticks c.args.ratio.over c.args.ratio.under c.args.stays.now c.args.ring.bounds.0 c.args.ratio.whole good c.args.order.now ts o n h
