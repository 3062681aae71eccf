use Rattle.seaters.specs.Worked.{Worked}
use Rattle.seaters.proofs.Cases.{worked_lists}
use Rattle.seaters.specs.ListRules.{decided}
use Rattle.seaters.proofs.list_order.trials_decide.Goals as goal

pub returns : goal.returns
unfolding Worked
returns c = record {
  worked = worked_lists;
  decided = decided c.args.ring.ticks c.args.pace.p c.args.pace.q c.args.stays.now c.args.ring.bounds.0 c.args.ring.bounds.1 c.args.pace.bounds.2;
}
