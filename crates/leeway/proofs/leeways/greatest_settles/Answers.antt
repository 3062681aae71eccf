use Rattle.leeway.specs.Laws.{Laws}
use Rattle.leeway.specs.Worked.{Worked}
use Rattle.leeway.proofs.Cases.{worked_leeways}
use Rattle.leeway.proofs.Greatest.{settled}
use Rattle.leeway.proofs.Keeping.{laws}
use Rattle.leeway.proofs.leeways.greatest_settles.Goals as goal

pub returns : goal.returns
unfolding Laws Worked
returns c = record {
  settled = settled c.args.ring.ticks c.args.stays.now c.args.order.now c.args.ring.bounds.0 c.args.ring.bounds.1;
  laws = laws c.args.ring.ticks c.args.stays.now c.args.order.now c.args.ring.bounds.0;
  worked = worked_leeways;
}
