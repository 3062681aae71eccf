use Rattle.any_order.specs.AnyOrders.{SameInAnyOrder}
use Rattle.any_order.specs.Worked.{Worked}
use Rattle.any_order.proofs.Cases.{worked_any}
use Rattle.any_order.proofs.Fitting.{fitting}
use Rattle.any_order.proofs.Rearranging.{same_answer}
use Rattle.any_order.proofs.any_order.fitting_decides.Goals as goal

pub returns : goal.returns
unfolding Worked SameInAnyOrder
returns c = record {
  worked = worked_any;
  fitted = fitting c.args.ring.ticks c.args.pace.p c.args.pace.q c.args.stays.now c.args.ring.bounds.0 c.args.pace.bounds.0 c.args.pace.bounds.2;
  same = same_answer c.args.ring c.args.pace c.args.stays.now;
}
