use Rattle.placement.proofs.Offsets.{earliest_later}
use Rattle.placement.proofs.windows.next_turn.Goals as goal

pub returns : goal.returns
returns c = earliest_later c.args.ring.ticks c.args.window.now c.args.low c.args.ring.bounds.0
