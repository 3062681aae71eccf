use Rattle.placement.proofs.Places.{place_searched}
use Rattle.placement.proofs.seatings.find.Goals as goal

pub returns : goal.returns
returns c = place_searched c.args.stay c.args.order.now c.first_at.result c.first_at.ensures
