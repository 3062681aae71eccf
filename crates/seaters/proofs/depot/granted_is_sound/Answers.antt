use Rattle.placement.specs.Seatings.{Lawful}
use Rattle.placement.proofs.Easier.{seated_sound}
use Rattle.seaters.proofs.depot.granted_is_sound.Goals as goal

pub returns : goal.returns
unfolding Lawful
returns g c = λ l s h.
    let L = (g.met.S.Seater.keeps c.args.seater.now).lawful c.args.ring c.args.pace l s h in
    seated_sound c.args.ring.ticks c.args.pace.p c.args.pace.q l s.order s.times c.args.ring.bounds.0 c.args.ring.bounds.1 c.args.pace.bounds.2 L.0
