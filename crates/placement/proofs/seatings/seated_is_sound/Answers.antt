use Rattle.placement.proofs.Easier.{seated_sound}
use Rattle.placement.proofs.seatings.seated_is_sound.Goals as goal

pub returns : goal.returns
returns c =
    let b = c.args.ring.bounds in
    λ p q l s hq h. seated_sound c.args.ring.ticks p q l s.order s.times b.0 b.1 hq h
