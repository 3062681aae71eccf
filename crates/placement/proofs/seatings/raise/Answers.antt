use Rattle.std.proofs.Common.{◌≡◌, ◌+◌, get_or, ap, ◌∙◌, arith}
use Rattle.std.proofs.lemmas.List.{get_or-take}
use Rattle.placement.proofs.Places.{over_at, over_more}
use Rattle.placement.proofs.seatings.raise.Goals as goal

pub loop-t-preserved : goal.loop-t-preserved
loop-t-preserved c =
    let C = c.args.ring.ticks in
    let ts = c.args.times.now in
    let xs = c.split_at_mut-early.result.0.now in
    let l = c.loop-t in
    let i = l.t-index in
    let now : get_or xs i 0 ≡ get_or ts i 0 =
    ap (λ l. get_or l i 0) c.split_at_mut-early.ensures.front ∙ get_or-take c.args.k ts i 0 (omega (arith, c.split_at_mut-early.ensures.front_len)) in
    over_more (λ u. u + C) xs l.early i c.saturating_add.result (omega arith) l.auto.early l.invariant
    (omega (arith, c.saturating_add.ensures, c.ticks.ensures, over_at (λ u. u + C) xs l.early i (omega arith) l.invariant, now, c.requires.1 i, c.args.ring.bounds))
