use Rattle.std.proofs.Common.{get_or, arith, true≢false, sym}
use Rattle.placement.proofs.Orders.{place_is, order_lists}
use Rattle.placement.proofs.Places.{place_some, other_place}
use Rattle.placement.proofs.seatings.is_order.Goals as goal
use Rattle.placement.proofs.seatings.is_order.Goals.{then-o-n-via-then-o-n, then-o-n-via-else-o-n+then-ne}

-- An index that is none of the list's, or that stands at an earlier place too.
pub returns-then-o-n : goal.returns-then-o-n
returns-then-o-n c =
    let os = c.args.order.now in
    let k = c.loop-k.k in (
      (λ e. absurd (true≢false (sym e))),
      λ o. elim c.then-o-n.branch [
        | then-o-n-via-then-o-n w ↦ absurd (omega (arith, w.if-o-n.true, o.1 k (omega (arith, o.0))))
        | then-o-n-via-else-o-n+then-ne w ↦ absurd (other_place w.find.result k w.ne.result w.ne.ensures w.if-ne.true (place_some (get_or os k 0) k os w.find.result w.find.ensures (place_is os (order_lists c.args.n os o).0 k (omega arith)) (omega arith)))
      ],
    )
