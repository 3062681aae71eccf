use Rattle.std.proofs.Common.{◌+◌, ◌-◌, ◌/◌, sym, subst, arith}
use Rattle.leeway.specs.Leeways.{SeatsIn}
use Rattle.leeway.proofs.Greatest.{below, not_both}
use Rattle.leeway.proofs.courses.Course.largest.Goals as goal

-- Halved downwards: the list has no seating at the middle.
pub loop-high-preserved : goal.loop-high-preserved
loop-high-preserved c =
    let v = c.loop-high.invariant in
    let C = c.args.self.ring.ticks in
    let l = c.args.self.stays.now in
    let os = c.args.self.order.now in
    let g = c.args.from.under in
    let mid = c.loop-high.low + (c.loop-high.high - c.loop-high.low) / 2 in
    let e = c.with_over.ensures in
    let fails : SeatsIn C mid g l os → ⊥ = λ s. not_both c.if-branch.false (c.in_ok-seats.ensures.1 (subst (λ n. SeatsIn C n c.with_over.result.under l os) (sym e.0) (subst (λ n. SeatsIn C mid n l os) (sym e.1) s))) in
    (omega arith, omega arith, omega arith, v.3, λ x h s. below C g mid x l os c.args.from.whole fails s)
