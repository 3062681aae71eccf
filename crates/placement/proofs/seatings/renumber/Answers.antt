use Rattle.std.proofs.Common.{◌≡◌, ℕ, ◌-◌, cond, get_or, set, sym, ap, ◌∙◌, arith, le-ltb, lt-ltb}
use Rattle.placement.specs.Seatings.{fallen}
use Rattle.placement.proofs.Places.{over_more}
use Rattle.placement.proofs.seatings.renumber.Goals as goal
use Rattle.placement.proofs.seatings.renumber.Goals.{then-o-stay, else-o-stay}

pub loop-o-preserved : goal.loop-o-preserved
loop-o-preserved c =
    let i = c.loop-o.o-index in
    let s = c.args.stay in
    let xs = c.args.order.now in
    let ys = c.loop-o.order in
    let x = get_or ys i 0 in
    let step = λ (v : ℕ) (e : v ≡ fallen s x). over_more (fallen s) xs ys i v (omega arith) c.loop-o.auto.order c.loop-o.invariant e in
    elim c.if-o-stay.branch [
      | then-o-stay w ↦
          let e : c.if-o-stay.order ≡ set ys i (x - 1) = w.order-is in
          e ∙ step (x - 1) (sym (ap (λ b. cond b (x - 1) x) (lt-ltb s x w.if-o-stay.true)))
      | else-o-stay w ↦
          let e : c.if-o-stay.order ≡ set ys i x = w.order-is in
          e ∙ step x (sym (ap (λ b. cond b (x - 1) x) (le-ltb s x w.if-o-stay.false)))
    ]
