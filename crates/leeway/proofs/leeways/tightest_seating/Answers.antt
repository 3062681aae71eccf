use Rattle.std.proofs.Common.{ℕ, Ok, subst}
use Rattle.placement.specs.Seatings.{plan}
use Rattle.trials.specs.Trials.{Answers}
use Rattle.leeway.proofs.leeways.tightest_seating.Goals as goal

pub returns-in-Ok : goal.returns-in-Ok
returns-in-Ok c =
    let C = c.args.ring.ticks in
    let l = c.args.stays.now in
    let os = c.args.order.now in
    let most = c.in_ok-leeway.leeway in
    let told = c.in_ok-leeway.ensures.answers in
    let e = c.from-ratio.ensures in
    let a : Answers C c.from-ratio.result.over c.from-ratio.result.under l os (Ok c.in-Ok.seating) = c.in-Ok.ensures.answers in
    let b = subst (λ (q : ℕ). Answers C most.over q l os (Ok c.in-Ok.seating)) e.1 (subst (λ (p : ℕ). Answers C p c.from-ratio.result.under l os (Ok c.in-Ok.seating)) e.0 a) in
    (told, c.greatest_settles.ensures.settled.shown most.over most.under most.whole told.0 (plan c.in-Ok.seating) (plan c.begin_again.new.self) b.2 b.3 c.begin_again.ensures.begins)
