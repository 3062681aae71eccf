use Rattle.std.proofs.Common.{ℕ, List, length, vec_items, refl, subst, arith, rules, true≢false, sym}
use Rattle.ring.specs.Questions.{Tells}
use Rattle.placement.specs.Seatings.{Order, Seated, Lawful}
use Rattle.placement.proofs.Leaving.{empty_lawful}
use Rattle.placement.proofs.seatings.Seating.is_lawful.Goals as goal

pub returns-then-times-n : goal.returns-then-times-n
unfolding Seated Lawful
returns-then-times-n c = search rules

pub returns-then-not-is_order : goal.returns-then-not-is_order
unfolding Seated Lawful
returns-then-not-is_order c =
    let told : Tells c.is_order.result (Order (length c.args.stays.now) (vec_items c.args.self.now.order)) = subst (λ (os : List ℕ). Tells c.is_order.result (Order (length c.args.stays.now) os)) c.as_slice-order.ensures.value c.is_order.ensures in
    ((λ e. absurd (true≢false (sym e))), λ h. search (rules, told.1 h.0.0))

pub returns-then-n-eq0 : goal.returns-then-n-eq0
returns-then-n-eq0 c =
    let s = c.args.self.now in
    let order : Order (length c.args.stays.now) (vec_items s.order) = search rules in (
      (λ e. empty_lawful c.args.ring.ticks c.args.pace.p c.args.pace.q c.args.stays.now (vec_items s.order) (vec_items s.times) (omega arith) order (search rules)),
      λ h. refl,
    )

pub returns-then-order-ne0 : goal.returns-then-order-ne0
unfolding Seated Lawful
returns-then-order-ne0 c = search rules

pub returns-then-times-ticks : goal.returns-then-times-ticks
unfolding Seated Lawful
returns-then-times-ticks c = search rules

pub returns-then-not-is_fine : goal.returns-then-not-is_fine
unfolding Seated Lawful
returns-then-not-is_fine c =
    let k = c.loop-k.k in
    ((λ e. absurd (true≢false (sym e))), λ h. c.if-not-is_fine.ensures.1 (h.0.3 k (omega arith), h.0.4 k, h.0.5 k))

pub returns : goal.returns
unfolding Seated Lawful
returns c = search rules
