use Rattle.std.proofs.Common.{◌≡◌, vec_items, sym, ap, ◌∙◌, subst}
use Rattle.placement.specs.Seatings.{Plan, plan, begun_again, without}
use Rattle.placement.specs.Keeps.{Left}
use Rattle.placement.proofs.Leaving.{without_keeps}
use Rattle.placement.proofs.seatings.Seating.take_out.Goals as goal

pub returns : goal.returns
unfolding without
returns c =
    let s = c.args.self.now in
    let C = c.args.ring.ticks in
    let i = c.args.stay in
    let is : plan c.turn.new.self ≡ without C i (plan s) = c.turn.ensures.begins ∙ ap (begun_again C 0) c.leave_out.ensures.leaves in
    record {
      leaves = is;
      keeps = λ p q l hq h b. subst (λ (s' : Plan). Left C p q l i (plan s) s') (sym is) (without_keeps C p q l i (vec_items s.order) (vec_items s.times) c.args.ring.bounds.0 hq h b);
    }
