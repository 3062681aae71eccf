use Rattle.std.proofs.Common.{◌≡◌, ℕ, List, length, vec_items, sym, ap, ◌∙◌, subst, arith}
use Rattle.placement.specs.Seatings.{Plan, planned, place_of, FirstPlace, Sound, begun, turned, begun_again}
use Rattle.placement.specs.Keeps.{Begun}
use Rattle.placement.proofs.Places.{place_or}
use Rattle.placement.proofs.Steps.{begun_law}
use Rattle.placement.proofs.seatings.Seating.turn.Goals as goal

pub turn_times-requires : goal.turn_times-requires
unfolding Sound
turn_times-requires c =
    let s = c.args.self.now in
    let n = c.len.result in
    let long : n ≡ length (vec_items s.order) = omega (arith, c.len.ensures, s.order.ok.0) in
    let found = subst (λ (os : List ℕ). FirstPlace c.args.stay os c.find.result) c.deref.ensures.value c.find.ensures in
    (omega (arith, (place_or c.args.stay n _ (vec_items s.order) c.find.result found long c.unwrap_or-k.ensures).1, c.requires.0, s.times.ok.0), c.requires.1)

pub returns : goal.returns
unfolding begun_again
returns c =
    let s = c.args.self.now in
    let C = c.args.ring.ticks in
    let i = c.args.stay in
    let n = c.len.result in
    let os : List ℕ = vec_items s.order in
    let ts : List ℕ = vec_items s.times in
    let long : n ≡ length os = omega (arith, c.len.ensures, s.order.ok.0) in
    let found = subst (λ (l : List ℕ). FirstPlace i l c.find.result) c.deref.ensures.value c.find.ensures in
    let at : c.unwrap_or-k.result ≡ place_of i os = (place_or i n _ os c.find.result found long c.unwrap_or-k.ensures).0 in
    let order = c.turn_order.ensures ∙ ap (λ k. turned k os) at in
    let times = c.turn_times.ensures ∙ ap (λ k. begun C k ts) at in
    let is : planned (vec_items c.turn_order.new.order) (vec_items c.turn_times.new.times) ≡ begun_again C i (planned os ts) = λ x. planned (order x) (times x) in
    record {
      begins = is;
      keeps = λ p q l hq h b. subst (λ (s' : Plan). Begun C p q l i (planned os ts) s') (sym is) (begun_law C p q l i os ts c.args.ring.bounds.0 hq h b);
    }
