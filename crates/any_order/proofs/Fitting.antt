-- A list can fit exactly if it has a lawful seating.
use Rattle.std.proofs.Common.{ℕ, ◌<◌, ◌≤◌, List, length, sym, subst, mod-lt}
use Rattle.placement.specs.Seatings.{Seated, Lawful}
use Rattle.placement.specs.Arcs.{InBounds, OnRing, PrintedRule}
use Rattle.placement.specs.declared.stays.Stay.{Stay}
use Rattle.placement.proofs.Leaving.{table, table_at, table_positions, length_table}
use Rattle.placement.proofs.Riders.{printed}
use Rattle.any_order.specs.AnyOrders.{Fitting}

pub fitting : (C p q : ℕ) (l : List Stay) → 1 ≤ C → 1 ≤ p → 1 ≤ q → InBounds C l → Fitting C p q l
unfolding PrintedRule Seated Lawful
fitting C p q l hC hp hq good = record {
  seats = λ f. let r = (printed C p q l f.positions hC hp hq good f.on_ring).0 f.fit in (r.0, r.1);
  fits = λ s L.
      let n = length l in
      let xs = table C n s.order s.times in
      let on : OnRing C l xs = (
        length_table C n s.order s.times,
        λ k b. subst (λ x. x < C) (sym (table_at C n s.order s.times k b)) (mod-lt _ hC),
      ) in
      record {
        positions = xs;
        on_ring = on;
        fit = (printed C p q l xs hC hp hq good on).1 s L (table_positions C n s.order s.times L.0.0);
      };
}
