-- A list in another order fits exactly if it does.
use Rattle.std.proofs.Common.{◌≡◌, ℕ, ◌<◌, List, map, length, get_or, sym, ap, ◌∙◌, subst, arith}
use Rattle.std.specs.List.{range_with_len}
use Rattle.std.proofs.lemmas.List.FromFn.{get_or-map-range_with_len, length-map-range_with_len}
use Rattle.std.proofs.lemmas.List.{get_or-map, length-map}
use Rattle.ring.specs.declared.measures.Ring.{Ring}
use Rattle.ring.specs.declared.measures.Pace.{Pace}
use Rattle.placement.specs.Windows.{Holds}
use Rattle.placement.specs.Stays.{StayBounds, no_stay}
use Rattle.placement.specs.Seatings.{Plan, Order, place_of}
use Rattle.placement.specs.Arcs.{InBounds, Overlap, OverlapsItself}
use Rattle.placement.specs.declared.stays.Stay.{Stay}
use Rattle.placement.proofs.Orders.{order_lists, place_is, place_order}
use Rattle.any_order.specs.AnyOrders.{CanFit, AnyLawful, rearranged, SameAnswer}
use Rattle.any_order.proofs.Fitting.{fitting}

-- Each stay of l' is a stay of l, the k-th the r k-th, and no two of them are the same one.
record Picks (l l' : List Stay) (r : ℕ → ℕ) : Type 0 where
  long : length l' ≡ length l
  into : (k : ℕ) → k < length l' → r k < length l
  once : (j k : ℕ) → j < length l' → k < length l' → r j ≡ r k → j ≡ k
  same : (k : ℕ) → k < length l' → get_or l (r k) no_stay ≡ get_or l' k no_stay

picked_bounds : (C : ℕ) (l l' : List Stay) (r : ℕ → ℕ) → Picks l l' r → InBounds C l → InBounds C l'
picked_bounds C l l' r P good k b = subst (λ a. StayBounds C a) (P.same k b) (good (r k) (P.into k b))

picked_fits : (C p q : ℕ) (l l' : List Stay) (r : ℕ → ℕ) → Picks l l' r → CanFit C p q l → CanFit C p q l'
picked_fits C p q l l' r P f =
    let n = length l' in
    let xs = f.positions in
    let ys = map (λ k. get_or xs (r k) 0) (range_with_len 0 n) in
    let at : (k : ℕ) → k < n → get_or ys k 0 ≡ get_or xs (r k) 0 = λ k b. get_or-map-range_with_len (λ k. get_or xs (r k) 0) 0 n k k 0 b (omega arith) in
    record {
      positions = ys;
      on_ring = (length-map-range_with_len (λ k. get_or xs (r k) 0) 0 n, λ k b. subst (λ x. x < C) (sym (at k b)) (f.on_ring.1 (r k) (P.into k b)));
      fit = record {
        within = λ k b.
            subst (λ x. Holds C (get_or l' k no_stay).window x) (sym (at k b)) (subst (λ (a : Stay). Holds C a.window (get_or xs (r k) 0)) (P.same k b) (f.fit.within (r k) (P.into k b)));
        clear = λ j k bj bk ne o.
            let o1 = subst (λ x. Overlap C p q (get_or l' j no_stay) x (get_or l' k no_stay) (get_or ys k 0)) (at j bj) o in
            let o2 = subst (λ x. Overlap C p q (get_or l' j no_stay) (get_or xs (r j) 0) (get_or l' k no_stay) x) (at k bk) o1 in
            let o3 = subst (λ a. Overlap C p q a (get_or xs (r j) 0) (get_or l' k no_stay) (get_or xs (r k) 0)) (sym (P.same j bj)) o2 in
            let o4 = subst (λ a. Overlap C p q (get_or l (r j) no_stay) (get_or xs (r j) 0) a (get_or xs (r k) 0)) (sym (P.same k bk)) o3 in
            f.fit.clear (r j) (r k) (P.into j bj) (P.into k bk) (λ e. ne (P.once j k bj bk e)) o4;
        alone = λ k b o. f.fit.alone (r k) (P.into k b) (subst (λ a. OverlapsItself C p q a) (sym (P.same k b)) o);
      };
    }

module _ (l : List Stay) (os : List ℕ) (o : Order (length l) os) where
  long : length (rearranged os l) ≡ length l
  long = length-map os (λ i. get_or l i no_stay) ∙ o.0

  there : Picks l (rearranged os l) (λ k. get_or os k 0)
  there = record {
    long = long;
    into = λ k b. o.1 k (omega (arith, long));
    once = λ j k bj bk e.
        let d = (order_lists (length l) os o).0 in
        sym (place_is os d j (omega (arith, long, o.0))) ∙ ap (λ i. place_of i os) e ∙ place_is os d k (omega (arith, long, o.0));
    same = λ k b. sym (get_or-map (λ i. get_or l i no_stay) os k 0 no_stay (omega (arith, long, o.0)));
  }

  back : Picks (rearranged os l) l (λ i. place_of i os)
  back = record {
    long = sym long;
    into = λ i b. omega (arith, (place_order (length l) os o i b).0, long);
    once = λ i j bi bj e. sym (place_order (length l) os o i bi).1 ∙ ap (λ k. get_or os k 0) e ∙ (place_order (length l) os o j bj).1;
    same = λ i b.
        let r = place_order (length l) os o i b in
        get_or-map (λ i. get_or l i no_stay) os (place_of i os) 0 no_stay (omega (arith, r.0, o.0)) ∙ ap (λ j. get_or l j no_stay) r.1;
  }

seats_picked : (c : Ring) (v : Pace) (l l' : List Stay) (r : ℕ → ℕ) → Picks l l' r → (s : Plan) → AnyLawful c v l s → (u : Plan) × AnyLawful c v l' u
seats_picked c v l l' r P s g =
    let C = c.ticks in
    let good = picked_bounds C l l' r P g.0.1 in
    let f = (fitting C v.p v.q l c.bounds.0 v.bounds.0 v.bounds.2 g.0.1).fits s g.1 in
    let u = (fitting C v.p v.q l' c.bounds.0 v.bounds.0 v.bounds.2 good).seats (picked_fits C v.p v.q l l' r P f) in
    (u.0, ((omega (arith, P.long, g.0.0), good), u.1))

pub same_answer : (c : Ring) (v : Pace) (l : List Stay) (os : List ℕ) → Order (length l) os → SameAnswer c v l os
same_answer c v l os o = record {
  taken = λ t. (omega (arith, long l os o, t.0), picked_bounds c.ticks l (rearranged os l) (λ k. get_or os k 0) (there l os o) t.1);
  taken_back = λ t. (omega (arith, long l os o, t.0), picked_bounds c.ticks (rearranged os l) l (λ i. place_of i os) (back l os o) t.1);
  granted = seats_picked c v l (rearranged os l) (λ k. get_or os k 0) (there l os o);
  granted_back = seats_picked c v (rearranged os l) l (λ i. place_of i os) (back l os o);
}
