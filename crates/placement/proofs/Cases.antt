-- The worked seatings.
use Rattle.std.proofs.Common.{ℕ, ◌+◌, ◌*◌, ◌≤◌, List, [], ◌∷◌, length, get_or, refl, subst, arith, lit<, lit≤}
use Rattle.placement.specs.declared.stays.Stay.{Stay}
use Rattle.placement.specs.Stays.{no_stay}
use Rattle.placement.specs.Seatings.{Plan, Seated, Lawful, Order, planned}
use Rattle.placement.specs.Worked.{trailing, leading, WorkedSeatings}
use Rattle.placement.proofs.Chains.{Closed, closed_seated, stays, windows}
use Rattle.placement.proofs.Orders.{lists_order}

seats : (C p q : ℕ) (l : List Stay) (os ts : List ℕ) → Order (length l) (0 ∷ os) → Closed (stays l) (windows C l) C p q (0 ∷ os) ts → Lawful C p q l (planned (0 ∷ os) ts)
unfolding Seated Lawful
seats C p q l os ts o c = (closed_seated C p q l (0 ∷ os) ts o c, refl)

one : Order 1 (0 ∷ [])
one = lists_order 1 (0 ∷ []) refl (tt, tt) (lit< tt, tt)

two : Order 2 (0 ∷ 1 ∷ [])
two = lists_order 2 (0 ∷ 1 ∷ []) refl (((λ e. omega arith), tt), (tt, tt)) (lit< tt, (lit< tt, tt))

three : Order 3 (0 ∷ 1 ∷ 2 ∷ [])
three = lists_order 3 (0 ∷ 1 ∷ 2 ∷ []) refl (((λ e. omega arith), ((λ e. omega arith), tt)), (((λ e. omega arith), tt), (tt, tt))) (lit< tt, (lit< tt, (lit< tt, tt)))

too_long : (s : Plan) → Lawful 100 1 1 (trailing 10 0 101 ∷ []) s → ⊥
unfolding Seated Lawful
too_long s h =
    let t = get_or s.times 0 0 in
    let P : ℕ → Type 0 = λ i. 1 * ((get_or (trailing 10 0 101 ∷ []) i no_stay).trail + (get_or (trailing 10 0 101 ∷ []) i no_stay).lead) + 1 * t ≤ 1 * (t + 100) in
    let f : P 0 = subst P h.1 (h.0.5 0 refl) in
    omega arith

pub worked : WorkedSeatings
worked =
    record {
      halves = seats 10 1 2 (trailing 0 0 1 ∷ leading 1 0 1 ∷ []) (1 ∷ []) (0 ∷ 1 ∷ []) two (lit< tt, lit≤ tt, (lit≤ tt, lit≤ tt, lit≤ tt));
      shared = seats 100 1 1 (leading 40 0 10 ∷ trailing 40 0 10 ∷ []) (1 ∷ []) (40 ∷ 40 ∷ []) two (lit< tt, lit≤ tt, (lit≤ tt, lit≤ tt, lit≤ tt));
      shared_turned = seats 100 1 1 (trailing 40 0 10 ∷ leading 40 0 10 ∷ []) (1 ∷ []) (40 ∷ 140 ∷ []) two (lit< tt, lit≤ tt, (lit≤ tt, lit≤ tt, lit≤ tt));
      whole = seats 100 1 1 (trailing 10 0 100 ∷ []) [] (10 ∷ []) one (lit< tt, lit≤ tt, lit≤ tt);
      too_long = too_long;
      three = seats 200 1 1 (trailing 0 60 60 ∷ trailing 0 60 30 ∷ trailing 0 60 30 ∷ []) (1 ∷ 2 ∷ []) (60 ∷ 200 ∷ 230 ∷ []) three (lit< tt, lit≤ tt, (lit≤ tt, lit≤ tt, (lit≤ tt, lit≤ tt, lit≤ tt)));
    }
