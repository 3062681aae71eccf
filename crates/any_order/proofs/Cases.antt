-- The lists worked by hand.
use Rattle.std.proofs.Common.{◌≡◌, ℕ, zero, suc, ◌+◌, ◌*◌, ◌%◌, ◌<◌, ◌≤◌, List, [], ◌∷◌, length, get_or, sym, refl, ap, ◌∙◌, subst, arith, lit<, lit≤, length-append}
use Rattle.placement.specs.Seatings.{Plan, planned, Order, Seated, Lawful, begun_again, left_out, without}
use Rattle.placement.specs.Arcs.{InBounds}
use Rattle.placement.specs.Worked.{trailing}
use Rattle.placement.specs.declared.stays.Stay.{Stay}
use Rattle.placement.proofs.Chains.{Closed, closed_seated, stays, windows}
use Rattle.placement.proofs.Orders.{lists_order}
use Rattle.any_order.specs.Worked.{WorkedAny}

seats : (C p q : ℕ) (l : List Stay) (os ts : List ℕ) → Order (length l) (0 ∷ os) → Closed (stays l) (windows C l) C p q (0 ∷ os) ts → Lawful C p q l (planned (0 ∷ os) ts)
unfolding Seated Lawful
seats C p q l os ts o c = (closed_seated C p q l (0 ∷ os) ts o c, refl)

-- Bounds, stay by stay.
none_out : InBounds 100 []
none_out k b = absurd (omega arith)

one_more : (from width n : ℕ) (l : List Stay) → (from < 100) × (width < 100) × (n ≤ 40000) × (1 ≤ n) → InBounds 100 l → InBounds 100 (trailing from width n ∷ l)
one_more from width n l h good zero b = record { from = h.0; width = h.1; lead = omega arith; trail = h.2; some = omega (arith, h.3) }
one_more from width n l h good (suc k) b = good k (omega arith)

alone : (from width n : ℕ) → (from < 100) × (width < 100) × (n ≤ 40000) × (1 ≤ n) → InBounds 100 (trailing from width n ∷ [])
alone from width n h = one_more from width n [] h none_out

swapped : Order 3 (0 ∷ 2 ∷ 1 ∷ [])
swapped = lists_order 3 (0 ∷ 2 ∷ 1 ∷ []) refl (((λ e. omega arith), ((λ e. omega arith), tt)), (((λ e. omega arith), tt), (tt, tt))) (lit< tt, (lit< tt, (lit< tt, tt)))

two : Order 2 (0 ∷ 1 ∷ [])
two = lists_order 2 (0 ∷ 1 ∷ []) refl (((λ e. omega arith), tt), (tt, tt)) (lit< tt, (lit< tt, tt))

abbrev beside : ℕ → List Stay
beside n = trailing 0 99 n ∷ trailing 0 0 40 ∷ []

-- The order of two stays that begins with the first.
in_order : (os : List ℕ) → Order 2 os → get_or os 0 0 ≡ 0 → os ≡ 0 ∷ 1 ∷ []
in_order [] o z = absurd (omega (arith, o.0))
in_order (a ∷ []) o z = absurd (omega (arith, o.0))
in_order (a ∷ b ∷ []) o z =
    let low : b < 2 = o.1 1 (omega arith) in
    let apart : a ≡ b → ⊥ = o.2 0 1 (omega arith, omega arith) in
    let e : b ≡ 1 = one b low (λ w. apart (z ∙ sym w)) in
    ap (λ v. v ∷ b ∷ []) z ∙ ap (λ v. 0 ∷ v ∷ []) e
  where
    one : (b : ℕ) → b < 2 → (b ≡ 0 → ⊥) → b ≡ 1
    one zero l n = absurd (n refl)
    one (suc zero) l n = refl
    one (suc (suc b)) l n = absurd (omega arith)
in_order (a ∷ b ∷ c ∷ os) o z = absurd (omega (arith, o.0))

-- Beside the depot there are n ticks at most, and then at one place only.
squeezed : (n : ℕ) (s : Plan) → Lawful 100 1 1 (beside n) s → 60 ≤ n → (n ≡ 60) × (s.order ≡ 0 ∷ 1 ∷ []) × (s.times ≡ 40 ∷ 100 ∷ [])
unfolding Seated Lawful
squeezed n s L h =
    let e = in_order s.order L.0.0 L.1 in
    let S : Seated 100 1 1 (beside n) (planned (0 ∷ 1 ∷ []) s.times) = subst (λ v. Seated 100 1 1 (beside n) (planned v s.times)) e L.0 in
    let r = at s.times S.1 (S.2 (omega arith)) (S.3 1 (omega arith)) (S.4 0 (omega arith)) (S.5 1 refl) in
    (r.0, e, r.1)
  where
    at : (ts : List ℕ) → length ts ≡ 2 → get_or ts 0 0 < 100 → (get_or ts 1 0 + 100) % 100 ≤ 0 → 1 * (n + 0) + 1 * get_or ts 0 0 ≤ 1 * get_or ts 1 0 → 1 * (40 + 0) + 1 * get_or ts 1 0 ≤ 1 * (get_or ts 0 0 + 100) → (n ≡ 60) × (ts ≡ 40 ∷ 100 ∷ [])
    at [] l a b c d = absurd (omega arith)
    at (x ∷ []) l a b c d = absurd (omega arith)
    at (x ∷ y ∷ []) l a b c d =
        let ey : y ≡ 100 = omega arith in
        let ex : x ≡ 40 = omega arith in
        (omega arith, ap (λ v. v ∷ y ∷ []) ex ∙ ap (λ v. 40 ∷ v ∷ []) ey)
    at (x ∷ y ∷ z ∷ ts) l a b c d = absurd (omega arith)

depot_out : without 100 1 (planned (0 ∷ 1 ∷ []) (40 ∷ 100 ∷ [])) ≡ planned (0 ∷ []) (40 ∷ [])
unfolding without left_out begun_again
depot_out = refl

pub worked_any : WorkedAny
worked_any = record {
  ordered = (
    (lit≤ tt, one_more 0 0 20 (trailing 50 0 20 ∷ trailing 25 10 10 ∷ []) (lit< tt, lit< tt, lit≤ tt, lit≤ tt) (one_more 50 0 20 (trailing 25 10 10 ∷ []) (lit< tt, lit< tt, lit≤ tt, lit≤ tt) (alone 25 10 10 (lit< tt, lit< tt, lit≤ tt, lit≤ tt)))),
    seats 100 1 1 (trailing 0 0 20 ∷ trailing 50 0 20 ∷ trailing 25 10 10 ∷ []) (2 ∷ 1 ∷ []) (0 ∷ 25 ∷ 50 ∷ []) swapped (lit< tt, lit≤ tt, (lit≤ tt, lit≤ tt, (lit≤ tt, lit≤ tt, lit≤ tt))),
  );
  sits = (
    (λ z. absurd (omega arith)),
    λ b. record {
      longer = planned (0 ∷ 1 ∷ []) (40 ∷ 100 ∷ []);
      allowed = (
        (lit≤ tt, one_more 0 99 60 (trailing 0 0 40 ∷ []) (lit< tt, lit< tt, lit≤ tt, lit≤ tt) (alone 0 0 40 (lit< tt, lit< tt, lit≤ tt, lit≤ tt))),
        seats 100 1 1 (beside 60) (1 ∷ []) (40 ∷ 100 ∷ []) two (lit< tt, lit≤ tt, (lit≤ tt, lit≤ tt, lit≤ tt)),
      );
      is = sym depot_out;
    },
  );
  nowhere_else = λ s g.
      let r = g.1 (omega arith) in
      let k = squeezed 60 r.longer r.allowed.1 (omega arith) in
      r.is ∙ ap (λ os. without 100 1 (planned os r.longer.times)) k.1 ∙ ap (λ ts. without 100 1 (planned (0 ∷ 1 ∷ []) ts)) k.2 ∙ depot_out;
  too_long = λ s g. let r = g.1 (omega arith) in omega (arith, (squeezed 61 r.longer r.allowed.1 (omega arith)).0);
  thirteen = λ c l n t. omega (arith, n, t.0);
  twelve = λ c l depot n t. omega (arith, n, (t (omega (arith, n))).0, length-append l (depot ∷ []));
}
