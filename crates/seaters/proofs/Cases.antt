-- The lists worked by hand.
use Rattle.std.proofs.Common.{◌≡◌, ℕ, ◌<◌, ◌≤◌, List, [], ◌∷◌, length, refl, subst, arith}
use Rattle.placement.specs.Windows.{Holds}
use Rattle.placement.specs.Stays.{Apart}
use Rattle.placement.specs.Seatings.{Plan, planned, Seated, Lawful, turned, begun_again}
use Rattle.placement.specs.Worked.{trailing}
use Rattle.placement.specs.declared.stays.Stay.{Stay}
use Rattle.trials.specs.Trials.{Least, Trial, Closes, First}
use Rattle.trials.proofs.Firsts.{trial_same}
use Rattle.seaters.specs.ListOrders.{FirstBegun, InListOrder, order_of_list}
use Rattle.seaters.specs.Worked.{WorkedLists, one_long}

-- The least time, as two facts about every time of the window.
least : (C p q : ℕ) (a : Stay) (x : ℕ) (b : Stay) (y : ℕ) → Holds C b.window y → Apart p q a x b y → ((z : ℕ) → Holds C b.window z → Apart p q a x b z → y ≤ z) → Least C p q a x b y
least C p q a x b y h f g = record { holds = h; apart = f; least = g }

-- Closed at the first trial.
at_once : (C p q : ℕ) (l : List Stay) (ts : List ℕ) (s : Plan) → 0 < length (order_of_list l) → Trial C p q l (turned 0 (order_of_list l)) ts → Closes C p q l (turned 0 (order_of_list l)) ts → s ≡ begun_again C 0 (planned (turned 0 (order_of_list l)) ts) → FirstBegun C p q l s
at_once C p q l ts s n t c e = record {
  tried = planned (turned 0 (order_of_list l)) ts;
  first = (
    (λ z. absurd (omega arith)),
    λ _. record { place = 0; times = ts; first = record { place = n; trial = t; closes = c; earlier = λ u us b. absurd (omega arith) }; is = refl },
  );
  is = e;
}

whole : FirstBegun 100 1 1 (trailing 10 0 100 ∷ []) (planned (0 ∷ []) (10 ∷ []))
unfolding begun_again
whole = at_once 100 1 1 (trailing 10 0 100 ∷ []) (10 ∷ []) (planned (0 ∷ []) (10 ∷ [])) (omega arith) (refl, tt) (omega arith) refl

too_long : (s : Plan) → InListOrder 100 1 1 (trailing 10 0 101 ∷ []) s → ⊥
unfolding InListOrder Lawful Seated
too_long s g =
    let l = trailing 10 0 101 ∷ [] in
    let h : Seated 100 1 1 l (planned (0 ∷ []) s.times) = subst (λ v. Seated 100 1 1 l (planned v s.times)) g.1 g.0.0 in
    omega (arith, h.5 0 refl)

halves : FirstBegun 100 1 1 (trailing 0 10 50 ∷ trailing 45 10 50 ∷ []) (planned (0 ∷ 1 ∷ []) (0 ∷ 50 ∷ []))
unfolding begun_again
halves = at_once 100 1 1 (trailing 0 10 50 ∷ trailing 45 10 50 ∷ []) (0 ∷ 50 ∷ []) (planned (0 ∷ 1 ∷ []) (0 ∷ 50 ∷ [])) (omega arith)
    (refl, (least 100 1 1 (trailing 0 10 50) 0 (trailing 45 10 50) 50 (omega arith) (omega arith) (λ z w f. omega (arith, w, f)), tt)) (omega arith) refl

first_trial : Trial 200 1 1 one_long (0 ∷ 1 ∷ 2 ∷ []) (0 ∷ 60 ∷ 200 ∷ [])
first_trial = (
  refl,
  (
    least 200 1 1 (trailing 0 60 60) 0 (trailing 0 60 30) 60 (omega arith) (omega arith) (λ z w f. omega (arith, w, f)),
    (least 200 1 1 (trailing 0 60 30) 60 (trailing 0 60 30) 200 (omega arith) (omega arith) (λ z w f. omega (arith, w, f)), tt),
  ),
)

stays_open : Closes 200 1 1 one_long (0 ∷ 1 ∷ 2 ∷ []) (0 ∷ 60 ∷ 200 ∷ []) → ⊥
stays_open c = omega (arith, c)

second_trial : First 200 1 1 one_long (0 ∷ 1 ∷ 2 ∷ []) 1 (0 ∷ 30 ∷ 60 ∷ [])
second_trial = record {
  place = omega arith;
  trial = (
    refl,
    (
      least 200 1 1 (trailing 0 60 30) 0 (trailing 0 60 30) 30 (omega arith) (omega arith) (λ z w f. omega (arith, w, f)),
      (least 200 1 1 (trailing 0 60 30) 30 (trailing 0 60 60) 60 (omega arith) (omega arith) (λ z w f. omega (arith, w, f)), tt),
    ),
  );
  closes = omega arith;
  earlier = λ u us b g c.
      let z : u ≡ 0 = omega arith in
      let g' : Trial 200 1 1 one_long (0 ∷ 1 ∷ 2 ∷ []) us = subst (λ v. Trial 200 1 1 one_long (turned v (0 ∷ 1 ∷ 2 ∷ [])) us) z g in
      let c' : Closes 200 1 1 one_long (0 ∷ 1 ∷ 2 ∷ []) us = subst (λ v. Closes 200 1 1 one_long (turned v (0 ∷ 1 ∷ 2 ∷ [])) us) z c in
      let e = trial_same 200 1 1 one_long (omega arith) (omega arith) (0 ∷ 1 ∷ 2 ∷ []) us (0 ∷ 60 ∷ 200 ∷ []) g' first_trial in
      stays_open (subst (λ v. Closes 200 1 1 one_long (0 ∷ 1 ∷ 2 ∷ []) v) e c');
}

second_begun : FirstBegun 200 1 1 one_long (planned (0 ∷ 1 ∷ 2 ∷ []) (60 ∷ 200 ∷ 230 ∷ []))
unfolding begun_again
second_begun = record {
  tried = planned (1 ∷ 2 ∷ 0 ∷ []) (0 ∷ 30 ∷ 60 ∷ []);
  first = ((λ z. absurd (omega arith)), λ _. record { place = 1; times = 0 ∷ 30 ∷ 60 ∷ []; first = second_trial; is = refl });
  is = refl;
}

unordered : (s : Plan) → InListOrder 100 1 1 (trailing 0 0 20 ∷ trailing 50 0 20 ∷ trailing 25 10 10 ∷ []) s → ⊥
unfolding InListOrder Lawful Seated
unordered s g =
    let l = trailing 0 0 20 ∷ trailing 50 0 20 ∷ trailing 25 10 10 ∷ [] in
    let h : Seated 100 1 1 l (planned (0 ∷ 1 ∷ 2 ∷ []) s.times) = subst (λ v. Seated 100 1 1 l (planned v s.times)) g.1 g.0.0 in
    omega (arith, h.2 (omega arith), h.3 0 (omega arith), h.3 1 (omega arith), h.3 2 (omega arith), h.4 0 (omega arith), h.4 1 (omega arith), h.5 2 refl)

ordered : FirstBegun 100 1 1 (trailing 0 0 20 ∷ trailing 25 10 10 ∷ trailing 50 0 20 ∷ []) (planned (0 ∷ 1 ∷ 2 ∷ []) (0 ∷ 25 ∷ 50 ∷ []))
unfolding begun_again
ordered = at_once 100 1 1 (trailing 0 0 20 ∷ trailing 25 10 10 ∷ trailing 50 0 20 ∷ []) (0 ∷ 25 ∷ 50 ∷ []) (planned (0 ∷ 1 ∷ 2 ∷ []) (0 ∷ 25 ∷ 50 ∷ [])) (omega arith) (
  refl,
  (
    least 100 1 1 (trailing 0 0 20) 0 (trailing 25 10 10) 25 (omega arith) (omega arith) (λ z w f. omega (arith, w, f)),
    (least 100 1 1 (trailing 25 10 10) 25 (trailing 50 0 20) 50 (omega arith) (omega arith) (λ z w f. omega (arith, w, f)), tt),
  ),
) (omega arith) refl

thirds : FirstBegun 100 1 3 (trailing 0 0 10 ∷ trailing 3 1 10 ∷ []) (planned (0 ∷ 1 ∷ []) (0 ∷ 4 ∷ []))
unfolding begun_again
thirds = at_once 100 1 3 (trailing 0 0 10 ∷ trailing 3 1 10 ∷ []) (0 ∷ 4 ∷ []) (planned (0 ∷ 1 ∷ []) (0 ∷ 4 ∷ [])) (omega arith)
    (refl, (least 100 1 3 (trailing 0 0 10) 0 (trailing 3 1 10) 4 (omega arith) (omega arith) (λ z w f. omega (arith, w, f)), tt)) (omega arith) refl

pub worked_lists : WorkedLists
worked_lists = record {
  whole = whole;
  too_long = too_long;
  halves = halves;
  first_trial = first_trial;
  stays_open = stays_open;
  second_trial = second_trial;
  second_begun = second_begun;
  unordered = unordered;
  ordered = ordered;
  thirds = thirds;
}
