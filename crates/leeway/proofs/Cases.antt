-- The leeways worked by hand.
use Rattle.std.proofs.Common.{◌≡◌, ℕ, ◌+◌, ◌-◌, ◌*◌, ◌%◌, ◌<◌, ◌≤◌, List, [], ◌∷◌, get_or, refl, ap, ◌∙◌, mul-le-mul_left, mul-add, arith, lit<, lit≤}
use native.Mathlib.Nat.{le_of_mul-le-mul_left}
use native.Mathlib.Decide.{dec_le}
use Rattle.placement.specs.Seatings.{Order, Seated}
use Rattle.placement.specs.Worked.{trailing, leading}
use Rattle.placement.specs.declared.stays.Stay.{Stay}
use Rattle.placement.proofs.Chains.{closed_seated}
use Rattle.placement.proofs.Orders.{lists_order}
use Rattle.leeway.specs.Leeways.{SeatsIn}
use Rattle.leeway.specs.Worked.{WorkedLeeways}

two : Order 2 (0 ∷ 1 ∷ [])
two = lists_order 2 (0 ∷ 1 ∷ []) refl (((λ e. omega arith), tt), (tt, tt)) (lit< tt, (lit< tt, tt))

three : Order 3 (0 ∷ 1 ∷ 2 ∷ [])
three = lists_order 3 (0 ∷ 1 ∷ 2 ∷ []) refl (((λ e. omega arith), ((λ e. omega arith), tt)), (((λ e. omega arith), tt), (tt, tt))) (lit< tt, (lit< tt, (lit< tt, tt)))

abbrev trio : List Stay
trio = trailing 0 0 20 ∷ trailing 25 10 10 ∷ trailing 50 0 20 ∷ []

-- By whether the second comes by 33, or later.
trio_most : (p q : ℕ) → 1 ≤ q → SeatsIn 100 p q trio (0 ∷ 1 ∷ 2 ∷ []) → p * 20 ≤ 33 * q
unfolding Seated
trio_most p q hq s = at (get_or s.times 0 0) (get_or s.times 1 0) (get_or s.times 2 0) (s.seated.2 (omega arith)) (s.seated.3 0 (omega arith)) (s.seated.3 1 (omega arith)) (s.seated.3 2 (omega arith)) (s.seated.4 0 (omega arith)) (s.seated.4 1 (omega arith)) (s.seated.5 2 refl)
  where
    at : (x y z : ℕ) → x < 100 → (x + 100) % 100 ≤ 0 → (y + 75) % 100 ≤ 10 → (z + 50) % 100 ≤ 0 → p * 20 + q * x ≤ q * y → p * 10 + q * y ≤ q * z → p * 20 + q * z ≤ q * (x + 100) → p * 20 ≤ 33 * q
    at x y z hx wx wy wz a b c =
        let ex : x ≡ 0 = omega arith in
        let e0 : q * x ≡ 0 = ap (λ n. q * n) ex ∙ omega arith in
        let hz : z ≤ 100 = le_of_mul-le-mul_left (omega (arith, mul-add q x 100)) hq in
        let ez : z ≡ 50 = omega arith in
        let qz : q * z ≡ q * 50 = ap (λ n. q * n) ez in
        elim (dec_le y 33) [
          | yes h ↦ omega (arith, mul-le-mul_left q h)
          | no h ↦ let g : 34 ≤ y = omega arith in omega (arith, mul-le-mul_left q g)
        ]

abbrev pair : List Stay
pair = trailing 0 10 50 ∷ trailing 45 10 50 ∷ []

pair_most : (p q : ℕ) → 1 ≤ q → SeatsIn 100 p q pair (0 ∷ 1 ∷ []) → p * 1 ≤ 1 * q
unfolding Seated
pair_most p q hq s =
    let x = get_or s.times 0 0 in
    omega (arith, s.seated.4 0 (omega arith), s.seated.5 1 refl, mul-add q x 100)

abbrev dropping : List Stay
dropping = trailing 0 0 20 ∷ trailing 25 10 10 ∷ leading 60 10 20 ∷ []

-- By whether the second comes by 28, or later.
dropping_most : (p q : ℕ) → 1 ≤ q → SeatsIn 100 p q dropping (0 ∷ 1 ∷ 2 ∷ []) → p * 5 ≤ 7 * q
unfolding Seated
dropping_most p q hq s = at (get_or s.times 0 0) (get_or s.times 1 0) (get_or s.times 2 0) (s.seated.2 (omega arith)) (s.seated.3 0 (omega arith)) (s.seated.3 2 (omega arith)) (s.seated.4 0 (omega arith)) (s.seated.4 1 (omega arith)) (s.seated.5 2 refl)
  where
    at : (x y z : ℕ) → x < 100 → (x + 100) % 100 ≤ 0 → (z + 40) % 100 ≤ 10 → p * 20 + q * x ≤ q * y → p * 30 + q * y ≤ q * z → p * 0 + q * z ≤ q * (x + 100) → p * 5 ≤ 7 * q
    at x y z hx wx wz a b c =
        let ex : x ≡ 0 = omega arith in
        let e0 : q * x ≡ 0 = ap (λ n. q * n) ex ∙ omega arith in
        let hz : z ≤ 100 = le_of_mul-le-mul_left (omega (arith, mul-add q x 100)) hq in
        let gz : z ≤ 70 = omega arith in
        let qz : q * z ≤ q * 70 = mul-le-mul_left q gz in
        elim (dec_le y 28) [
          | yes h ↦ omega (arith, mul-le-mul_left q h)
          | no h ↦ let g : 28 ≤ y = omega arith in omega (arith, mul-le-mul_left q g)
        ]

-- A multiple that is not zero.
by_twenty : (q m : ℕ) → 1 ≤ q → q ≡ 20 * m → 20 ≤ q
by_twenty q m h e = omega arith

by_five : (q m : ℕ) → 1 ≤ q → q ≡ 5 * m → 5 ≤ q
by_five q m h e = omega arith

pub worked_leeways : WorkedLeeways
worked_leeways = record {
  three = record {
    some = lit≤ tt;
    whole = lit≤ tt;
    seats = record { times = 0 ∷ 33 ∷ 50 ∷ []; seated = closed_seated 100 33 20 trio (0 ∷ 1 ∷ 2 ∷ []) (0 ∷ 33 ∷ 50 ∷ []) three (lit< tt, lit≤ tt, (lit≤ tt, lit≤ tt, (lit≤ tt, lit≤ tt, lit≤ tt))) };
    greatest = trio_most;
    lowest = λ p q hq e. by_twenty q (17 * p - 28 * q) hq (omega (arith, e));
  };
  not_reached = λ s. omega (arith, trio_most 5 3 (lit≤ tt) s);
  full = record {
    some = lit≤ tt;
    whole = lit≤ tt;
    seats = record { times = 0 ∷ 50 ∷ []; seated = closed_seated 100 1 1 pair (0 ∷ 1 ∷ []) (0 ∷ 50 ∷ []) two (lit< tt, lit≤ tt, (lit≤ tt, lit≤ tt, lit≤ tt)) };
    greatest = pair_most;
    lowest = λ p q hq e. hq;
  };
  with_drop = record {
    some = lit≤ tt;
    whole = lit≤ tt;
    seats = record { times = 0 ∷ 28 ∷ 70 ∷ []; seated = closed_seated 100 7 5 dropping (0 ∷ 1 ∷ 2 ∷ []) (0 ∷ 28 ∷ 70 ∷ []) three (lit< tt, lit≤ tt, (lit≤ tt, lit≤ tt, (lit≤ tt, lit≤ tt, lit≤ tt))) };
    greatest = dropping_most;
    lowest = λ p q hq e. by_five q (3 * p - 4 * q) hq (omega (arith, e));
  };
}
