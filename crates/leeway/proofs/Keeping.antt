-- What a smaller fraction, a stay left out and a narrowed window do to the seatings in an order.
use Rattle.std.proofs.Common.{◌≡◌, ℕ, suc, ◌*◌, ◌<◌, ◌≤◌, true, false, cond, eqb, List, [], ◌∷◌, length, get_or, set, sym, refl, ap, ◌∙◌, subst, arith}
use native.Mathlib.Nat.{eq_of_mul-eq-mul_right}
use native.Mathlib.Decide.{ℕ_discrete}
use Rattle.std.specs.List.{remove}
use Rattle.std.proofs.lemmas.List.{length-set, get_or-set_same, get_or-set_other}
use Rattle.placement.specs.Windows.{Holds}
use Rattle.placement.specs.Stays.{Narrowed, no_stay}
use Rattle.placement.specs.Seatings.{Seated, Lawful, place_of, begun, begun_again, left_out, without}
use Rattle.placement.specs.declared.stays.Stay.{Stay}
use Rattle.placement.proofs.Easier.{seated_easier}
use Rattle.placement.proofs.Leaving.{without_keeps}
use Rattle.leeway.specs.Leeways.{SeatsIn, IsLeeway}
use Rattle.leeway.specs.Laws.{LeewayLaws, order_without}
use Rattle.leeway.proofs.Turning.{seats_turned, seats_unturned}

pub smaller : (C : ℕ) (l : List Stay) (os : List ℕ) (p q p' q' : ℕ) → 1 ≤ q → p' * q ≤ p * q' → SeatsIn C p q l os → SeatsIn C p' q' l os
unfolding Seated
smaller C l os p q p' q' hq h s =
    record { times = s.times; seated = seated_easier C p q l os s.times hq s.seated p' q' l (record { pace = h; long = refl; leads = λ i b. omega arith; trails = λ i b. omega arith; windows = s.seated.3 }) }

place_within : (i : ℕ) (os : List ℕ) → place_of i os ≤ length os
place_within i [] = omega arith
place_within i (o ∷ os) =
    let r = place_within i os in
    elim (eqb o i) as (λ b. cond b 0 (suc (place_of i os)) ≤ suc (length os)) [ true ↦ omega arith | false ↦ omega arith ]

pub left : (C : ℕ) (l : List Stay) (os : List ℕ) (p q i : ℕ) → 1 ≤ C → 1 ≤ q → i < length l → SeatsIn C p q l os → SeatsIn C p q (remove l i) (order_without i os)
unfolding Lawful without left_out begun_again
left C l os p q i hC hq b s =
    let lo = order_without i os in
    let k = place_of 0 lo in
    let r = (without_keeps C p q l i os s.times hC hq s.seated b).lawful.0 in
    seats_unturned C p q (remove l i) hC hq lo k (place_within 0 lo) (record { times = begun C k (remove s.times (place_of i os)); seated = r })

pub wider : (C : ℕ) (l : List Stay) (os : List ℕ) (p q i : ℕ) (a : Stay) → 1 ≤ q → i < length l → Narrowed C a (get_or l i no_stay) → SeatsIn C p q (set l i a) os → SeatsIn C p q l os
unfolding Seated
wider C l os p q i a hq b n s =
    let m = length-set l i a in
    let same : (j : ℕ) → (j ≡ i → ⊥) → get_or (set l i a) j no_stay ≡ get_or l j no_stay = λ j e. get_or-set_other l i j a no_stay e in
    let here : get_or (set l i a) i no_stay ≡ a = get_or-set_same l i a no_stay b in
    record {
      times = s.times;
      seated = seated_easier C p q (set l i a) os s.times hq s.seated p q l (record {
        pace = omega arith;
        long = sym m;
        leads = λ j h. elim (ℕ_discrete j i) [ yes e ↦ rw e (omega (arith, ap (λ (x : Stay). x.lead) here, n.lead)) | no e ↦ omega (arith, ap (λ (x : Stay). x.lead) (same j e)) ];
        trails = λ j h. elim (ℕ_discrete j i) [ yes e ↦ rw e (omega (arith, ap (λ (x : Stay). x.trail) here, n.trail)) | no e ↦ omega (arith, ap (λ (x : Stay). x.trail) (same j e)) ];
        windows = λ k h.
            let x = get_or s.times k 0 in
            let w = s.seated.3 k h in
            let P : Stay → Type 0 = λ y. Holds C y.window x in
            let Q : ℕ → Type 0 = λ j. P (get_or (set l i a) j no_stay) in
            let R : ℕ → Type 0 = λ j. P (get_or l j no_stay) in
            elim (ℕ_discrete (get_or os k 0) i) [
              | yes e ↦ subst R (sym e) (n.window x (subst P here (subst Q e w)))
              | no e ↦ subst P (same (get_or os k 0) e) w
            ];
      });
    }

pub one : (C : ℕ) (l : List Stay) (os : List ℕ) (P Q P' Q' : ℕ) → IsLeeway C l os P Q → IsLeeway C l os P' Q' → (P ≡ P') × (Q ≡ Q')
one C l os P Q P' Q' a b =
    let ab : P' * Q ≤ P * Q' = a.greatest P' Q' b.whole b.seats in
    let ba : P * Q' ≤ P' * Q = b.greatest P Q a.whole a.seats in
    let e : P' * Q ≡ P * Q' = omega arith in
    let h : Q ≡ Q' = omega (arith, a.lowest P' Q' b.whole e, b.lowest P Q a.whole (sym e)) in
    let f : P * Q ≡ P' * Q = ap (λ n. P * n) h ∙ sym e in
    (eq_of_mul-eq-mul_right Q a.whole P P' f, h)

pub laws : (C : ℕ) (l : List Stay) (os : List ℕ) → 1 ≤ C → LeewayLaws C l os
laws C l os hC = record {
  one = one C l os;
  smaller = λ p q p' q' hq h s. smaller C l os p q p' q' hq h s;
  begun = λ k P Q h a. record {
    some = a.some;
    whole = a.whole;
    seats = seats_turned C P Q l hC a.whole os k h a.seats;
    greatest = λ p q hq s. a.greatest p q hq (seats_unturned C p q l hC hq os k (omega arith) s);
    lowest = a.lowest;
  };
  left_out = λ i P Q P' Q' h a b. b.greatest P Q a.whole (left C l os P Q i hC a.whole h a.seats);
  narrowed = λ i s P Q P' Q' h n a b. a.greatest P' Q' b.whole (wider C l os P' Q' i s b.whole h n b.seats);
}
