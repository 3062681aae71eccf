-- The steps of a seating, from each stay to the next round its order.
use Rattle.std.proofs.Common.{◌≡◌, ℕ, suc, ◌+◌, ◌-◌, ◌*◌, ◌<◌, ◌≤◌, cond, ◌⊎◌, List, length, get_or, sym, ap, ◌∙◌, subst, inl, inr, mul_comm, mul-add, arith, le-ltb, lt-ltb}
use native.Mathlib.Decide.{dec_lt}
use Rattle.placement.specs.Stays.{Apart}
use Rattle.placement.specs.Seatings.{planned, Seated, kth}
use Rattle.placement.specs.Keeps.{along}
use Rattle.placement.specs.Arcs.{InBounds}
use Rattle.placement.specs.declared.stays.Stay.{Stay}
use Rattle.placement.proofs.Chains.{apart_le, lawful_on, lawful_round}
use Rattle.placement.proofs.Steps.{along_here, along_past}
use Rattle.leeway.specs.Leeways.{next_place, gap_at}
use Rattle.leeway.proofs.Ratios.{least_ratio}

-- What comes after the k-th stay: the next in the order, or the first, one ring later.
pub after : (C n k : ℕ) (ts : List ℕ) → length ts ≡ n → k < n → ((suc k < n) × (next_place n k ≡ suc k) × (along C ts (suc k) ≡ get_or ts (suc k) 0)) ⊎ ((suc k ≡ n) × (next_place n k ≡ 0) × (along C ts (suc k) ≡ get_or ts 0 0 + C))
after C n k ts e h = elim (dec_lt (suc k) n) [
  | yes b ↦ inl (b, ap (λ v. cond v (suc k) 0) (lt-ltb (suc k) n b), along_here C ts (suc k) (omega arith))
  | no b ↦
      let z : suc k - length ts ≡ 0 = omega arith in
      inr (omega arith, ap (λ v. cond v (suc k) 0) (le-ltb (suc k) n (omega arith)), along_past C ts (suc k) (omega arith) ∙ ap (λ j. get_or ts j 0 + C) z)
]

module _ (C p q : ℕ) (l : List Stay) (os ts : List ℕ) (S : Seated C p q l (planned os ts)) where
  n : ℕ
  n = length l

  -- Each stay is apart from the next.
  pub apart_at : (k : ℕ) → k < length l → Apart p q (kth l os k) (get_or ts k 0) (kth l os (next_place (length l) k)) (along C ts (suc k))
  unfolding Seated
  apart_at k b =
      let P : ℕ → ℕ → Type 0 = λ j y. Apart p q (kth l os k) (get_or ts k 0) (kth l os j) y in
      elim (after C (length l) k ts S.1 b) [
        | inl w ↦ subst (λ j. P j (along C ts (suc k))) (sym w.1) (subst (P (suc k)) (sym w.2) (S.4 k w.0))
        | inr w ↦ subst (λ j. P j (along C ts (suc k))) (sym w.1) (subst (P 0) (sym w.2) (S.5 k w.0))
      ]

  -- And where each is at another pace, the seating keeps the rules there.
  pub apart_from : (p' q' : ℕ) → ((k : ℕ) → k < length l → Apart p' q' (kth l os k) (get_or ts k 0) (kth l os (next_place (length l) k)) (along C ts (suc k))) → Seated C p' q' l (planned os ts)
  unfolding Seated
  apart_from p' q' f =
      let P : ℕ → ℕ → ℕ → Type 0 = λ k j y. Apart p' q' (kth l os k) (get_or ts k 0) (kth l os j) y in (
        S.0,
        S.1,
        S.2,
        S.3,
        (λ k b. elim (after C (length l) k ts S.1 (omega arith)) [
          | inl w ↦ subst (P k (suc k)) w.2 (subst (λ j. P k j (along C ts (suc k))) w.1 (f k (omega arith)))
          | inr w ↦ absurd (omega (arith, w.0, b))
        ]),
        λ k b. elim (after C (length l) k ts S.1 (omega arith)) [
          | inl w ↦ absurd (omega (arith, w.0, b))
          | inr w ↦ subst (P k 0) w.2 (subst (λ j. P k j (along C ts (suc k))) w.1 (f k (omega arith)))
        ],
      )

  step : ℕ → ℕ
  step k = along C ts (suc k) - get_or ts k 0

  module _ (hq : 1 ≤ q) where
    -- A step goes on, and no further than a ring.
    step_is : (k : ℕ) → k < length l → get_or ts k 0 + step k ≡ along C ts (suc k)
    unfolding step
    step_is k b =
        let h : get_or ts k 0 ≤ along C ts (suc k) = apart_le p q (kth l os k) (get_or ts k 0) (kth l os (next_place (length l) k)) (along C ts (suc k)) hq (apart_at k b) in
        omega arith

    step_small : (k : ℕ) → k < length l → step k ≤ C
    unfolding Seated
    step_small k b =
        elim (after C (length l) k ts S.1 b) [
          | inl w ↦
              let h : get_or ts (suc k) 0 ≤ get_or ts k 0 + C = apart_le p q (kth l os (suc k)) (get_or ts (suc k) 0) (kth l os k) (get_or ts k 0 + C) hq (lawful_round C p q l os ts S k (suc k) (omega arith) w.0) in
              omega (arith, step_is k b, w.2)
          | inr w ↦ omega (arith, step_is k b, w.2, first_least k b (dec_lt 0 k))
        ]
      where
        first_least : (k : ℕ) → k < length l → Dec (0 < k) → get_or ts 0 0 ≤ get_or ts k 0
        first_least k b (yes h) = apart_le p q (kth l os 0) (get_or ts 0 0) (kth l os k) (get_or ts k 0) hq (lawful_on C p q l os ts S 0 k h b)
        first_least k b (no h) = let z : k ≡ 0 = omega arith in rw z (omega arith)

    -- The pace, at the k-th stay, is at most the step over the gap.
    step_over : (k : ℕ) → k < length l → p * gap_at l os k ≤ q * step k
    step_over k b =
        let e = step_is k b in
        let m : q * (get_or ts k 0 + step k) ≡ q * along C ts (suc k) = ap (λ v. q * v) e in
        omega (arith, apart_at k b, mul-add q (get_or ts k 0) (step k))

    -- The same times at a pace that is no more than any step over its gap.
    at_steps : (d g : ℕ) → ((k : ℕ) → k < length l → d * gap_at l os k ≤ step k * g) → Seated C d g l (planned os ts)
    at_steps d g f = apart_from d g (λ k b.
        let e = step_is k b in
        let m : g * (get_or ts k 0 + step k) ≡ g * along C ts (suc k) = ap (λ v. g * v) e in
        omega (arith, f k b, mul-add g (get_or ts k 0) (step k), mul_comm g (step k)))

-- A fraction of the order's own, its least step over a gap: the same times keep the rules there, and it
-- is no less than the pace.
pub record Own (C p q : ℕ) (l : List Stay) (os ts : List ℕ) : Type 0 where
  pub place : ℕ
  pub d : ℕ
  pub inside : place < length l
  pub gap : 1 ≤ gap_at l os place
  pub small : d ≤ C
  pub above : p * gap_at l os place ≤ d * q
  pub seated : Seated C d (gap_at l os place) l (planned os ts)

pub own : (C p q : ℕ) (l : List Stay) (os ts : List ℕ) → 1 ≤ q → 0 < length l → InBounds C l → Seated C p q l (planned os ts) → Own C p q l os ts
unfolding Seated
own C p q l os ts hq some good S = elim (least_ratio (step C p q l os ts S) (gap_at l os) (length l)) [
  | inl z ↦
      let b : get_or os 0 0 < length l = S.0.1 0 some in
      let last = length l - 1 in
      let lb : last < length l = omega arith in
      elim (after C (length l) last ts S.1 lb) [
        | inl w ↦ absurd (omega (arith, w.0))
        | inr w ↦
            let L : ℕ → Type 0 = λ j. (kth l os last).trail + (kth l os j).lead ≡ 0 in
            let lead : (kth l os last).trail + (kth l os 0).lead ≡ 0 = subst L w.1 (z last lb) in
            absurd (omega (arith, lead, z 0 some, (good (get_or os 0 0) b).some))
      ]
  | inr r ↦ record {
    place = r.place;
    d = step C p q l os ts S r.place;
    inside = r.inside;
    gap = r.gap;
    small = step_small C p q l os ts S hq r.place r.inside;
    above = omega (arith, step_over C p q l os ts S hq r.place r.inside, mul_comm q (step C p q l os ts S r.place));
    seated = at_steps C p q l os ts S hq (step C p q l os ts S r.place) (gap_at l os r.place) r.least;
  }
]
