-- What stays lawful, and how far the times of a seating go.
use Rattle.std.proofs.Common.{◌≡◌, ℕ, suc, ◌+◌, ◌*◌, ◌<◌, ◌≤◌, List, length, get_or, set, sym, ap, ◌∙◌, subst, mul_assoc, mul-le-mul, mul-le-mul_left, mul-add, mul_left_comm, arith}
use native.Mathlib.Nat.{le_of_mul-le-mul_left}
use native.Mathlib.Decide.{dec_lt, ℕ_discrete}
use Rattle.std.proofs.lemmas.List.{get_or_past, length-set, get_or-set_same, get_or-set_other}
use Rattle.placement.specs.Windows.{Holds}
use Rattle.placement.specs.Stays.{no_stay, Narrowed}
use Rattle.placement.specs.Seatings.{Plan, Order, Seated, Lawful, kth, place_of, planned, Sound, time_of}
use Rattle.placement.specs.Keeps.{Easier, StaysLawful, BelowTwoRings}
use Rattle.placement.specs.declared.stays.Stay.{Stay}
use Rattle.placement.proofs.Orders.{order_lists, place_is}
use Rattle.placement.proofs.Chains.{apart_le, lawful_round}

-- A smaller pace over a smaller gap.
easier : (p q p' q' g g' x y : ℕ) → 1 ≤ q → p' * q ≤ p * q' → g' ≤ g → p * g + q * x ≤ q * y → p' * g' + q' * x ≤ q' * y
easier p q p' q' g g' x y hq hp hg f =
    let a : p' * q * g' ≤ p * q' * g = mul-le-mul hp hg in
    let b : q' * (p * g + q * x) ≤ q' * (q * y) = mul-le-mul_left q' f in
    let m : q * (p' * g' + q' * x) ≤ q * (q' * y) = omega (arith, mul-add q (p' * g') (q' * x), mul-add q' (p * g) (q * x), mul_left_comm q q' x, mul_left_comm q q' y, mul_left_comm q p' g', mul_assoc p' q g', mul_assoc p q' g, mul_left_comm p q' g) in
    le_of_mul-le-mul_left m hq

pub seated_easier : (C p q : ℕ) (l : List Stay) (os ts : List ℕ) → 1 ≤ q → Seated C p q l (planned os ts) → (p' q' : ℕ) (l' : List Stay) → Easier C p q p' q' l l' (planned os ts) → Seated C p' q' l' (planned os ts)
unfolding Seated Lawful
seated_easier C p q l os ts hq h p' q' l' e =
    let O : ℕ → Type 0 = λ n. Order n os in
    let n : length l ≡ length l' = sym e.long in (
      subst O n h.0,
      h.1 ∙ n,
      (λ b. h.2 (omega arith)),
      (λ k b. e.windows k (omega arith)),
      (λ k b. easier p q p' q' ((kth l os k).trail + (kth l os (suc k)).lead) ((kth l' os k).trail + (kth l' os (suc k)).lead) (get_or ts k 0) (get_or ts (suc k) 0) hq e.pace
          (omega (arith, e.trails (get_or os k 0) (h.0.1 k (omega arith)), e.leads (get_or os (suc k) 0) (h.0.1 (suc k) (omega arith)))) (h.4 k (omega arith))),
      λ k b. easier p q p' q' ((kth l os k).trail + (kth l os 0).lead) ((kth l' os k).trail + (kth l' os 0).lead) (get_or ts k 0) (get_or ts 0 0 + C) hq e.pace
          (omega (arith, e.trails (get_or os k 0) (h.0.1 k (omega arith)), e.leads (get_or os 0 0) (h.0.1 0 (omega arith)))) (h.5 k (omega arith)),
    )

pub stays_lawful : (C p q : ℕ) (l : List Stay) (os ts : List ℕ) → 1 ≤ q → Lawful C p q l (planned os ts) → StaysLawful C p q l (planned os ts)
unfolding Lawful
stays_lawful C p q l os ts hq L p' q' l' e = (seated_easier C p q l os ts hq L.0 p' q' l' e, L.1)

pub below_two_rings : (C p q : ℕ) (l : List Stay) (os ts : List ℕ) → 1 ≤ C → 1 ≤ q → Seated C p q l (planned os ts) → BelowTwoRings C (planned os ts)
unfolding Seated Lawful
below_two_rings C p q l os ts hC hq h k = elim (dec_lt k (length l)) [
  | yes b ↦ omega (arith, apart_le p q (kth l os k) (get_or ts k 0) (kth l os 0) (get_or ts 0 0 + C) hq (lawful_round C p q l os ts h 0 k (omega arith) b), h.2 (omega arith))
  | no n ↦ omega (arith, get_or_past ts k 0 (omega (arith, h.1)))
]

-- The times of a seating are small enough to be counted with.
pub seated_sound : (C p q : ℕ) (l : List Stay) (os ts : List ℕ) → 1 ≤ C → C ≤ 86400 → 1 ≤ q → Seated C p q l (planned os ts) → Sound (planned os ts)
unfolding Seated Lawful Sound
seated_sound C p q l os ts hC hb hq h =
    (omega (arith, h.0.0, h.1), λ k. omega (arith, below_two_rings C p q l os ts hC hq h k))

-- A window narrowed, and still holding its stay's time.
pub lawful_narrowed : (C p q : ℕ) (l : List Stay) (s : Plan) (k : ℕ) (a : Stay) → 1 ≤ q → k < length l → Narrowed C a (get_or l k no_stay) → Holds C a.window (time_of k s) → Lawful C p q l s → Lawful C p q (set l k a) s
unfolding Seated Lawful
lawful_narrowed C p q l s k a hq b n h L =
    stays_lawful C p q l s.order s.times hq L p q (set l k a)
    (record {
      pace = omega arith;
      long = length-set l k a;
      leads = λ i hi. elim (ℕ_discrete i k) [ yes e ↦ rw e (omega (arith, ap (λ (x : Stay). x.lead) (get_or-set_same l k a no_stay b), n.lead)) | no e ↦ omega (arith, ap (λ (x : Stay). x.lead) (get_or-set_other l k i a no_stay e)) ];
      trails = λ i hi. elim (ℕ_discrete i k) [ yes e ↦ rw e (omega (arith, ap (λ (x : Stay). x.trail) (get_or-set_same l k a no_stay b), n.trail)) | no e ↦ omega (arith, ap (λ (x : Stay). x.trail) (get_or-set_other l k i a no_stay e)) ];
      windows = λ j hj. elim (ℕ_discrete (get_or s.order j 0) k) [
        | yes e ↦
            let P : Stay → Type 0 = λ x. Holds C x.window (get_or s.times j 0) in
            let Q : ℕ → Type 0 = λ i. Holds C (get_or (set l k a) i no_stay).window (get_or s.times j 0) in
            let at : place_of k s.order ≡ j = ap (λ i. place_of i s.order) (sym e) ∙ place_is s.order (order_lists (length l) s.order L.0.0).0 j (omega (arith, L.0.0.0)) in
            subst Q (sym e) (subst P (sym (get_or-set_same l k a no_stay b)) (rw at at h))
        | no e ↦
            let P : Stay → Type 0 = λ x. Holds C x.window (get_or s.times j 0) in
            subst P (sym (get_or-set_other l k (get_or s.order j 0) a no_stay e)) (L.0.3 j hj)
      ];
    })
