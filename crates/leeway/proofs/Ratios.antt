-- Fractions compared by the products across.
use Rattle.std.proofs.Common.{◌≡◌, ℕ, zero, suc, ◌+◌, ◌*◌, ◌/◌, ◌<◌, ◌≤◌, ◌⊎◌, ap, ◌∙◌, inl, inr, mul-le-mul_right, mod-lt, mul_assoc, mul_comm, mul-le-mul_left, mul-zero, mul-add, mul_left_comm, arith, below_more}
use native.Mathlib.Nat.{le_of_mul-le-mul_left, div-add-mod}
use native.Mathlib.Decide.{dec_le}

-- p'/q' ≤ p/q and p/q ≤ d/g give p'/q' ≤ d/g.
pub cross : (p q p' q' g d : ℕ) → 1 ≤ q → p' * q ≤ p * q' → p * g ≤ q * d → p' * g ≤ q' * d
cross p q p' q' g d hq l h =
    let a : p' * q * g ≤ p * q' * g = mul-le-mul_right g l in
    let b : q' * (p * g) ≤ q' * (q * d) = mul-le-mul_left q' h in
    let e₁ : p' * q * g ≡ q * (p' * g) = ap (λ n. n * g) (mul_comm p' q) ∙ mul_assoc q p' g in
    let e₂ : p * q' * g ≡ q' * (p * g) = ap (λ n. n * g) (mul_comm p q') ∙ mul_assoc q' p g in
    let e₃ : q' * (q * d) ≡ q * (q' * d) = mul_left_comm q' q d in
    let m : q * (p' * g) ≤ q * (q' * d) = omega arith in
    le_of_mul-le-mul_left m hq

pub through : (p q p' q' p'' q'' : ℕ) → 1 ≤ q' → p * q' ≤ p' * q → p' * q'' ≤ p'' * q' → p * q'' ≤ p'' * q
through p q p' q' p'' q'' h a b =
    let k : p' * q'' ≤ q' * p'' = omega (arith, mul_comm p'' q') in
    omega (arith, cross p' q' p q q'' p'' h a k, mul_comm q p'')

-- Of the places below m that have a gap, one with the least step over its gap.
pub record LeastRatio (d g : ℕ → ℕ) (m : ℕ) : Type 0 where
  pub place : ℕ
  pub inside : place < m
  pub gap : 1 ≤ g place
  pub least : (k : ℕ) → k < m → d place * g k ≤ d k * g place

pub least_ratio : (d g : ℕ → ℕ) (m : ℕ) → ((k : ℕ) → k < m → g k ≡ 0) ⊎ LeastRatio d g m
least_ratio d g zero = inl (λ k h. absurd (omega arith))
least_ratio d g (suc m) = elim (least_ratio d g m) [
  | inl z ↦ elim (dec_le 1 (g m)) [
    | yes h ↦ inr (record { place = m; inside = omega arith; gap = h; least = one_more m (λ k. d m * g k ≤ d k * g m) (λ k b. omega (arith, ap (λ n. d m * n) (z k b) ∙ mul-zero (d m))) (omega arith) })
    | no n ↦ inl (one_more m (λ k. g k ≡ 0) z (omega arith))
  ]
  | inr r ↦ elim (dec_le (d r.place * g m) (d m * g r.place)) [
    | yes h ↦ inr (record { place = r.place; inside = omega (arith, r.inside); gap = r.gap; least = one_more m (λ k. d r.place * g k ≤ d k * g r.place) r.least h })
    | no n ↦ inr (record { place = m; inside = omega arith; gap = positive (g m) (d r.place) (d m * g r.place) (omega arith); least = one_more m (λ k. d m * g k ≤ d k * g m) (lower r n) (omega arith) })
  ]
]
  where
    one_more : (m : ℕ) (P : ℕ → Type 0) → ((k : ℕ) → k < m → P k) → P m → (k : ℕ) → k < suc m → P k
    one_more m P h z k b = below_more P m h z k (omega arith)

    positive : (x y z : ℕ) → z < y * x → 1 ≤ x
    positive zero y z h = omega (arith, mul-zero y)
    positive (suc x) y z h = omega arith

    lower : (r : LeastRatio d g m) → (d r.place * g m ≤ d m * g r.place → ⊥) → (k : ℕ) → k < m → d m * g k ≤ d k * g m
    lower r n k b =
        let a : d m * g r.place ≤ d r.place * g m = omega arith in
        let c : d r.place * g k ≤ g r.place * d k = omega (arith, r.least k b, mul_comm (d k) (g r.place)) in
        omega (arith, cross (d r.place) (g r.place) (d m) (g m) (g k) (d k) r.gap a c, mul_comm (g m) (d k))

-- What is below the next numerator over g is at most p/q, and what is not is at least p/q.
pub under_next : (p q g e : ℕ) → 1 ≤ q → e < p * g / q + 1 → e * q ≤ p * g
under_next p q g e hq h =
    let m : q * e ≤ q * (p * g / q) = mul-le-mul_left q (omega arith) in
    omega (arith, div-add-mod (p * g) q, mul_comm e q)

pub over_next : (p q g d : ℕ) → 1 ≤ q → p * g / q + 1 ≤ d → p * g ≤ d * q
over_next p q g d hq h =
    let m : q * (p * g / q + 1) ≤ q * d = mul-le-mul_left q h in
    omega (arith, div-add-mod (p * g) q, mul_comm d q, mod-lt (p * g) hq, mul-add q (p * g / q) 1)
