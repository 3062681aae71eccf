-- When two stays share a q-th, by their starts and ends.
use Rattle.std.proofs.Common.{◌≡◌, ℕ, suc, ◌+◌, ◌-◌, ◌*◌, ◌/◌, ◌%◌, ◌<◌, ◌≤◌, ◌⊎◌, sym, ap, ◌∙◌, inl, inr, mul-le-mul_right, suc-mul, mul-add, le-mul_of_pos_right, mul_left_comm, arith}
use native.Mathlib.Nat.{add-mul-mod_self_right}
use native.Mathlib.Decide.{dec_le}
use Rattle.std.proofs.lemmas.Nat.{div-add-mod'}
use Rattle.placement.specs.Stays.{Apart}
use Rattle.placement.specs.Arcs.{Covers, Overlap}
use Rattle.placement.specs.declared.stays.Stay.{Stay}
use Rattle.placement.proofs.Offsets.{same_mod}

-- less than a ring apart, and not the same
no_between : (R A B : ℕ) → A < B → B < A + R → A % R ≡ B % R → ⊥
no_between R A B h l e =
    let a : A / R * R + A % R ≡ A = div-add-mod' A R in
    let b : B / R * R + B % R ≡ B = div-add-mod' B R in
    elim (dec_le (B / R) (A / R)) [
      | yes k ↦ omega (arith, mul-le-mul_right R k)
      | no n ↦ let k : suc (A / R) ≤ B / R = omega arith in omega (arith, mul-le-mul_right R k, suc-mul (A / R) R)
    ]

-- stays that follow each other round the ring do not overlap
pub apart_clear : (C p q : ℕ) (a : Stay) (x : ℕ) (b : Stay) (y : ℕ) → Apart p q a x b y → Apart p q b y a (x + C) → Overlap C p q a x b y → ⊥
apart_clear C p q a x b y f g o =
    let k = o.0 in
    let i = o.1.0 in
    let j = o.2.0 in
    let R = q * C in
    let ea : (k + p * a.lead + p * b.lead) % R ≡ (q * x + i + p * b.lead) % R = same_mod R (k + p * a.lead) (q * x + i) (p * b.lead) o.1.2 in
    let eb : (k + p * b.lead + p * a.lead) % R ≡ (q * y + j + p * a.lead) % R = same_mod R (k + p * b.lead) (q * y + j) (p * a.lead) o.2.2 in
    let e : k + p * a.lead + p * b.lead ≡ k + p * b.lead + p * a.lead = omega arith in
    let m : (q * x + i + p * b.lead) % R ≡ (q * y + j + p * a.lead) % R = sym ea ∙ ap (λ v. v % R) e ∙ eb in
    let la : i < p * (a.lead + a.trail) = o.1.1 in
    let lb : j < p * (b.lead + b.trail) = o.2.1 in
    no_between R (q * x + i + p * b.lead) (q * y + j + p * a.lead)
    (omega (arith, mul-add p a.trail b.lead, mul-add p a.lead a.trail))
    (omega (arith, mul-add q x C, mul-add p b.trail a.lead, mul-add p b.lead b.trail))
    m

whole : (R M A B : ℕ) → B ≡ A + M * R → B % R ≡ A % R
whole R M A B e = rw e (add-mul-mod_self_right A M R)

-- a begins while b is on: they share a's first q-th
meets : (C p q : ℕ) (a : Stay) (x : ℕ) (b : Stay) (y : ℕ) → 1 ≤ q * C → 1 ≤ p * (a.lead + a.trail) → q * y + p * a.lead ≤ q * x + p * b.lead → q * x < q * y + p * (b.trail + a.lead) → Overlap C p q a x b y
meets C p q a x b y hR ha h l =
    let R = q * C in
    let M = p * a.lead in
    let big : M ≤ M * R = le-mul_of_pos_right M hR in
    let k = q * x + M * R - M in (
      k,
      (0, omega arith, whole R M (q * x + 0) (k + p * a.lead) (omega arith)),
      (
        q * x + p * b.lead - (q * y + p * a.lead),
        omega (arith, mul-add p b.trail a.lead, mul-add p b.lead b.trail),
        whole R M (q * y + (q * x + p * b.lead - (q * y + p * a.lead))) (k + p * b.lead) (omega arith),
      ),
    )

-- stays that do not overlap follow one another, one way or the other
pub clear_apart : (C p q : ℕ) (a : Stay) (x : ℕ) (b : Stay) (y : ℕ) → 1 ≤ q * C → 1 ≤ p * (a.lead + a.trail) → 1 ≤ p * (b.lead + b.trail) → (Overlap C p q a x b y → ⊥) → Apart p q a x b y ⊎ Apart p q b y a x
clear_apart C p q a x b y hR ha hb n = elim (dec_le (p * (a.trail + b.lead) + q * x) (q * y)) [
  | yes f ↦ inl f
  | no nf ↦ elim (dec_le (p * (b.trail + a.lead) + q * y) (q * x)) [
    | yes g ↦ inr g
    | no ng ↦ absurd (elim (dec_le (q * y + p * a.lead) (q * x + p * b.lead)) [
      | yes h ↦ n (meets C p q a x b y hR ha h (omega arith))
      | no m ↦ let o = meets C p q b y a x hR hb (omega arith) (omega arith) in n (o.0, o.2, o.1)
    ])
  ]
]

-- what a stay covers depends on its position alone
pub covers_mod : (C p q : ℕ) (s : Stay) (x k : ℕ) → Covers C p q s x k → Covers C p q s (x % C) k
covers_mod C p q s x k c =
    let e : x / C * C + x % C ≡ x = div-add-mod' x C in
    let e' : q * (x / C * C + x % C) ≡ q * x = ap (λ v. q * v) e in
    (c.0, c.1, c.2 ∙ whole (q * C) (x / C) (q * (x % C) + c.0) (q * x + c.0) (omega (arith, mul-add q (x / C * C) (x % C), mul_left_comm q (x / C) C)))

pub covers_lift : (C p q : ℕ) (s : Stay) (x k : ℕ) → Covers C p q s (x % C) k → Covers C p q s x k
covers_lift C p q s x k c =
    let e : x / C * C + x % C ≡ x = div-add-mod' x C in
    let e' : q * (x / C * C + x % C) ≡ q * x = ap (λ v. q * v) e in
    (c.0, c.1, c.2 ∙ sym (whole (q * C) (x / C) (q * (x % C) + c.0) (q * x + c.0) (omega (arith, mul-add q (x / C * C) (x % C), mul_left_comm q (x / C) C))))
