use Rattle.std.proofs.Common.{ℕ, ◌+◌, ◌-◌, ◌*◌, ◌/◌, ◌^◌, ◌≤◌, sym, subst, mul-le-mul, mul-le-mul_left, mul-add, div-le_self, arith}
use Rattle.placement.specs.Stays.{Apart}
use Rattle.placement.specs.declared.stays.Stay.{Stay}
use Rattle.placement.proofs.Inserts.{ceil_covers, ceil_least}
use Rattle.trials.proofs.next.gap.Goals as goal

-- The whole ticks that hold the q-ths.
apart : (p q : ℕ) (a b : Stay) → 1 ≤ q → (x z : ℕ) → x + (p * (a.trail + b.lead) + (q - 1)) / q ≤ z → Apart p q a x b z
apart p q a b hq x z h =
    let D = p * (a.trail + b.lead) in
    let g = (D + (q - 1)) / q in
    omega (arith, ceil_covers q D hq, mul-add q x g, mul-le-mul_left q h)

pub returns : goal.returns
returns c =
    let a = c.args.a.now in
    let b = c.args.b.now in
    let p : ℕ = c.over-p.result in
    let q : ℕ = c.under-q.result in
    let P : ℕ → ℕ → ℕ → ℕ → Type 0 = λ m n x z. Apart m n a x b z in
    let hq : 1 ≤ q = omega (arith, c.args.ratio.whole, c.under-q.ensures) in
    let D : ℕ = p * (a.trail + b.lead) in
    let hp : p ≤ 2 ^ 32 = omega arith in
    let ha : a.trail + b.lead ≤ 2 ^ 33 = omega arith in
    let hd : D ≤ 2 ^ 32 * 2 ^ 33 = mul-le-mul hp ha in
    record {
      apart =
          λ x z h. subst (λ (m : ℕ). P m c.args.ratio.under x z) c.over-p.ensures (subst (λ (n : ℕ). P p n x z) c.under-q.ensures (apart p q a b hq x z h));
      least =
          λ x z h. ceil_least q D x z hq (subst (λ (m : ℕ). P m q x z) (sym c.over-p.ensures) (subst (λ (n : ℕ). P c.args.ratio.over n x z) (sym c.under-q.ensures) h));
      small = omega (arith, div-le_self (D + (q - 1)) q);
    }
