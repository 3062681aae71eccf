-- The order of fractions in lowest terms, by the products across: its laws as an order.
use Rattle.std.specs.Prelude.{◌≡◌, ℕ, ◌*◌, ◌<◌, ◌≤◌, true, ◌&&◌, ◌==◌}
use Rattle.std.specs.Ordering.{nat_cmp, is_eq}
use Rattle.std.specs.declared.cmp.Ordering.{Ordering}
use Rattle.std.specs.declared.cmp.Ordering.TheVariants.{Less, Equal}
use Rattle.std.specs.Cmp.{IsTotalOrder}
use Rattle.std.proofs.lemmas.Bool.Decides.{nat_tests}
use Rattle.std.proofs.lemmas.Cmp.{nat_cmp_total, ranked}
use Rattle.std.specs.Cmp.{nat_cmp_is, both_ways, Equal-is}
use Rattle.std.proofs.Math.Nat.{lt_of_mul-lt-mul_right, mul-lt-mul_of_pos_right}
use native.Mathlib.Nat.{eq_of_mul-eq-mul_right}
use Rattle.std.proofs.Common.{sym, ap, ◌∙◌, arith, mul_right_comm}
use Rattle.ring.specs.Fractions.{Lowest}
use Rattle.ring.specs.declared.fractions.Fraction.{Fraction}

-- Which of two fractions is the lesser.
abbrev pub compare : Fraction → Fraction → Ordering
compare x y = nat_cmp (x.over * y.under) (y.over * x.under)

same_under : (a b p q : ℕ) → Lowest a b → Lowest p q → 1 ≤ b → 1 ≤ q → a * q ≡ p * b → b ≡ q
same_under a b p q la lp hb hq e = omega (arith, la p q hq (sym e), lp a b hb e)

-- Of the same value, they are the same.
same_parts : (a b p q : ℕ) → Lowest a b → Lowest p q → 1 ≤ b → 1 ≤ q → a * q ≡ p * b → (a ≡ p) × (b ≡ q)
same_parts a b p q la lp hb hq e =
    let u : b ≡ q = same_under a b p q la lp hb hq e in
    (eq_of_mul-eq-mul_right b hb a p (ap (λ n. a * n) u ∙ e), u)

chain : (a b p q r s : ℕ) → 1 ≤ b → 1 ≤ q → 1 ≤ s → a * q < p * b → p * s < r * q → a * s < r * b
chain a b p q r s hb hq hs h k =
    let l : a * q * s < p * b * s = mul-lt-mul_of_pos_right h hs in
    let m : p * s * b < r * q * b = mul-lt-mul_of_pos_right k hb in
    lt_of_mul-lt-mul_right q (omega (arith, l, m, mul_right_comm a q s, mul_right_comm p b s, mul_right_comm r q b))

less : (x y : Fraction) → compare x y ≡ Less → x.over * y.under < y.over * x.under
less x y e = ranked (x.over * y.under) (y.over * x.under) Less (sym e)

tied : (x y : Fraction) → compare x y ≡ Equal → (x.over ≡ y.over) × (x.under ≡ y.under)
tied x y e = same_parts x.over x.under y.over y.under x.lowest y.lowest x.whole y.whole (ranked (x.over * y.under) (y.over * x.under) Equal (sym e))

pub compare_total : IsTotalOrder compare
compare_total = record {
  antisymm = λ x y. nat_cmp_total.antisymm (x.over * y.under) (y.over * x.under);
  trans = λ x y z p q. sym (nat_cmp_is (x.over * z.under) (z.over * x.under) Less (chain x.over x.under y.over y.under z.over z.under x.whole y.whole z.whole (less x y p) (less y z q)));
  congr = λ x y z p.
      let t = tied x y p in
      ap (λ a. nat_cmp (a * z.under) (z.over * x.under)) t.0 ∙ ap (λ b. nat_cmp (y.over * z.under) (z.over * b)) t.1;
}

level : (m n : ℕ) → m ≡ n → is_eq (nat_cmp m n) ≡ true
level m n e = ap is_eq (sym (nat_cmp_is m n Equal e))

both : (a b p q : ℕ) → (a ≡ p) × (b ≡ q) → ((a == p) && (b == q)) ≡ true
both a b p q h = grind (arith, nat_tests, h.0, h.1)

parts : (a b p q : ℕ) → ((a == p) && (b == q)) ≡ true → a * q ≡ p * b
parts a b p q h = grind (arith, nat_tests, h)

same_is : (a b p q : ℕ) → Lowest a b → Lowest p q → 1 ≤ b → 1 ≤ q → ((a == p) && (b == q)) ≡ is_eq (nat_cmp (a * q) (p * b))
same_is a b p q la lp hb hq =
    both_ways ((a == p) && (b == q)) (is_eq (nat_cmp (a * q) (p * b)))
    (λ h. level (a * q) (p * b) (parts a b p q h))
    (λ h. both a b p q (same_parts a b p q la lp hb hq (ranked (a * q) (p * b) Equal (sym ((Equal-is (nat_cmp (a * q) (p * b))).0 h)))))

-- `==` holds of what the order does not tell apart.
pub compare_ties : (x y : Fraction) → ((x.over == y.over) && (x.under == y.under)) ≡ is_eq (compare x y)
compare_ties x y = same_is x.over x.under y.over y.under x.lowest y.lowest x.whole y.whole
