-- Euclid's steps, and fractions in lowest terms.
use Rattle.std.proofs.Common.{◌≡◌, ℕ, zero, suc, ◌+◌, ◌-◌, ◌*◌, ◌/◌, ◌%◌, ◌≤◌, sym, ap, ◌∙◌, mul-le-mul_right, mul_assoc, mul_comm, add-mul, div-add-mod', zero-mul, mul-div_cancel, mul_left_comm, arith}
use native.Mathlib.Nat.{mul-sub, eq_of_mul-eq-mul_right}
use Rattle.ring.specs.Fractions.{Multiple, Divisor, Reduced}

-- What Euclid's steps keep: the divisors that p and q have in common.
pub record Euclid (p q x y : ℕ) : Type 0 where
  pub some : 1 ≤ x + y
  pub back : (c : ℕ) → Multiple x c → Multiple y c → Multiple p c × Multiple q c
  pub on : (m : ℕ) → Multiple (p * m) q → Multiple (x * m) q × Multiple (y * m) q

pub euclid_start : (p q : ℕ) → 1 ≤ q → Euclid p q p q
euclid_start p q h = record { some = omega arith; back = λ c a b. (a, b); on = λ m k. (k, (m, mul_comm q m)) }

pub euclid_step : (p q x y : ℕ) → 1 ≤ y → Euclid p q x y → Euclid p q y (x % y)
euclid_step p q x y h e = record {
  some = omega arith;
  back = λ c a b.
      let k : x / y * y ≡ x / y * a.0 * c = ap (λ n. x / y * n) a.1 ∙ sym (mul_assoc (x / y) a.0 c) in
      let m : x ≡ (x / y * a.0 + b.0) * c = omega (arith, div-add-mod' x y, add-mul (x / y * a.0) b.0 c, b.1) in
      e.back c (x / y * a.0 + b.0, m) a;
  on = λ m k.
      let r = e.on m k in
      let xm : x * m ≡ r.0.0 * q = r.0.1 in
      let ym : x / y * (y * m) ≡ x / y * r.1.0 * q = ap (λ n. x / y * n) r.1.1 ∙ sym (mul_assoc (x / y) r.1.0 q) in
      let s : (x / y * y + x % y) * m ≡ x * m = ap (λ n. n * m) (div-add-mod' x y) in
      let a₁ : x / y * y * m ≡ x / y * (y * m) = mul_assoc (x / y) y m in
      let u : q * (r.0.0 - x / y * r.1.0) ≡ q * r.0.0 - q * (x / y * r.1.0) = mul-sub q r.0.0 (x / y * r.1.0) in
      let w : x % y * m ≡ (r.0.0 - x / y * r.1.0) * q = omega (arith, add-mul (x / y * y) (x % y) m, mul_comm q (r.0.0 - x / y * r.1.0), mul_comm q r.0.0, mul_comm q (x / y * r.1.0)) in
      (r.1, (r.0.0 - x / y * r.1.0, w));
}

pub euclid_end : (p q x y : ℕ) → y ≤ 0 → Euclid p q x y → Divisor p q x
euclid_end p q x y h e =
    let z : y ≡ 0 * x = omega arith in
    let b = e.back x (1, omega arith) (0, z) in
    record { some = omega (arith, e.some); over = b.0; under = b.1; greatest = λ m k. (e.on m k).0 }

pub reduced_by : (p q r a b : ℕ) → 1 ≤ q → Divisor p q r → a ≡ p / r → b ≡ q / r → Reduced p q a b
reduced_by p q r a b hq d ea eb =
    let i = d.over.0 in
    let j = d.under.0 in
    let pi : p ≡ i * r = d.over.1 in
    let qj : q ≡ j * r = d.under.1 in
    let ai : a ≡ i = ea ∙ ap (λ n. n / r) pi ∙ mul-div_cancel i d.some in
    let bj : b ≡ j = eb ∙ ap (λ n. n / r) qj ∙ mul-div_cancel j d.some in
    let par : p ≡ a * r = rw ai pi in
    let qbr : q ≡ b * r = rw bj qj in
    record {
      whole = positive b r qbr;
      same = ap (λ n. a * n) qbr ∙ mul_left_comm a b r ∙ mul_comm b (a * r) ∙ ap (λ n. n * b) (sym par);
      lowest = λ p' q' hq' e.
          let m : p * q' ≡ p' * q = ap (λ n. n * q') (par ∙ mul_comm a r) ∙ mul_assoc r a q' ∙ ap (λ n. r * n) (sym e) ∙ mul_left_comm r p' b ∙ ap (λ n. p' * n) (mul_comm r b ∙ sym qbr) in
          let k = d.greatest q' (p', m) in
          let f : q' * r ≡ k.0 * b * r = mul_comm q' r ∙ k.1 ∙ ap (λ n. k.0 * n) qbr ∙ sym (mul_assoc k.0 b r) in
          let g : q' ≡ k.0 * b = eq_of_mul-eq-mul_right r d.some q' (k.0 * b) f in
          at_least k.0 b q' hq' g;
    }
  where
    positive : (b r : ℕ) → q ≡ b * r → 1 ≤ b
    positive zero r e = omega (arith, zero-mul r)
    positive (suc b) r e = omega arith

    at_least : (k b n : ℕ) → 1 ≤ n → n ≡ k * b → b ≤ n
    at_least zero b n h e = omega (arith, zero-mul b)
    at_least (suc k) b n h e = omega (arith, mul-le-mul_right {m = 1} {n = suc k} b (omega arith))
