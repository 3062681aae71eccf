-- A stay at a position, put into a chain.
use Rattle.std.proofs.Common.{◌≡◌, ℕ, suc, ◌+◌, ◌-◌, ◌*◌, ◌/◌, ◌%◌, ◌<◌, ◌≤◌, ◌⊎◌, List, [], ◌∷◌, length, sym, refl, ap, inl, inr, mod-lt, mul-le-mul_left, mul-suc, mul-add, arith}
use native.Mathlib.Nat.{mul-div-le, lt_of_mul-lt-mul_left, div-add-mod, add-mod_right}
use Rattle.placement.specs.Stays.{Apart}
use Rattle.placement.specs.declared.stays.Stay.{Stay}
use Rattle.placement.specs.declared.windows.Window.{Window}
use Rattle.placement.proofs.Offsets.{earliest_exists, holds_one, holds_mod}
use Rattle.placement.proofs.Chains.{Chain, chain_weaker, apart_le}
use Rattle.placement.proofs.Distinct.{Out, Distinct}

-- the least time at the position z at which b follows a at x
pub record Lifted (C p q : ℕ) (a : Stay) (x : ℕ) (b : Stay) (z : ℕ) : Type 0 where
  pub at : ℕ
  pub position : at % C ≡ z
  pub after : Apart p q a x b at
  pub soon : Apart p q a (x + C) b at → ⊥

-- The whole ticks that hold D q-ths.
pub ceil_covers : (q D : ℕ) → 1 ≤ q → D ≤ q * ((D + (q - 1)) / q)
ceil_covers q D h = omega (arith, div-add-mod (D + (q - 1)) q, mod-lt (D + (q - 1)) h)

pub ceil_least : (q D x z : ℕ) → 1 ≤ q → D + q * x ≤ q * z → x + (D + (q - 1)) / q ≤ z
ceil_least q D x z h e =
    let g = (D + (q - 1)) / q in
    let l : q * (x + g) < q * suc z = omega (arith, mul-add q x g, mul-suc q z, mul-div-le (D + (q - 1)) q) in
    omega (arith, lt_of_mul-lt-mul_left q l)

pub lift : (C p q : ℕ) (a : Stay) (x : ℕ) (b : Stay) (z : ℕ) → 1 ≤ C → 1 ≤ q → z < C → Lifted C p q a x b z
lift C p q a x b z hC hq hz =
    let D = p * (a.trail + b.lead) in
    let g = (D + (q - 1)) / q in
    let w : Window = record { from = z; width = 0 } in
    let r = earliest_exists C w (x + g) hC in
    let t = r.0 in
    record {
      at = t;
      position = holds_one C z t hz r.1.holds;
      after = omega (arith, ceil_covers q D hq, mul-add q x g, mul-le-mul_left q r.1.late);
      soon = λ f.
          let l : x + C ≤ t = apart_le p q a (x + C) b t hq f in
          let e : t - C + C ≡ t = omega arith in
          let d : (t - C + C) % C ≡ (t - C) % C = add-mod_right (t - C) C in
          let d' : t % C ≡ (t - C) % C = rw e at d in
          let m : q * (t - C + C) ≡ q * t = ap (λ v. q * v) e in
          let n : t ≤ t - C = r.1.least (t - C) (ceil_least q D x (t - C) hq (omega (arith, mul-add q x C, mul-add q (t - C) C))) (holds_mod C w t (t - C) d' r.1.holds) in
          omega arith;
    }

-- a chain with one more stay, i at t
pub record Inserted (f : ℕ → Stay) (W : ℕ → ℕ → Type 0) (p q i a x : ℕ) (os : List ℕ) (b y : ℕ) : Type 0 where
  pub order : List ℕ
  pub times : List ℕ
  pub chain : Chain f W p q a x order times b y
  pub long : length order ≡ suc (length os)
  pub out : (z : ℕ) → (z ≡ i → ⊥) → Out z os → Out z order
  pub distinct : Out i os → Distinct os → Distinct order

pub insert : (f : ℕ → Stay) (V W : ℕ → ℕ → Type 0) (p q i t : ℕ) → ((o u : ℕ) → V o u → Apart p q (f i) t (f o) u ⊎ Apart p q (f o) u (f i) t) → ((o u : ℕ) → V o u → W o u) → W i t → (a x : ℕ) (os ts : List ℕ) (b y : ℕ) → Chain f V p q a x os ts b y → Apart p q (f a) x (f i) t → Apart p q (f i) t (f b) y → Inserted f W p q i a x os b y
insert f V W p q i t s k w a x [] [] b y c fa fb = record { order = i ∷ []; times = t ∷ []; chain = (w, fa, fb); long = refl; out = λ z n o. (n, tt); distinct = λ o d. (tt, tt) }
insert f V W p q i t s k w a x [] (u ∷ ts) b y c fa fb = absurd c
insert f V W p q i t s k w a x (o ∷ os) [] b y c fa fb = absurd c
insert f V W p q i t s k w a x (o ∷ os) (u ∷ ts) b y c fa fb = elim (s o u c.0) [
  | inl h ↦ record { order = i ∷ o ∷ os; times = t ∷ u ∷ ts; chain = (w, fa, (k o u c.0, h, chain_weaker f V W k p q o u os ts b y c.2)); long = refl; out = λ z n m. (n, m); distinct = λ m d. (m, d) }
  | inr h ↦
      let r = insert f V W p q i t s k w o u os ts b y c.2 h fb in
      record {
        order = o ∷ r.order;
        times = u ∷ r.times;
        chain = (k o u c.0, c.1, r.chain);
        long = ap suc r.long;
        out = λ z n m. (m.0, r.out z n m.1);
        distinct = λ m d. (r.out o (λ e. m.0 (sym e)) d.0, r.distinct m.1 d.1);
      }
]

-- no element of the chain is z
pub chain_out : (f : ℕ → Stay) (W : ℕ → ℕ → Type 0) (p q z : ℕ) → ((o u : ℕ) → W o u → z ≡ o → ⊥) → (a x : ℕ) (os ts : List ℕ) (b y : ℕ) → Chain f W p q a x os ts b y → Out z os
chain_out f W p q z n a x [] [] b y c = tt
chain_out f W p q z n a x [] (t ∷ ts) b y c = absurd c
chain_out f W p q z n a x (o ∷ os) [] b y c = absurd c
chain_out f W p q z n a x (o ∷ os) (t ∷ ts) b y c = (n o t c.0, chain_out f W p q z n o t os ts b y c.2)
