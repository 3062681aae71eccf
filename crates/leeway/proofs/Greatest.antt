-- The greatest fraction is one of the order's own, so the greatest over all its gaps is it.
use Rattle.std.proofs.Common.{◌≡◌, ℕ, zero, suc, ◌+◌, ◌*◌, ◌/◌, ◌<◌, ◌≤◌, Bool, true, false, List, length, sym, ap, ◌∙◌, subst, mul-le-mul_right, mul-le-mul, zero-mul, arith, below_more, true≢false}
use native.Mathlib.Decide.{dec_lt}
use Rattle.ring.specs.Fractions.{Lowest}
use Rattle.ring.specs.declared.measures.Ratio.{Ratio}
use Rattle.placement.specs.declared.stays.Stay.{Stay}
use Rattle.leeway.specs.Leeways.{SeatsIn, IsLeeway, Asked, gap_at, Largest, Kept, Bounds, Raised, Greatest, Settled}
use Rattle.leeway.proofs.Ratios.{through, under_next, over_next}
use Rattle.leeway.proofs.Steps.{own}
use Rattle.leeway.proofs.Keeping.{smaller}
use Rattle.leeway.proofs.Turning.{shown}

-- Where d/g does not seat, what seats over g is below.
pub below : (C g d e : ℕ) (l : List Stay) (os : List ℕ) → 1 ≤ g → (SeatsIn C d g l os → ⊥) → SeatsIn C e g l os → e < d
below C g d e l os hg n s = elim (dec_lt e d) [ yes h ↦ h | no k ↦ absurd (n (smaller C l os e g d g hg (mul-le-mul_right g (omega arith)) s)) ]

pub not_both : {b : Bool} → b ≡ false → b ≡ true → ⊥
not_both e f = true≢false (sym f ∙ e)

pub same_raised : (C : ℕ) (l : List Stay) (os : List ℕ) (b : Ratio) (g : ℕ) → Kept C l os b → ((e : ℕ) → e ≤ C → SeatsIn C e g l os → e < b.over * g / b.under + 1) → Raised C l os b g b
same_raised C l os b g k h = record { kept = k; no_less = omega arith; bounds = λ some e he s. under_next b.over b.under g e b.whole (h e he s) }

pub new_raised : (C : ℕ) (l : List Stay) (os : List ℕ) (b f : Ratio) (g : ℕ) → Kept C l os b → b.over * g / b.under + 1 ≤ f.over → f.under ≡ g → Largest C g l os f.over → Raised C l os b g f
new_raised C l os b f g k h e m =
    let L : ℕ → Type 0 = λ n. b.over * n ≤ f.over * b.under in
    let K : ℕ → Type 0 = λ n. (e : ℕ) → e ≤ C → SeatsIn C e g l os → e * n ≤ f.over * g in
    record {
      kept = record { small = m.small; seats = subst (λ n. SeatsIn C f.over n l os) (sym e) m.seats };
      no_less = subst L (sym e) (over_next b.over b.under g f.over b.whole h);
      bounds = λ some. subst K (sym e) (λ n hn s. mul-le-mul_right g (m.largest n hn s));
    }

-- The gaps behind the first k stays are bounded.
abbrev pub SoFar : ℕ → List Stay → List ℕ → ℕ → Ratio → Type 0
SoFar C l os k b = Kept C l os b × ((j : ℕ) → j < k → 1 ≤ gap_at l os j → Bounds C l os (gap_at l os j) b)

pub so_far_raised : (C : ℕ) (l : List Stay) (os : List ℕ) (k g : ℕ) (b f : Ratio) → g ≡ gap_at l os k → SoFar C l os k b → Raised C l os b g f → SoFar C l os (k + 1) f
so_far_raised C l os k g b f e s r = let K : ℕ → Type 0 = λ n. 1 ≤ n → Bounds C l os n f in (
  r.kept,
  below_more (λ j. 1 ≤ gap_at l os j → Bounds C l os (gap_at l os j) f) k
      (λ j h a x hx t. through x (gap_at l os j) b.over b.under f.over f.under b.whole (s.1 j h a x hx t) r.no_less)
      (subst K e r.bounds),
)

pub greatest : (C : ℕ) (l : List Stay) (os : List ℕ) (k : ℕ) (f : Ratio) → Asked C l os → length l ≤ k → SoFar C l os k f → Greatest C l os f
greatest C l os k f A h s = record {
  seats = s.0.seats;
  greatest = λ p q hq t.
      let o = own C p q l os t.times hq A.some A.bounds t.seated in
      let v : o.d * f.under ≤ f.over * gap_at l os o.place = s.1 o.place (omega (arith, o.inside)) o.gap o.d o.small (record { times = t.times; seated = o.seated }) in
      through p q o.d (gap_at l os o.place) f.over f.under o.gap o.above v;
}

pub is_leeway : (C : ℕ) (l : List Stay) (os : List ℕ) (f : Ratio) (P Q : ℕ) → Greatest C l os f → 1 ≤ f.over → 1 ≤ Q → P * f.under ≡ f.over * Q → Lowest P Q → IsLeeway C l os P Q
is_leeway C l os f P Q g some hQ e low = record {
  some = positive P Q f.over f.under some hQ e;
  whole = hQ;
  seats = smaller C l os f.over f.under P Q f.whole (omega (arith, e)) g.seats;
  greatest = λ p q hq s. through p q f.over f.under P Q f.whole (g.greatest p q hq s) (omega (arith, e));
  lowest = low;
}
  where
    positive : (P Q a b : ℕ) → 1 ≤ a → 1 ≤ Q → P * b ≡ a * Q → 1 ≤ P
    positive zero Q a b ha hQ e = absurd (omega (arith, e, zero-mul b, mul-le-mul ha hQ))
    positive (suc P) Q a b ha hQ e = omega arith

-- A fraction that is no more than zero.
pub none_above : (C : ℕ) (l : List Stay) (os : List ℕ) (f : Ratio) → Greatest C l os f → f.over ≡ 0 → (p q : ℕ) → 1 ≤ p → 1 ≤ q → SeatsIn C p q l os → ⊥
none_above C l os f g z p q hp hq s =
    let a : p * f.under ≤ f.over * q = g.greatest p q hq s in
    let e : f.over * q ≡ 0 = ap (λ n. n * q) z ∙ zero-mul q in
    omega (arith, a, e, mul-le-mul hp f.whole)

pub settled : (C : ℕ) (l : List Stay) (os : List ℕ) → 1 ≤ C → C ≤ 86400 → Settled C l os
settled C l os hC small = record {
  nowhere = λ n. record { none = λ p q hp hq s. n (smaller C l os p q 0 1 hq (omega arith) s) };
  zero = λ f g z. record { none = none_above C l os f g z };
  leeway = λ f r g some e. is_leeway C l os f r.over r.under g some r.whole e r.lowest;
  shown = λ p q hq. shown C p q l os hC small hq;
}
