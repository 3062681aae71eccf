-- The rule of the table of radii, from one test over the whole table to each value, and that a
-- value has one radius.
use Rattle.std.proofs.Common.{ℕ, zero, suc, ◌+◌, ◌*◌, ◌<◌, ◌≤◌, Bool, true, false, T, ltb, leb, List, [], ◌∷◌, length, get_or, sym, ◌∙◌, subst, le_of_suc-le-suc, not-suc-le-zero, add-zero, add-suc, mul-le-mul, suc-add, zero-add, arith, ltb→lt, leb→le}
use Rattle.jobs.specs.Radii.{Radius, OneRadius, both, every, is_radius}

both_left : (a b : Bool) → T (both a b) → T a
both_left true b t = tt
both_left false b t = t

both_right : (a b : Bool) → T (both a b) → T b
both_right true b t = t
both_right false b t = absurd t

from : (f : ℕ → ℕ → Bool) (xs : List ℕ) (i : ℕ) → T (every f i xs) → (k : ℕ) → k < length xs → T (f (i + k) (get_or xs k 0))
from f [] i t k h = absurd (not-suc-le-zero h)
from f (x ∷ xs) i t zero h = subst (λ (m : ℕ). T (f m x)) (sym (add-zero i)) (both_left (f i x) (every f (suc i) xs) t)
from f (x ∷ xs) i t (suc k) h =
    subst (λ (m : ℕ). T (f m (get_or xs k 0))) (suc-add i k ∙ sym (add-suc i k))
    (from f xs (suc i) (both_right (f i x) (every f (suc i) xs) t) k (le_of_suc-le-suc h))

at : (f : ℕ → ℕ → Bool) (xs : List ℕ) → T (every f 0 xs) → (k : ℕ) → k < length xs → T (f k (get_or xs k 0))
at f xs t k h = subst (λ (m : ℕ). T (f m (get_or xs k 0))) (zero-add k) (from f xs 0 t k h)

told : (k r : ℕ) → T (is_radius k r) → Radius k r
told k r t =
    record {
      low = leb→le (r * r) (100 * k) (both_left _ (ltb (100 * k) ((r + 1) * (r + 1))) t);
      high = ltb→lt (100 * k) ((r + 1) * (r + 1)) (both_right (leb (r * r) (100 * k)) _ t);
    }

pub carried : (xs : List ℕ) → T (every is_radius 0 xs) → (k : ℕ) → k < length xs → Radius k (get_or xs k 0)
carried xs t k h = told k (get_or xs k 0) (at is_radius xs t k h)

-- No radius of a value is below another.
not_below : (value r s : ℕ) → Radius value r → Radius value s → r < s → ⊥
not_below value r s a b h =
    let l : r + 1 ≤ s = omega arith in
    let m : (r + 1) * (r + 1) ≤ s * s = mul-le-mul l l in
    omega (arith, a.high, b.low)

pub one_radius : OneRadius
one_radius value r s a b =
    let low : r < s → ⊥ = not_below value r s a b in
    let high : s < r → ⊥ = not_below value s r b a in
    omega arith
