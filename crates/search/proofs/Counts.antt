-- Orders by counting: each index below n stands once, and no other.
use Rattle.std.proofs.Common.{◌≡◌, ℕ, zero, suc, ◌+◌, ◌<◌, ◌≤◌, List, [], ◌∷◌, length, get_or, sym, refl, ◌∙◌, subst, inl, inr, arith}
use native.Mathlib.Decide.{dec_lt}
use Rattle.placement.specs.Seatings.{Order}
use Rattle.placement.proofs.Distinct.{Out, Distinct, Below, order_holds}
use Rattle.placement.proofs.Orders.{order_lists, lists_order}
use Rattle.search.specs.Sets.{held, Joined}
use Rattle.search.specs.Roads.{one, count, Exact}
use Rattle.search.specs.declared.sets.StaySet.{StaySet}
use Rattle.search.proofs.Bits.{one_same, one_other, one_cases, joined_held}

abbrev pub Counted : ℕ → List ℕ → Type 0
Counted n os = (j : ℕ) → (j < n → count j os ≡ 1) × (n ≤ j → count j os ≡ 0)

-- From an order.
count_out : (j : ℕ) (xs : List ℕ) → Out j xs → count j xs ≡ 0
count_out j [] o = refl
count_out j (x ∷ xs) o = omega (arith, one_other x j (λ e. o.0 (sym e)), count_out j xs o.1)

count_above : (n j : ℕ) (xs : List ℕ) → Below n xs → n ≤ j → count j xs ≡ 0
count_above n j [] b h = refl
count_above n j (x ∷ xs) b h = omega (arith, one_other x j (omega (arith, b.0)), count_above n j xs b.1 h)

count_at : (xs : List ℕ) → Distinct xs → (k : ℕ) → k < length xs → count (get_or xs k 0) xs ≡ 1
count_at [] d k h = absurd (omega arith)
count_at (x ∷ xs) d zero h = omega (arith, one_same x x refl, count_out x xs d.0)
count_at (x ∷ xs) d (suc k) h = elim (one_cases x (get_or xs k 0)) [
  | inl e ↦
      let P : ℕ → Type 0 = λ v. count v xs ≡ 0 in
      absurd (omega (arith, subst P e.0 (count_out x xs d.0), count_at xs d.1 k (omega arith)))
  | inr e ↦ omega (arith, e.1, count_at xs d.1 k (omega arith))
]

pub order_counted : (n : ℕ) (os : List ℕ) → Order n os → Counted n os
order_counted n os o = λ j. (
  (λ h.
      let r = order_holds n os o j h in
      let P : ℕ → Type 0 = λ v. count v os ≡ 1 in
      subst P r.2 (count_at os (order_lists n os o).0 r.0 (omega (arith, r.1, o.0)))),
  λ h. count_above n j os (order_lists n os o).1 h,
)

-- Back to an order. As many indexes stand there as are counted.
total : ℕ → (ℕ → ℕ) → ℕ
total zero f = 0
total (suc n) f = f n + total n f

total_ones : (n : ℕ) (f : ℕ → ℕ) → ((j : ℕ) → j < n → f j ≡ 1) → total n f ≡ n
unfolding total
total_ones zero f h = refl
total_ones (suc n) f h = omega (arith, h n (omega arith), total_ones n f (λ j b. h j (omega arith)))

total_none : (n : ℕ) (f : ℕ → ℕ) → ((j : ℕ) → j < n → f j ≡ 0) → total n f ≡ 0
unfolding total
total_none zero f h = refl
total_none (suc n) f h = omega (arith, h n (omega arith), total_none n f (λ j b. h j (omega arith)))

total_add : (n : ℕ) (f g : ℕ → ℕ) → total n (λ j. f j + g j) ≡ total n f + total n g
unfolding total
total_add zero f g = refl
total_add (suc n) f g = omega (arith, total_add n f g)

total_one : (n x : ℕ) → x < n → total n (λ j. one x j) ≡ 1
unfolding total
total_one zero x h = absurd (omega arith)
total_one (suc n) x h = elim (one_cases x n) [
  | inl e ↦ omega (arith, e.1, total_none n (λ j. one x j) (λ j b. one_other x j (omega (arith, e.0))))
  | inr e ↦ omega (arith, e.1, total_one n x (omega (arith, e.0)))
]

below_counted : (n x : ℕ) (os : List ℕ) → ((j : ℕ) → n ≤ j → count j (x ∷ os) ≡ 0) → x < n
below_counted n x os h = elim (dec_lt x n) [ yes b ↦ b | no k ↦ absurd (omega (arith, h x (omega arith), one_same x x refl)) ]

counted : (n : ℕ) (os : List ℕ) → ((j : ℕ) → n ≤ j → count j os ≡ 0) → total n (λ j. count j os) ≡ length os
counted n [] h = total_none n (λ j. 0) (λ j b. refl)
counted n (x ∷ os) h =
    omega (arith, total_add n (λ j. one x j) (λ j. count j os), total_one n x (below_counted n x os h), counted n os (λ j b. omega (arith, h j b)))

pub counted_long : (n : ℕ) (os : List ℕ) → Counted n os → length os ≡ n
counted_long n os h = sym (counted n os (λ j. (h j).1)) ∙ total_ones n (λ j. count j os) (λ j. (h j).0)

out_counted : (z : ℕ) (xs : List ℕ) → count z xs ≡ 0 → Out z xs
out_counted z [] h = tt
out_counted z (x ∷ xs) h = ((λ e. absurd (omega (arith, one_same x z (sym e)))), out_counted z xs (omega arith))

lists_counted : (n : ℕ) (os : List ℕ) → ((j : ℕ) → count j os ≤ 1) → ((j : ℕ) → n ≤ j → count j os ≡ 0) → Distinct os × Below n os
lists_counted n [] h a = (tt, tt)
lists_counted n (x ∷ os) h a =
    let r = lists_counted n os (λ j. omega (arith, h j)) (λ j b. omega (arith, a j b)) in
    ((out_counted x os (omega (arith, h x, one_same x x refl)), r.0), (below_counted n x os a, r.1))

pub counted_order : (n : ℕ) (os : List ℕ) → Counted n os → Order n os
counted_order n os h =
    let r = lists_counted n os (λ j. elim (dec_lt j n) [ yes b ↦ omega (arith, (h j).0 b) | no k ↦ omega (arith, (h j).1 (omega arith)) ]) (λ j b. (h j).1 b) in
    lists_order n os (counted_long n os h) r.0 r.1

-- The first of the indexes that a set lacks is in the next set.
pub exact_first : (n : ℕ) (m : StaySet) (j : ℕ) (js : List ℕ) → Exact n m (j ∷ js) → (j < n) × (held m j ≡ 0) × ((r : StaySet) → Joined m j r → Exact n r js)
exact_first n m j js h =
    let o = one_same j j refl in
    let b : j < n = below_counted n j js (λ i k. (h i).1 k) in
    let z : held m j ≡ 0 = omega (arith, (h j).0 b) in
    (b, z, λ r f i. ((λ k. omega (arith, (h i).0 k, joined_held m r j i f z)), λ k. omega (arith, (h i).1 k)))

pub exact_more : (n : ℕ) (m r : StaySet) (j : ℕ) (js : List ℕ) → j < n → held m j ≡ 0 → Joined m j r → Exact n r js → Exact n m (j ∷ js)
exact_more n m r j js b z f h = λ i. (
  (λ k. omega (arith, (h i).0 k, joined_held m r j i f z)),
  λ k. omega (arith, (h i).1 k, one_other j i (omega arith)),
)

-- The set of t alone lacks what stands behind t in an order.
pub counted_exact : (n t : ℕ) (m : StaySet) (js : List ℕ) → ((j : ℕ) → held m j ≡ one t j) → Counted n (t ∷ js) → Exact n m js
counted_exact n t m js f h = λ i. ((λ k. omega (arith, (h i).0 k, f i)), λ k. omega (arith, (h i).1 k))

pub exact_counted : (n t : ℕ) (m : StaySet) (js : List ℕ) → ((j : ℕ) → held m j ≡ one t j) → t < n → Exact n m js → Counted n (t ∷ js)
exact_counted n t m js f b h = λ i. (
  (λ k. omega (arith, (h i).0 k, f i)),
  λ k. omega (arith, (h i).1 k, one_other t i (omega arith)),
)
