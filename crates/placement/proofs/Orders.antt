-- Orders, turned and with an index left out.
use Rattle.std.proofs.Common.{◌≡◌, ℕ, zero, suc, ◌-◌, ◌<◌, ◌≤◌, cond, ◌⊎◌, List, [], ◌∷◌, ◌++◌, map, length, get_or, take, drop, sym, refl, ap, ◌∙◌, subst, inl, inr, arith, length-append, length-drop, length-take, le-ltb, lt-ltb, eq-eqb, ne_eqb}
use native.Mathlib.Decide.{dec_lt}
use Rattle.std.proofs.lemmas.List.{append-nil, take-append-drop, drop_at, take_at}
use Rattle.std.specs.List.{remove}
use Rattle.placement.specs.Seatings.{Order, place_of, turned, fallen}
use Rattle.placement.proofs.Distinct.{Out, Distinct, Below, out_at, distinct_from, distinct_at, below_from, below_at, order_holds}

-- orders as lists of distinct numbers below n
pub order_lists : (n : ℕ) (os : List ℕ) → Order n os → Distinct os × Below n os
order_lists n os o =
    let e : length os ≡ n = o.0 in
    (distinct_from os (λ j k h. o.2 j k (h.0, omega (arith, h.1))), below_from n os (λ k h. o.1 k (omega arith)))

pub lists_order : (n : ℕ) (os : List ℕ) → length os ≡ n → Distinct os → Below n os → Order n os
lists_order n os e d b = (e, (λ k h. below_at n os b k (omega arith)), λ j k h. distinct_at os d j k (h.0, omega (arith, h.1)))

-- turning
out_mid : (z x : ℕ) (ys xs : List ℕ) → (z ≡ x → ⊥) → Out z (ys ++ xs) → Out z (ys ++ x ∷ xs)
out_mid z x [] xs n o = (n, o)
out_mid z x (y ∷ ys) xs n o = (o.0, out_mid z x ys xs n o.1)

out_swap : (z : ℕ) (xs ys : List ℕ) → Out z (xs ++ ys) → Out z (ys ++ xs)
out_swap z [] ys o = rw (append-nil ys) o
out_swap z (x ∷ xs) ys o = out_mid z x ys xs o.0 (out_swap z xs ys o.1)

distinct_mid : (x : ℕ) (ys xs : List ℕ) → Out x (ys ++ xs) → Distinct (ys ++ xs) → Distinct (ys ++ x ∷ xs)
distinct_mid x [] xs o d = (o, d)
distinct_mid x (y ∷ ys) xs o d = (out_mid y x ys xs (λ e. o.0 (sym e)) d.0, distinct_mid x ys xs o.1 d.1)

distinct_swap : (xs ys : List ℕ) → Distinct (xs ++ ys) → Distinct (ys ++ xs)
distinct_swap [] ys d = rw (append-nil ys) d
distinct_swap (x ∷ xs) ys d = distinct_mid x ys xs (out_swap x xs ys d.0) (distinct_swap xs ys d.1)

below_mid : (n x : ℕ) (ys xs : List ℕ) → x < n → Below n (ys ++ xs) → Below n (ys ++ x ∷ xs)
below_mid n x [] xs h b = (h, b)
below_mid n x (y ∷ ys) xs h b = (b.0, below_mid n x ys xs h b.1)

below_swap : (n : ℕ) (xs ys : List ℕ) → Below n (xs ++ ys) → Below n (ys ++ xs)
below_swap n [] ys b = rw (append-nil ys) b
below_swap n (x ∷ xs) ys b = below_mid n x ys xs b.0 (below_swap n xs ys b.1)

-- begun elsewhere, and begun again where it began
pub turned_twice : (t : ℕ) (os : List ℕ) → t ≤ length os → turned (length os - t) (turned t os) ≡ os
turned_twice t os h =
    let n = length-drop t os in
    rw (drop_at (drop t os) (take t os) (length os - t) n, take_at (drop t os) (take t os) (length os - t) n) (take-append-drop t os)

pub order_turned : (n k : ℕ) (os : List ℕ) → k ≤ length os → Order n os → Order n (turned k os)
order_turned n k os h o =
    let e = take-append-drop k os in
    let L = order_lists n os o in
    let D : Distinct (take k os ++ drop k os) = rw e L.0 in
    let B : Below n (take k os ++ drop k os) = rw e L.1 in
    lists_order n (turned k os) (simp (length-append, length-drop, length-take) (omega (arith, o.0))) (distinct_swap (take k os) (drop k os) D) (below_swap n (take k os) (drop k os) B)

-- leaving out
out_removed : (z k : ℕ) (xs : List ℕ) → Out z xs → Out z (remove xs k)
out_removed z zero [] o = o
out_removed z (suc k) [] o = o
out_removed z zero (x ∷ xs) o = o.1
out_removed z (suc k) (x ∷ xs) o = (o.0, out_removed z k xs o.1)

pub distinct_removed : (k : ℕ) (xs : List ℕ) → Distinct xs → Distinct (remove xs k)
distinct_removed zero [] d = d
distinct_removed (suc k) [] d = d
distinct_removed zero (x ∷ xs) d = d.1
distinct_removed (suc k) (x ∷ xs) d = (out_removed x k xs d.0, distinct_removed k xs d.1)

pub below_removed : (n k : ℕ) (xs : List ℕ) → Below n xs → Below n (remove xs k)
below_removed n zero [] b = b
below_removed n (suc k) [] b = b
below_removed n zero (x ∷ xs) b = b.1
below_removed n (suc k) (x ∷ xs) b = (b.0, below_removed n k xs b.1)

-- what is left out is no longer there
pub gone : (k : ℕ) (xs : List ℕ) → Distinct xs → k < length xs → Out (get_or xs k 0) (remove xs k)
gone k [] d h = absurd (omega arith)
gone zero (x ∷ xs) d h = d.0
gone (suc k) (x ∷ xs) d h = ((λ e. out_at x xs d.0 k (omega arith) (sym e)), gone k xs d.1 (omega arith))

pub fallen_ways : (i o : ℕ) → ((i < o) × (fallen i o ≡ o - 1)) ⊎ ((o ≤ i) × (fallen i o ≡ o))
fallen_ways i o = elim (dec_lt i o) [
  | yes h ↦ inl (h, ap (λ b. cond b (o - 1) o) (lt-ltb i o h))
  | no n ↦ let h : o ≤ i = omega arith in inr (h, ap (λ b. cond b (o - 1) o) (le-ltb i o h))
]

fallen_one : (i x y : ℕ) → (i ≡ x → ⊥) → (i ≡ y → ⊥) → fallen i x ≡ fallen i y → x ≡ y
fallen_one i x y nx ny e = elim (fallen_ways i x) [
  | inl a ↦ elim (fallen_ways i y) [ inl b ↦ omega (arith, a.0, a.1, b.0, b.1) | inr b ↦ omega (arith, a.0, a.1, b.0, b.1) ]
  | inr a ↦ elim (fallen_ways i y) [ inl b ↦ omega (arith, a.0, a.1, b.0, b.1) | inr b ↦ omega (arith, a.0, a.1, b.0, b.1) ]
]

pub fallen_below : (n i x : ℕ) → (i ≡ x → ⊥) → i < suc n → x < suc n → fallen i x < n
fallen_below n i x nx hi hx = elim (fallen_ways i x) [ inl a ↦ omega (arith, a.0, a.1) | inr a ↦ omega (arith, a.0, a.1) ]

out_fallen : (i x : ℕ) (ys : List ℕ) → (i ≡ x → ⊥) → Out i ys → Out x ys → Out (fallen i x) (map (fallen i) ys)
out_fallen i x [] n o d = tt
out_fallen i x (y ∷ ys) n o d = ((λ e. d.0 (fallen_one i x y n o.0 e)), out_fallen i x ys n o.1 d.1)

pub distinct_fallen : (i : ℕ) (xs : List ℕ) → Out i xs → Distinct xs → Distinct (map (fallen i) xs)
distinct_fallen i [] o d = tt
distinct_fallen i (x ∷ xs) o d = (out_fallen i x xs o.0 o.1 d.0, distinct_fallen i xs o.1 d.1)

pub below_fallen : (n i : ℕ) (xs : List ℕ) → i < suc n → Out i xs → Below (suc n) xs → Below n (map (fallen i) xs)
below_fallen n i [] h o b = tt
below_fallen n i (x ∷ xs) h o b = (fallen_below n i x o.0 h b.0, below_fallen n i xs h o.1 b.1)

-- the place of a stay
pub place_is : (os : List ℕ) → Distinct os → (k : ℕ) → k < length os → place_of (get_or os k 0) os ≡ k
place_is [] d k h = absurd (omega arith)
place_is (o ∷ os) d zero h = ap (λ b. cond b 0 (suc (place_of o os))) (eq-eqb o o refl)
place_is (o ∷ os) d (suc k) h =
    ap (λ b. cond b 0 (suc (place_of (get_or os k 0) os))) (ne_eqb o (get_or os k 0) (out_at o os d.0 k (omega arith))) ∙ ap suc (place_is os d.1 k (omega arith))

pub place_order : (n : ℕ) (os : List ℕ) → Order n os → (i : ℕ) → i < n → (place_of i os < n) × (get_or os (place_of i os) 0 ≡ i)
place_order n os o i h =
    let r = order_holds n os o i h in
    let e : place_of (get_or os r.0 0) os ≡ r.0 = place_is os (order_lists n os o).0 r.0 (omega (arith, r.1, o.0)) in
    let P : ℕ → Type 0 = λ j. (place_of j os < n) × (get_or os (place_of j os) 0 ≡ j) in
    subst P r.2 (rw e (r.1, refl))
