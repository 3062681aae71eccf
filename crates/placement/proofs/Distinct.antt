-- Orders as lists of distinct numbers: such a list below n holds each number.
use Rattle.std.proofs.Common.{◌≡◌, ℕ, zero, suc, ◌<◌, ◌≤◌, ◌⊎◌, List, [], ◌∷◌, length, get_or, sym, subst, inl, inr, arith}
use native.Mathlib.Decide.{dec_lt, ℕ_discrete}
use Rattle.placement.specs.Seatings.{Order, Once}

-- z is not in the list
abbrev pub Out : ℕ → List ℕ → Type 0
Out z [] = Unit {0}
Out z (x ∷ xs) = (z ≡ x → ⊥) × Out z xs

abbrev pub Distinct : List ℕ → Type 0
Distinct [] = Unit {0}
Distinct (x ∷ xs) = Out x xs × Distinct xs

abbrev pub Below : ℕ → List ℕ → Type 0
Below m [] = Unit {0}
Below m (x ∷ xs) = (x < m) × Below m xs

pub out_from : (z : ℕ) (xs : List ℕ) → ((k : ℕ) → k < length xs → z ≡ get_or xs k 0 → ⊥) → Out z xs
out_from z [] h = tt
out_from z (x ∷ xs) h = (h 0 (omega arith), out_from z xs (λ k b. h (suc k) (omega arith)))

pub out_at : (z : ℕ) (xs : List ℕ) → Out z xs → (k : ℕ) → k < length xs → z ≡ get_or xs k 0 → ⊥
out_at z [] o k b e = omega arith
out_at z (x ∷ xs) o zero b e = o.0 e
out_at z (x ∷ xs) o (suc k) b e = out_at z xs o.1 k (omega arith) e

pub distinct_from : (xs : List ℕ) → Once (length xs) xs → Distinct xs
distinct_from [] h = tt
distinct_from (x ∷ xs) h =
    (out_from x xs (λ k b e. h 0 (suc k) (omega arith, omega arith) e), distinct_from xs (λ j k b e. h (suc j) (suc k) (omega (arith, b.0), omega (arith, b.1)) e))

pub distinct_at : (xs : List ℕ) → Distinct xs → Once (length xs) xs
distinct_at [] d j k b e = omega (arith, b.1)
distinct_at (x ∷ xs) d j zero b e = omega (arith, b.0)
distinct_at (x ∷ xs) d zero (suc k) b e = out_at x xs d.0 k (omega (arith, b.1)) e
distinct_at (x ∷ xs) d (suc j) (suc k) b e = distinct_at xs d.1 j k (omega (arith, b.0), omega (arith, b.1)) e

pub below_from : (m : ℕ) (xs : List ℕ) → ((k : ℕ) → k < length xs → get_or xs k 0 < m) → Below m xs
below_from m [] h = tt
below_from m (x ∷ xs) h = (h 0 (omega arith), below_from m xs (λ k b. h (suc k) (omega arith)))

pub below_at : (m : ℕ) (xs : List ℕ) → Below m xs → (k : ℕ) → k < length xs → get_or xs k 0 < m
below_at m [] h k b = absurd (omega arith)
below_at m (x ∷ xs) h zero b = h.0
below_at m (x ∷ xs) h (suc k) b = below_at m xs h.1 k (omega arith)

below_out : (m : ℕ) (xs : List ℕ) → Below (suc m) xs → Out m xs → Below m xs
below_out m [] h o = tt
below_out m (x ∷ xs) h o = (elim (dec_lt x m) [ yes b ↦ b | no n ↦ absurd (o.0 (omega (arith, h.0))) ], below_out m xs h.1 o.1)

-- the list without the number m
record Less (m : ℕ) (xs : List ℕ) : Type 0 where
  pub ys : List ℕ
  pub below : Below m ys
  pub distinct : Distinct ys
  pub long : length xs ≤ suc (length ys)
  pub out : (z : ℕ) → Out z xs → Out z ys

less : (m : ℕ) (xs : List ℕ) → Below (suc m) xs → Distinct xs → Less m xs
less m [] h d = record { ys = []; below = tt; distinct = tt; long = omega arith; out = λ z o. o }
less m (x ∷ xs) h d =
    let r = less m xs h.1 d.1 in
    elim (dec_lt x m) [
      | yes b ↦ record { ys = x ∷ r.ys; below = (b, r.below); distinct = (r.out x d.0, r.distinct); long = omega (arith, r.long); out = λ z o. (o.0, r.out z o.1) }
      | no n ↦
          let e : x ≡ m = omega (arith, h.0) in
          let P : ℕ → Type 0 = λ v. Out v xs in
          record { ys = xs; below = below_out m xs h.1 (subst P e d.0); distinct = d.1; long = omega arith; out = λ z o. o.1 }
    ]

-- distinct numbers below m are at most m
pub distinct_short : (m : ℕ) (xs : List ℕ) → Below m xs → Distinct xs → length xs ≤ m
distinct_short zero [] h d = omega arith
distinct_short zero (x ∷ xs) h d = absurd (omega (arith, h.0))
distinct_short (suc m) xs h d = let r = less m xs h d in omega (arith, r.long, distinct_short m r.ys r.below r.distinct)

pub present : (z : ℕ) (xs : List ℕ) → ((k : ℕ) × (k < length xs) × (get_or xs k 0 ≡ z)) ⊎ Out z xs
present z [] = inr tt
present z (x ∷ xs) = elim (ℕ_discrete z x) [
  | yes e ↦ inl (0, omega arith, sym e)
  | no n ↦ elim (present z xs) [ inl r ↦ inl (suc r.0, omega (arith, r.1), r.2) | inr o ↦ inr (n, o) ]
]

-- an order holds each index
pub order_holds : (n : ℕ) (os : List ℕ) → Order n os → (i : ℕ) → i < n → (k : ℕ) × (k < n) × (get_or os k 0 ≡ i)
order_holds n os o i b = elim (present i os) [
  | inl r ↦ (r.0, omega (arith, r.1, o.0), r.2)
  | inr u ↦
      let e : length os ≡ n = o.0 in
      let B : Below n os = below_from n os (λ k h. o.1 k (omega arith)) in
      let D : Distinct os = distinct_from os (λ j k h. o.2 j k (h.0, omega (arith, h.1))) in
      absurd (omega (arith, distinct_short n (i ∷ os) (b, B) (u, D)))
]
