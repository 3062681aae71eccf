-- Places in an order, and lists changed in place.
use Rattle.std.proofs.Common.{◌≡◌, ℕ, zero, suc, ◌+◌, ◌-◌, ◌<◌, ◌≤◌, cond, List, [], ◌∷◌, ◌++◌, map, length, get_or, take, drop, set, refl, ap, ◌∙◌, arith, eq-eqb, ltb-true, ltb-false, lt-ltb, sym, subst, true≢false}
use Rattle.std.proofs.lemmas.List.{get_or-append_right, length-map, length-take-le, get_or-drop, get_or_default}
use Rattle.std.proofs.lemmas.List.Edits.{map_over_more}
use Rattle.std.specs.List.{remove, list_all}
use Rattle.std.proofs.lemmas.List.{get_or_past}
use Rattle.std.proofs.lemmas.List.Sums.{AllPass-from_list_all, list_all-from_AllPass}
use Rattle.std.proofs.lemmas.List.Elements.{All-get_or, All-from_get_or}
use native.Mathlib.Decide.{dec_lt}
use Rattle.ring.specs.Questions.{Tells}
use Rattle.std.specs.Prelude.{Option, Some, None, MatchOption, Bool, true, false, not, nat_eq, nat_lt, ◌==◌}
use Rattle.std.specs.Option.{unwrap_or, option_eq, is_some}
use Rattle.std.specs.List.{position, position_or_len}
use Rattle.placement.specs.Seatings.{place_of, FirstPlace}

place_prefix : (i : ℕ) (os : List ℕ) → position_or_len (λ o. o == i) os ≡ place_of i os
place_prefix i [] = refl
place_prefix i (o ∷ os) = turned (o == i) _ _ (place_prefix i os)
  where
    turned : (b : Bool) (m n : ℕ) → m ≡ n → cond (not b) (1 + m) 0 ≡ cond b 0 (suc n)
    turned true m n e = refl
    turned false m n e = omega (arith, e)

place_within : (i : ℕ) (os : List ℕ) → place_of i os ≤ length os
place_within i [] = omega arith
place_within i (o ∷ os) = within (o == i) _ _ (place_within i os)
  where
    within : (b : Bool) (m n : ℕ) → m ≤ n → cond b 0 (suc m) ≤ suc n
    within true m n h = omega arith
    within false m n h = omega (arith, h)

-- The first position at which the index stands is its place.
place_found : (i : ℕ) (os : List ℕ) → FirstPlace i os (position (λ o. o == i) os)
place_found i os = found _ _ _ (place_prefix i os) (place_within i os) (nat_lt (position_or_len (λ o. o == i) os) (length os)) refl
  where
    found : (m n k : ℕ) → m ≡ k → k ≤ n → (b : Bool) → nat_lt m n ≡ b → MatchOption (cond b (Some m) None) (k ≡ n) (λ x. (x ≡ k) × (x < n))
    found m n k e h true t = (e, ltb-true m n t)
    found m n k e h false t = omega (arith, e, h, ltb-false m n t)

-- The place, or the order's length where it has none.
pub place_or : (i n k : ℕ) (os : List ℕ) (r : Option ℕ) → FirstPlace i os r → n ≡ length os → k ≡ unwrap_or r n → (k ≡ place_of i os) × (k ≤ length os)
place_or i n k os None h en ek = (omega (arith, h, en, ek), omega (arith, en, ek))
place_or i n k os (Some x) h en ek = (omega (arith, h.0, ek), omega (arith, h.1, ek))

-- What a search for the index gives.
pub place_searched : (i : ℕ) (os : List ℕ) (r : Option ℕ) → r ≡ position (λ o. o == i) os → FirstPlace i os r
place_searched i os r e = subst (FirstPlace i os) (sym e) (place_found i os)

-- a map in place, come to i
pub over_at : (f : ℕ → ℕ) (xs ys : List ℕ) (i : ℕ) → i < length xs → ys ≡ map f (take i xs) ++ drop i xs → get_or ys i 0 ≡ get_or xs i 0
over_at f xs ys i h e =
    let n : length (map f (take i xs)) ≡ i = length-map (take i xs) f ∙ length-take-le i xs (omega arith) in
    rw e (get_or-append_right (map f (take i xs)) (drop i xs) i i 0 n (omega arith) ∙ get_or-drop i xs (i - i) 0 ∙ ap (λ k. get_or xs k 0) (omega arith))

pub over_more : (f : ℕ → ℕ) (xs ys : List ℕ) (i v : ℕ) → i < length xs → length ys ≡ length xs → ys ≡ map f (take i xs) ++ drop i xs → v ≡ f (get_or ys i 0) → set ys i v ≡ map f (take (i + 1) xs) ++ drop (i + 1) xs
over_more f xs ys i v h n e w =
    rw w (map_over_more f xs ys i (get_or ys i 0) h e (get_or_default ys i 0 (get_or ys i 0) (omega arith)))

pub removed_past : (xs : List ℕ) (k : ℕ) → length xs ≤ k → remove xs k ≡ xs
removed_past [] zero h = refl
removed_past [] (suc k) h = refl
removed_past (x ∷ xs) zero h = absurd (omega arith)
removed_past (x ∷ xs) (suc k) h = ap (λ v. x ∷ v) (removed_past xs k (omega arith))

pub removed_below : (M : ℕ) (xs : List ℕ) (k : ℕ) → ((j : ℕ) → get_or xs j 0 < M) → (j : ℕ) → get_or (remove xs k) j 0 < M
removed_below M [] zero h j = h j
removed_below M [] (suc k) h j = h j
removed_below M (x ∷ xs) zero h j = h (suc j)
removed_below M (x ∷ xs) (suc k) h zero = h 0
removed_below M (x ∷ xs) (suc k) h (suc j) = removed_below M xs k (λ i. h (suc i)) j

-- Whether every entry is below a bound, the default entry too.
pub all_below : (M : ℕ) (ts : List ℕ) (r : Bool) → 0 < M → r ≡ list_all (λ t. nat_lt t M) ts → Tells r ((k : ℕ) → get_or ts k 0 < M)
all_below M ts r h e = (
  (λ y k. elim (dec_lt k (length ts)) [
    | yes b ↦ ltb-true (get_or ts k 0) M (All-get_or (λ t. nat_lt t M ≡ true) ts k 0 b (AllPass-from_list_all (λ t. nat_lt t M) ts (sym e ∙ y)))
    | no b ↦ omega (arith, h, get_or_past ts k 0 (omega arith))
  ]),
  (λ f. e ∙ list_all-from_AllPass (λ t. nat_lt t M) ts (All-from_get_or (λ t. nat_lt t M ≡ true) ts 0 (λ k b. lt-ltb (get_or ts k 0) M (f k)))),
)

pub place_some : (i k : ℕ) (os : List ℕ) (r : Option ℕ) → FirstPlace i os r → place_of i os ≡ k → k < length os → r ≡ Some k
place_some i k os None e p h = absurd (omega (arith, e, p, h))
place_some i k os (Some x) e p h = ap Some (omega (arith, e.0, p))

pub place_from : (i k : ℕ) (os : List ℕ) (r : Option ℕ) → FirstPlace i os r → r ≡ Some k → (place_of i os ≡ k) × (k < length os)
place_from i k os r h e = let f = subst (FirstPlace i os) e h in (sym f.0, f.1)

-- Whether a search gives a place, as a test tells.
pub other_place : (r : Option ℕ) (k : ℕ) (b : Bool) → b ≡ not (option_eq nat_eq r (Some k)) → b ≡ true → r ≡ Some k → ⊥
other_place None k b e t h = absurd (true≢false (sym (ap (λ o. is_some o) h)))
other_place (Some x) k b e t h = absurd (true≢false (sym t ∙ e ∙ ap not (eq-eqb x k (ap (λ o. unwrap_or o 0) h))))
