-- The list 0, 1, 2 and so on, as an order.
use Rattle.std.specs.Prelude.{◌≡◌, ℕ, zero, suc, ◌+◌, ◌-◌, ◌<◌, ◌≤◌, [], ◌∷◌, ◌++◌, map, length, take, drop, slice_index, slice_index_or, refl}
use Rattle.std.proofs.Common.{sym, ap, ◌∙◌, inl, inr, arith, length-append, length-drop, ext_get_or}
use Rattle.std.proofs.Math.Decide.{dec_lt}
use Rattle.std.specs.List.{remove, range_with_len}
use Rattle.std.proofs.lemmas.List.{append-nil, get_or_append_left, get_or-append_right, get_or-map, length-map}
use Rattle.std.proofs.lemmas.List.Edits.{length-remove, get_or-remove_below, get_or-remove_above}
use Rattle.std.proofs.lemmas.List.FromFn.{length-range_with_len, get_or-range_with_len}
use Rattle.placement.specs.Seatings.{Order, place_of, turned, fallen}
use Rattle.placement.proofs.Orders.{fallen_ways, order_lists, order_turned, place_is, turned_twice}

the : (A : Type 0) → A → A
the A a = a

pub counting_push : (a n j : ℕ) → a + n ≡ j → range_with_len a n ++ j ∷ [] ≡ range_with_len a (n + 1)
counting_push a n j e =
    let m : length (range_with_len a n ++ j ∷ []) ≡ n + 1 = length-append (range_with_len a n) (j ∷ []) ∙ ap (λ v. v + 1) (length-range_with_len a n) in
    ext_get_or 0 (range_with_len a n ++ j ∷ []) (range_with_len a (n + 1)) (m ∙ sym (length-range_with_len a (n + 1))) (λ i h. elim (dec_lt i n) [
      | yes lt ↦ get_or_append_left (range_with_len a n) (j ∷ []) 0 i (omega (arith, length-range_with_len a n)) ∙ get_or-range_with_len a n i 0 lt ∙ sym (get_or-range_with_len a (n + 1) i 0 (omega arith))
      | no ge ↦
          let is : i ≡ n = omega (arith, m) in
          let z : i - n ≡ 0 = omega arith in
          get_or-append_right (range_with_len a n) (j ∷ []) n i 0 (length-range_with_len a n) (omega arith) ∙ rw z (sym e ∙ ap (λ v. a + v) (sym is)) ∙ sym (get_or-range_with_len a (n + 1) i 0 (omega arith))
    ])

pub counting_order : (n : ℕ) → Order n (range_with_len 0 n)
counting_order n =
    (length-range_with_len 0 n, (λ k h. omega (arith, get_or-range_with_len 0 n k 0 h)), λ j k h e. omega (arith, h.0, e, get_or-range_with_len 0 n k 0 h.1, get_or-range_with_len 0 n j 0 (omega (arith, h.0, h.1))))

-- Begun elsewhere and begun again at 0, it is the same list.
pub counting_again : (n t : ℕ) → t < n → turned (place_of 0 (turned t (range_with_len 0 n))) (turned t (range_with_len 0 n)) ≡ range_with_len 0 n
counting_again zero t h = absurd (omega arith)
counting_again (suc n) zero h = append-nil (turned 0 (range_with_len 0 (suc n))) ∙ append-nil (range_with_len 0 (suc n))
counting_again (suc n) (suc t) h =
    let N = suc n in
    let os = range_with_len 0 N in
    let len = length-range_with_len 0 N in
    let le : suc t ≤ length os = omega (arith, len) in
    let o = order_turned N (suc t) os le (counting_order N) in
    let k = N - suc t in
    let z : k - k ≡ 0 = omega arith in
    let e : slice_index_or (turned (suc t) os) k 0 ≡ 0 = get_or-append_right (drop (suc t) os) (take (suc t) os) k k 0 (length-drop (suc t) os ∙ ap (λ v. v - suc t) len) (omega arith) ∙ rw z refl in
    let p : place_of (slice_index (turned (suc t) os) k) (turned (suc t) os) ≡ k = place_is (turned (suc t) os) (order_lists N (turned (suc t) os) o).0 k (omega (arith, o.0)) in
    let p' : place_of 0 (turned (suc t) os) ≡ length os - suc t = sym (ap (λ v. place_of v (turned (suc t) os)) e) ∙ p ∙ ap (λ v. v - suc t) (sym len) in
    ap (λ v. turned v (turned (suc t) os)) p' ∙ turned_twice (suc t) os le

entry : (n k i : ℕ) → k < length (range_with_len 0 n) → i < n - 1 → fallen k (slice_index (remove (range_with_len 0 n) k) i) ≡ i
entry n k i inside hi =
    let os = range_with_len 0 n in
    elim (dec_lt i k) [
      | yes b ↦
          let e : slice_index_or (remove os k) i 0 ≡ i = get_or-remove_below os k 0 i b inside ∙ get_or-range_with_len 0 n i 0 (omega arith) ∙ omega arith in
          ap (fallen k) e ∙ elim (fallen_ways k i) [ inl w ↦ absurd (omega (arith, w.0)) | inr w ↦ w.1 ]
      | no b ↦
          let e : slice_index_or (remove os k) i 0 ≡ i + 1 = get_or-remove_above os k 0 i (omega arith) inside ∙ get_or-range_with_len 0 n (i + 1) 0 (omega arith) ∙ omega arith in
          ap (fallen k) e ∙ elim (fallen_ways k (i + 1)) [ inl w ↦ omega (arith, w.1) | inr w ↦ absurd (omega (arith, w.0)) ]
    ]

-- An index left out, later ones one less.
pub counting_left : (n k : ℕ) → k < n → map (fallen k) (remove (range_with_len 0 n) (place_of k (range_with_len 0 n))) ≡ range_with_len 0 (n - 1)
counting_left n k h =
    let os = range_with_len 0 n in
    let len = length-range_with_len 0 n in
    let inside : k < length os = omega (arith, len) in
    let at : slice_index_or os k 0 ≡ k = get_or-range_with_len 0 n k 0 h ∙ omega arith in
    let place : place_of k os ≡ k = ap (λ v. place_of v os) (sym at) ∙ place_is os (order_lists n os (counting_order n)).0 k inside in
    let rest = remove os k in
    let long : length rest ≡ n - 1 = omega (arith, length-remove os k inside, len) in
    ap (λ v. map (fallen k) (remove os v)) place ∙ ext_get_or 0 (map (fallen k) rest) (range_with_len 0 (n - 1)) (length-map rest (fallen k) ∙ long ∙ sym (length-range_with_len 0 (n - 1))) (λ i b.
    let hi : i < n - 1 = omega (arith, length-map rest (fallen k), long) in
    get_or-map (fallen k) rest i 0 0 (omega (arith, long)) ∙ entry n k i inside hi ∙ the (i ≡ 0 + i) (omega arith) ∙ sym (get_or-range_with_len 0 (n - 1) i 0 hi))

pub counting_begun : (n : ℕ) → turned (place_of 0 (range_with_len 0 n)) (range_with_len 0 n) ≡ range_with_len 0 n
counting_begun zero = refl
counting_begun (suc n) = append-nil (range_with_len 0 (suc n))
