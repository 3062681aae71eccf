-- Beginning again and leaving out, on seatings.
use Rattle.std.proofs.Common.{◌≡◌, ℕ, zero, suc, ◌+◌, ◌-◌, ◌%◌, ◌<◌, ◌≤◌, List, [], ◌∷◌, map, length, get_or, take, drop, sym, refl, ap, ◌∙◌, subst, inl, inr, add-zero, arith, length-drop}
use Rattle.std.proofs.lemmas.List.{length-map, get_or_append_left, get_or-drop}
use Rattle.std.proofs.lemmas.List.Edits.{length-remove, get_or-remove_below, get_or-remove_above}
use Rattle.std.proofs.lemmas.List.FromFn.{get_or-map-range_with_len, length-map-range_with_len}
use Rattle.std.specs.List.{range_with_len, remove}
use Rattle.placement.specs.Windows.{Holds}
use Rattle.placement.specs.Stays.{no_stay}
use Rattle.placement.specs.Seatings.{Order, Seated, Lawful, no_plan, planned, turned, begun, begun_again, left_out, without, place_of, position_of, fallen}
use Rattle.placement.specs.Arcs.{Positions}
use Rattle.placement.specs.Keeps.{Left}
use Rattle.placement.specs.declared.stays.Stay.{Stay}
use Rattle.placement.proofs.Offsets.{holds_mod}
use Rattle.placement.proofs.Chains.{Closed, stays, windows, closed_from, closed_seated, chain_weaker, chain_holds}
use Rattle.placement.proofs.Distinct.{Out, Below, out_at}
use Rattle.placement.proofs.Orders.{order_lists, lists_order, order_turned, distinct_removed, below_removed, gone, fallen_ways, fallen_below, distinct_fallen, below_fallen, place_is, place_order}
use Rattle.placement.proofs.Turns.{Even, Loop, closed_turned, loop_left, loop_and, loop_renamed}

-- The order and the times with the stay i left out, not yet begun again.
abbrev left_order : ℕ → List ℕ → List ℕ
left_order i os = map (fallen i) (remove os (place_of i os))

abbrev left_times : ℕ → List ℕ → List ℕ → List ℕ
left_times i os ts = remove ts (place_of i os)

-- the positions of a seating, as a list
pub table : ℕ → ℕ → List ℕ → List ℕ → List ℕ
table C n os ts = map (λ i. position_of C i (planned os ts)) (range_with_len 0 n)

pub table_at : (C n : ℕ) (os ts : List ℕ) (i : ℕ) → i < n → get_or (table C n os ts) i 0 ≡ position_of C i (planned os ts)
unfolding table
table_at C n os ts i h = get_or-map-range_with_len (λ i. position_of C i (planned os ts)) 0 n i i 0 h (omega arith)

pub table_positions : (C n : ℕ) (os ts : List ℕ) → Order n os → Positions C n (planned os ts) (table C n os ts)
table_positions C n os ts o k h =
    sym (table_at C n os ts (get_or os k 0) (o.1 k h) ∙ ap (λ j. get_or ts j 0 % C) (place_is os (order_lists n os o).0 k (omega (arith, o.0))))

positions_of : (C n : ℕ) (os ts xs : List ℕ) → Order n os → Positions C n (planned os ts) xs → (i : ℕ) → i < n → position_of C i (planned os ts) ≡ get_or xs i 0
positions_of C n os ts xs o ps i h =
    let r = place_order n os o i h in
    ps (place_of i os) r.0 ∙ ap (λ j. get_or xs j 0) r.1

-- in its window, at its position
abbrev pub Sits : ℕ → List Stay → List ℕ → ℕ → ℕ → Type 0
Sits C l xs i t = Holds C (get_or l i no_stay).window t × (t % C ≡ get_or xs i 0)

sits_even : (C : ℕ) (l : List Stay) (xs : List ℕ) → Even C (Sits C l xs)
sits_even C l xs i t u e w =
    (holds_mod C (get_or l i no_stay).window t u e w.0, sym e ∙ w.1)

closed_loop : (f : ℕ → Stay) (W : ℕ → ℕ → Type 0) (C p q : ℕ) (os ts : List ℕ) → Closed f W C p q os ts → Loop f W C p q os ts
closed_loop f W C p q [] [] c = tt
closed_loop f W C p q [] (t ∷ ts) c = absurd c
closed_loop f W C p q (o ∷ os) [] c = absurd c
closed_loop f W C p q (o ∷ os) (t ∷ ts) c = (c.1, c.2)

closed_weaker : (f : ℕ → Stay) (V W : ℕ → ℕ → Type 0) → ((s t : ℕ) → V s t → W s t) → (C p q : ℕ) (os ts : List ℕ) → Closed f V C p q os ts → Closed f W C p q os ts
closed_weaker f V W h C p q [] [] c = tt
closed_weaker f V W h C p q [] (t ∷ ts) c = absurd c
closed_weaker f V W h C p q (o ∷ os) [] c = absurd c
closed_weaker f V W h C p q (o ∷ os) (t ∷ ts) c = (c.0, h o t c.1, chain_weaker f V W h p q o t os ts o (t + C) c.2)

closed_holds : (f : ℕ → Stay) (W : ℕ → ℕ → Type 0) (C p q : ℕ) (os ts : List ℕ) → Closed f W C p q os ts → (k : ℕ) → k < length os → W (get_or os k 0) (get_or ts k 0)
closed_holds f W C p q [] ts c k h = absurd (omega arith)
closed_holds f W C p q (o ∷ os) [] c k h = absurd c
closed_holds f W C p q (o ∷ os) (t ∷ ts) c zero h = c.1
closed_holds f W C p q (o ∷ os) (t ∷ ts) c (suc k) h = chain_holds f W p q 0 o t os ts o (t + C) c.2 k (omega arith)

-- a loop over an order, begun at its place k
begun_at : (C p q : ℕ) (l : List Stay) (xs os ts : List ℕ) (k : ℕ) → 1 ≤ C → 1 ≤ q → Order (length l) os → Loop (stays l) (Sits C l xs) C p q os ts → k < length l → Seated C p q l (planned (turned k os) (begun C k ts)) × Positions C (length l) (planned (turned k os) (begun C k ts)) xs × (get_or (turned k os) 0 0 ≡ get_or os k 0)
begun_at C p q l xs os ts k hC hq o c h =
    let e : length os ≡ length l = o.0 in
    let o' = order_turned (length l) k os (omega arith) o in
    let t = closed_turned (stays l) (Sits C l xs) p q C hC hq (sits_even C l xs) k os ts (omega arith) c in
    let n : 0 < length (drop k os) = simp length-drop (omega arith) in (
      closed_seated C p q l (turned k os) (begun C k ts) o' (closed_weaker (stays l) (Sits C l xs) (windows C l) (λ s u w. w.0) C p q (turned k os) (begun C k ts) t),
      (λ j b. (closed_holds (stays l) (Sits C l xs) C p q (turned k os) (begun C k ts) t j (omega (arith, o'.0))).1),
      get_or_append_left (drop k os) (take k os) 0 0 n ∙ get_or-drop k os 0 0 ∙ ap (λ j. get_or os j 0) (add-zero k),
    )

seated_loop : (C p q : ℕ) (l : List Stay) (xs os ts : List ℕ) → Seated C p q l (planned os ts) → Positions C (length l) (planned os ts) xs → Loop (stays l) (Sits C l xs) C p q os ts
unfolding Seated Lawful
seated_loop C p q l xs os ts h ps =
    loop_and (stays l) (windows C l) (λ i t. t % C ≡ get_or xs i 0) C p q 0 os ts (closed_loop (stays l) (windows C l) C p q os ts (closed_from C p q l os ts h)) (λ k b. ps k (omega (arith, h.0.0)))

-- A seating begun again at the stay i: its rules, its first stay and its positions.
pub begun_keeps : (C p q : ℕ) (l : List Stay) (i : ℕ) (os ts : List ℕ) → 1 ≤ C → 1 ≤ q → Seated C p q l (planned os ts) → i < length l → Seated C p q l (begun_again C i (planned os ts)) × (get_or (turned (place_of i os) os) 0 0 ≡ i) × ((j : ℕ) → j < length l → position_of C j (begun_again C i (planned os ts)) ≡ position_of C j (planned os ts))
unfolding Seated Lawful begun_again
begun_keeps C p q l i os ts hC hq h b =
    let n = length l in
    let xs = table C n os ts in
    let ps = table_positions C n os ts h.0 in
    let r = place_order n os h.0 i b in
    let t = begun_at C p q l xs os ts (place_of i os) hC hq h.0 (seated_loop C p q l xs os ts h ps) r.0 in (
      t.0,
      t.2 ∙ r.1,
      λ j bj. positions_of C n (turned (place_of i os) os) (begun C (place_of i os) ts) xs t.0.0 t.1 j bj ∙ table_at C n os ts j bj,
    )

-- a stay of the list without i
stay_left : (l : List Stay) (i o : ℕ) → i < length l → (i ≡ o → ⊥) → get_or l o no_stay ≡ get_or (remove l i) (fallen i o) no_stay
stay_left l i o h n = elim (fallen_ways i o) [
  | inl a ↦ let e : o - 1 + 1 ≡ o = omega (arith, a.0) in sym (ap (λ j. get_or (remove l i) j no_stay) a.1 ∙ get_or-remove_above l i no_stay (o - 1) (omega (arith, a.0)) h ∙ ap (λ j. get_or l j no_stay) e)
  | inr a ↦ sym (ap (λ j. get_or (remove l i) j no_stay) a.1 ∙ get_or-remove_below l i no_stay o (omega (arith, a.0)) h)
]

position_left : (xs : List ℕ) (i o : ℕ) → i < length xs → (i ≡ o → ⊥) → get_or xs o 0 ≡ get_or (remove xs i) (fallen i o) 0
position_left xs i o h n = elim (fallen_ways i o) [
  | inl a ↦ let e : o - 1 + 1 ≡ o = omega (arith, a.0) in sym (ap (λ j. get_or (remove xs i) j 0) a.1 ∙ get_or-remove_above xs i 0 (o - 1) (omega (arith, a.0)) h ∙ ap (λ j. get_or xs j 0) e)
  | inr a ↦ sym (ap (λ j. get_or (remove xs i) j 0) a.1 ∙ get_or-remove_below xs i 0 o (omega (arith, a.0)) h)
]

-- the stay i left out: an order and a loop of the list without it
record Parted (C p q : ℕ) (l : List Stay) (xs os ts : List ℕ) (i : ℕ) : Type 0 where
  pub order : Order (length (remove l i)) (left_order i os)
  pub loop : Loop (stays (remove l i)) (Sits C (remove l i) (remove xs i)) C p q (left_order i os) (left_times i os ts)

leaves : (C p q : ℕ) (l : List Stay) (xs os ts : List ℕ) (i : ℕ) → i < length l → length xs ≡ length l → Seated C p q l (planned os ts) → Positions C (length l) (planned os ts) xs → Parted C p q l xs os ts i
unfolding Seated Lawful
leaves C p q l xs os ts i h ex s ps =
    let n = length (remove l i) in
    let k = place_of i os in
    let o = s.0 in
    let eo : length os ≡ length l = o.0 in
    let en : length (remove l i) + 1 ≡ length l = length-remove l i h in
    let r = place_order (length l) os o i h in
    let L = order_lists (length l) os o in
    let kb : k < length os = omega (arith, r.0) in
    let G : ℕ → Type 0 = λ z. Out z (remove os k) in
    let out : Out i (remove os k) = subst G r.1 (gone k os L.0 kb) in
    let c = loop_left (stays l) (Sits C l xs) p q C k os ts kb (seated_loop C p q l xs os ts s ps) in
    let c' = loop_and (stays l) (Sits C l xs) (λ j t. i ≡ j → ⊥) C p q 0 (remove os k) (remove ts k) c (λ j b. out_at i (remove os k) out j b) in
    let em : length l ≡ suc n = omega arith in
    let B : Below (suc n) os = rw em at L.1 in
    record {
      order = lists_order n (left_order i os) (length-map (remove os k) (fallen i) ∙ omega (arith, length-remove os k kb)) (distinct_fallen i (remove os k) out (distinct_removed k os L.0)) (below_fallen n i (remove os k) (omega arith) out (below_removed (suc n) k os B));
      loop = loop_renamed (stays l) (λ j t. Sits C l xs j t × (i ≡ j → ⊥)) (stays (remove l i)) (Sits C (remove l i) (remove xs i)) (fallen i)
          (λ j t w. (
            (let P : Stay → Type 0 = λ v. Holds C v.window t in subst P (stay_left l i j h w.1) w.0.0, w.0.1 ∙ position_left xs i j (omega arith) w.1),
            stay_left l i j h w.1,
          ))
          C p q (remove os k) (remove ts k) c';
    }

-- An order and a loop, begun again at the list's first.
begun_first : (C p q : ℕ) (l : List Stay) (xs os ts : List ℕ) → 1 ≤ C → 1 ≤ q → Order (length l) os → Loop (stays l) (Sits C l xs) C p q os ts → Lawful C p q l (begun_again C 0 (planned os ts)) × Positions C (length l) (begun_again C 0 (planned os ts)) xs
unfolding Seated Lawful begun_again
begun_first C p q l xs [] [] hC hq o c =
    let n : 0 ≡ length l = o.0 in
    ((closed_seated C p q l [] [] o tt, refl), λ k b. absurd (omega arith))
begun_first C p q l xs [] (t ∷ ts) hC hq o c = absurd c
begun_first C p q l xs (a ∷ os) ts hC hq o c =
    let n : suc (length os) ≡ length l = o.0 in
    let r = place_order (length l) (a ∷ os) o 0 (omega arith) in
    let t = begun_at C p q l xs (a ∷ os) ts (place_of 0 (a ∷ os)) hC hq o c r.0 in
    ((t.0, t.2 ∙ r.1), t.1)

pub length_table : (C n : ℕ) (os ts : List ℕ) → length (table C n os ts) ≡ n
unfolding table
length_table C n os ts = length-map-range_with_len (λ i. position_of C i (planned os ts)) 0 n

pub without_keeps : (C p q : ℕ) (l : List Stay) (i : ℕ) (os ts : List ℕ) → 1 ≤ C → 1 ≤ q → Seated C p q l (planned os ts) → i < length l → Left C p q l i (planned os ts) (without C i (planned os ts))
unfolding Seated Lawful begun_again left_out without
without_keeps C p q l i os ts hC hq h b =
    let xs = table C (length l) os ts in
    let ps = table_positions C (length l) os ts h.0 in
    let ex : length xs ≡ length l = length_table C (length l) os ts in
    let s = leaves C p q l xs os ts i b ex h ps in
    let t = begun_first C p q (remove l i) (remove xs i) (left_order i os) (left_times i os ts) hC hq s.order s.loop in
    let en : length (remove l i) + 1 ≡ length l = length-remove l i b in
    let us = begun_again C 0 (planned (left_order i os) (left_times i os ts)) in
    record {
      lawful = t.0;
      positions = λ j bj n.
          let ne : i ≡ j → ⊥ = λ e. n (sym e) in
          positions_of C (length (remove l i)) us.order us.times (remove xs i) t.0.0.0 t.1 (fallen i j) (fallen_below (length (remove l i)) i j ne (omega arith) (omega arith))
          ∙ sym (position_left xs i j (omega arith) ne)
          ∙ table_at C (length l) os ts j bj;
    }

pub empty_lawful : (C p q : ℕ) (l : List Stay) (os ts : List ℕ) → length l ≡ 0 → Order (length l) os → length ts ≡ length l → Lawful C p q l (planned os ts)
unfolding Seated Lawful
empty_lawful C p q l [] [] z o e = (closed_seated C p q l [] [] o tt, refl)
empty_lawful C p q l [] (t ∷ ts) z o e = absurd (omega arith)
empty_lawful C p q l (a ∷ os) ts z o e = let n : suc (length os) ≡ length l = o.0 in absurd (omega arith)

pub empty_seated : (C p q : ℕ) (l : List Stay) → length l ≡ 0 → Lawful C p q l no_plan × Seated C p q l no_plan
unfolding Lawful
empty_seated C p q [] n =
    let o : Order 0 [] = (refl, (λ k b. absurd (omega arith)), λ j k b. absurd (omega (arith, b.1))) in
    let s = closed_seated C p q [] [] [] o tt in
    ((s, refl), s)
empty_seated C p q (a ∷ l) n = absurd (omega arith)
