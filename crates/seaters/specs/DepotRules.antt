-- The depot above any seater keeps the rules.
use Rattle.std.specs.Prelude.{◌≡◌, ℕ, zero, suc, ◌<◌, ◌≤◌, List, [], ◌∷◌, ◌++◌, length, ◌≢◌, slice_index_or, slice_set, refl}
use Rattle.std.proofs.Common.{sym, ap, ◌∙◌, subst, inl, inr, arith, length-append}
use Rattle.std.proofs.Math.Decide.{dec_lt}
use Rattle.std.specs.List.{remove}
use Rattle.std.proofs.lemmas.List.Edits.{length-remove}
use Rattle.std.proofs.lemmas.List.{length-set, get_or_append_left}
use Rattle.ring.specs.declared.measures.Ring.{Ring}
use Rattle.ring.specs.declared.measures.Pace.{Pace}
use Rattle.placement.specs.Windows.{Holds}
use Rattle.placement.specs.Stays.{StayBounds, Narrowed, no_stay}
use Rattle.placement.specs.Seatings.{Plan, no_plan, Seated, Lawful, time_of, position_of, fallen, without}
use Rattle.placement.specs.Keeps.{Left}
use Rattle.placement.specs.Arcs.{InBounds}
use Rattle.placement.specs.declared.stays.Stay.{Stay}
use Rattle.placement.proofs.Offsets.{holds_mod}
use Rattle.placement.proofs.Orders.{fallen_ways}
use Rattle.placement.proofs.Leaving.{empty_seated, without_keeps}
use Rattle.placement.proofs.Unique.{determined}
use Rattle.seaters.specs.Meanings.{Meaning, Rules}
use Rattle.seaters.specs.Layers.{DepotLets, WithDepot, depot_means}
use Rattle.seaters.specs.ListRules.{bounds_without}

-- The list with the depot last.
removed_last : {X : Type 0} (l : List X) (d : X) → remove (l ++ d ∷ []) (length l) ≡ l
removed_last [] d = refl
removed_last (x ∷ l) d = ap (λ v. x ∷ v) (removed_last l d)

removed_front : {X : Type 0} (l : List X) (d : X) (k : ℕ) → k < length l → remove (l ++ d ∷ []) k ≡ remove l k ++ d ∷ []
removed_front [] d k h = absurd (omega arith)
removed_front (x ∷ l) d zero h = refl
removed_front (x ∷ l) d (suc k) h = ap (λ v. x ∷ v) (removed_front l d k (omega arith))

set_front : {X : Type 0} (l : List X) (d : X) (k : ℕ) (a : X) → k < length l → slice_set (l ++ d ∷ []) k a ≡ slice_set l k a ++ d ∷ []
set_front [] d k a h = absurd (omega arith)
set_front (x ∷ l) d zero a h = refl
set_front (x ∷ l) d (suc k) a h = ap (λ v. x ∷ v) (set_front l d k a (omega arith))

longer : (l : List Stay) (d : Stay) → length (l ++ d ∷ []) ≡ suc (length l)
longer l d = length-append l (d ∷ []) ∙ omega arith

front : (l : List Stay) (d : Stay) (k : ℕ) → k < length l → slice_index_or (l ++ d ∷ []) k no_stay ≡ slice_index_or l k no_stay
front l d k h = get_or_append_left l (d ∷ []) no_stay k h

-- The only seating of the empty list.
pub only_empty : (C p q : ℕ) (l : List Stay) (s : Plan) → length l ≡ 0 → Lawful C p q l s → s ≡ no_plan
unfolding Seated Lawful
only_empty C p q l s z L = λ i. record { order = none s.order (L.0.0.0 ∙ z) i; times = none s.times (L.0.1 ∙ z) i }
  where
    none : (xs : List ℕ) → length xs ≡ 0 → xs ≡ []
    none [] e = refl
    none (x ∷ xs) e = absurd (omega arith)

-- An index of the shorter list comes from one of the longer.
rises : (n k i : ℕ) → k < suc n → i < n → (j : ℕ) × (j < suc n) × (j ≢ k) × (fallen k j ≡ i)
rises n k i hk hi = elim (dec_lt i k) [
  | yes b ↦ (i, omega arith, (λ e. omega arith), elim (fallen_ways k i) [ inl w ↦ absurd (omega (arith, w.0)) | inr w ↦ w.1 ])
  | no b ↦ (suc i, omega arith, (λ e. omega arith), elim (fallen_ways k (suc i)) [ inl w ↦ omega (arith, w.1) | inr w ↦ absurd (omega (arith, w.0)) ])
]

stays_put : (n j : ℕ) → j ≤ n → fallen n j ≡ j
stays_put n j h = elim (fallen_ways n j) [ inl w ↦ absurd (omega (arith, w.0)) | inr w ↦ w.1 ]

-- Two stays can be left out in either order.
module _ (C p q : ℕ) (hC : 1 ≤ C) (hp : 1 ≤ p) (hq : 1 ≤ q) where
  leaves : (l : List Stay) (k : ℕ) (s : Plan) → k < length l → Lawful C p q l s → Left C p q l k s (without C k s)
  unfolding Lawful
  leaves l k s h L = without_keeps C p q l k s.order s.times hC hq L.0 h

  -- The last left out first, or the other.
  swapped : (l : List Stay) (d : Stay) (k : ℕ) (u : Plan) → k < length l → InBounds C l → Lawful C p q (l ++ d ∷ []) u → without C k (without C (length l) u) ≡ without C (length (remove l k)) (without C k u)
  swapped l d k u h good L =
      let n = length l in
      let r = remove l k in
      let m = length r in
      let nm : suc m ≡ n = omega (arith, length-remove l k h) in
      let F : List Stay → Plan → Type 0 = λ v s. Lawful C p q v s in
      let s1 = without C n u in
      let s2 = without C k s1 in
      let t1 = without C k u in
      let t2 = without C m t1 in
      let a1 = leaves (l ++ d ∷ []) n u (omega (arith, longer l d)) L in
      let a2 = leaves l k s1 h (subst (λ v. F v s1) (removed_last l d) a1.lawful) in
      let b1 = leaves (l ++ d ∷ []) k u (omega (arith, longer l d)) L in
      let b2 = leaves (r ++ d ∷ []) m t1 (omega (arith, longer r d)) (subst (λ v. F v t1) (removed_front l d k h) b1.lawful) in
      let same : (i : ℕ) → i < m → position_of C i s2 ≡ position_of C i t2 = λ i hi.
      let j = rises m k i (omega arith) hi in
      let hj : j.0 < n = omega (arith, j.1) in
      let wide : j.0 < length (l ++ d ∷ []) = omega (arith, longer l d) in
      let x1 = ap (λ v. position_of C v s2) (sym j.3) ∙ a2.positions j.0 hj j.2 in
      let x2 = ap (λ v. position_of C v s1) (sym (stays_put n j.0 (omega arith))) ∙ a1.positions j.0 wide (λ e. omega arith) in
      let y1 = ap (λ v. position_of C v t2) (sym (stays_put m i (omega arith))) ∙ b2.positions i (omega (arith, longer r d)) (λ e. omega arith) in
      let y2 = ap (λ v. position_of C v t1) (sym j.3) ∙ b1.positions j.0 wide j.2 in
      x1 ∙ x2 ∙ sym (y1 ∙ y2) in
      determined C p q r hp hq (bounds_without C l k h good) t2 (subst (λ v. F v t2) (removed_last r d) b2.lawful) s2 a2.lawful same

-- What the seater below grants with the depot last it grants, without the depot, for the list itself.
module _ (d : Stay) (M : Meaning) (R : Rules M) where
  granted_below : (c : Ring) (v : Pace) (l : List Stay) (s : Plan) → WithDepot M.grants d c v l s → M.grants c v l s
  granted_below c v l s g =
      let r = R.granted_without c v (l ++ d ∷ []) g.longer (length l) (omega (arith, longer l d)) g.allowed in
      subst (λ w. M.grants c v l w) (sym g.is) (subst (λ w. M.grants c v w (without c.ticks (length l) g.longer)) (removed_last l d) r)

  lawful : (c : Ring) (v : Pace) (l : List Stay) (s : Plan) → DepotLets M.grants d c v l s → Lawful c.ticks v.p v.q l s
  lawful c v l s g = elim (dec_lt 0 (length l)) [
    | yes b ↦ R.lawful c v l s (granted_below c v l s (g.1 b))
    | no b ↦ let z : length l ≡ 0 = omega arith in subst (λ w. Lawful c.ticks v.p v.q l w) (sym (g.0 z)) (empty_seated c.ticks v.p v.q l z).0
  ]

  taken_without : (c : Ring) (l : List Stay) (k : ℕ) → k < length l → M.takes c (l ++ d ∷ []) → M.takes c (remove l k ++ d ∷ [])
  taken_without c l k h t =
      subst (λ w. M.takes c w) (removed_front l d k h) (R.taken_without c (l ++ d ∷ []) k (omega (arith, longer l d)) t)

  narrowed_front : (C : ℕ) (l : List Stay) (k : ℕ) (a : Stay) → k < length l → Narrowed C a (slice_index_or l k no_stay) → Narrowed C a (slice_index_or (l ++ d ∷ []) k no_stay)
  narrowed_front C l k a h n = subst (λ b. Narrowed C a b) (sym (front l d k h)) n

  bounded : (c : Ring) (l : List Stay) → M.takes c (l ++ d ∷ []) → InBounds c.ticks l
  bounded c l t k h = subst (λ b. StayBounds c.ticks b) (front l d k h) (R.bounded c (l ++ d ∷ []) t k (omega (arith, longer l d)))

  granted_without : (c : Ring) (v : Pace) (l : List Stay) (s : Plan) (k : ℕ) → k < length l → WithDepot M.grants d c v l s → WithDepot M.grants d c v (remove l k) (without c.ticks k s)
  granted_without c v l s k h g =
      let C = c.ticks in
      let wide : k < length (l ++ d ∷ []) = omega (arith, longer l d) in
      let u = g.longer in
      record {
        longer = without C k u;
        allowed = subst (λ w. M.grants c v w (without C k u)) (removed_front l d k h) (R.granted_without c v (l ++ d ∷ []) u k wide g.allowed);
        is = ap (without C k) g.is ∙ swapped C v.p v.q c.bounds.0 v.bounds.0 v.bounds.2 l d k u h (bounded c l (R.taken c v (l ++ d ∷ []) u g.allowed)) (R.lawful c v (l ++ d ∷ []) u g.allowed);
      }

  granted_narrowed : (c : Ring) (v : Pace) (l : List Stay) (s : Plan) (k : ℕ) (a : Stay) → k < length l → Narrowed c.ticks a (slice_index_or l k no_stay) → Holds c.ticks a.window (time_of k s) → WithDepot M.grants d c v l s → WithDepot M.grants d c v (slice_set l k a) s
  granted_narrowed c v l s k a h n b g =
      let C = c.ticks in
      let wide : k < length (l ++ d ∷ []) = omega (arith, longer l d) in
      let u = g.longer in
      let r = leaves C v.p v.q c.bounds.0 v.bounds.0 v.bounds.2 (l ++ d ∷ []) (length l) u (omega (arith, longer l d)) (R.lawful c v (l ++ d ∷ []) u g.allowed) in
      let same : position_of C k s ≡ position_of C k u = ap (position_of C k) g.is ∙ ap (λ j. position_of C j (without C (length l) u)) (sym (stays_put (length l) k (omega arith))) ∙ r.positions k wide (λ e. omega arith) in
      let held = holds_mod C a.window (time_of k s) (time_of k u) same b in
      record {
        longer = u;
        allowed = subst (λ w. M.grants c v w u) (set_front l d k a h) (R.granted_narrowed c v (l ++ d ∷ []) u k a wide (narrowed_front C l k a h n) held g.allowed);
        is = g.is ∙ ap (λ m. without C m u) (sym (length-set l k a));
      }

  pub depot_rules : Rules (depot_means d M)
  depot_rules = record {
    lawful = lawful;
    taken = λ c v l s g b. R.taken c v (l ++ d ∷ []) (g.1 b).longer (g.1 b).allowed;
    few = λ c l t. elim (dec_lt 0 (length l)) [ yes b ↦ omega (arith, R.few c (l ++ d ∷ []) (t b), longer l d) | no b ↦ omega arith ];
    bounded = λ c l t k h. bounded c l (t (omega arith)) k h;
    none_taken = λ c b. absurd (omega arith);
    none_granted = λ c v. ((λ _. refl), λ b. absurd (omega arith));
    none_given = λ c v s g. g.0 refl;
    taken_without = λ c l k h t b. taken_without c l k h (t (omega arith));
    taken_narrowed = λ c l k a h n t b. subst (λ w. M.takes c w) (set_front l d k a h) (R.taken_narrowed c (l ++ d ∷ []) k a (omega (arith, longer l d)) (narrowed_front c.ticks l k a h n) (t (omega arith)));
    granted_without = λ c v l s k h g. (
      (λ z. only_empty c.ticks v.p v.q (remove l k) (without c.ticks k s) z (leaves c.ticks v.p v.q c.bounds.0 v.bounds.0 v.bounds.2 l k s h (lawful c v l s g)).lawful),
      λ b. granted_without c v l s k h (g.1 (omega arith)),
    );
    granted_narrowed = λ c v l s k a h n b g. (
      (λ z. absurd (omega (arith, z, length-set l k a))),
      λ m. granted_narrowed c v l s k a h n b (g.1 (omega arith)),
    );
    given = λ c v l s g. (
      g.0,
      λ b. record { longer = (g.1 b).longer; allowed = R.given c v (l ++ d ∷ []) (g.1 b).longer (g.1 b).allowed; is = (g.1 b).is },
    );
    some_given = λ c v l s g. some c v l s g;
  }
    where
      some : (c : Ring) (v : Pace) (l : List Stay) (s : Plan) → DepotLets M.grants d c v l s → (u : Plan) × DepotLets M.gives d c v l u
      some c v l s g = elim (dec_lt 0 (length l)) [
        | yes b ↦
            let r = R.some_given c v (l ++ d ∷ []) (g.1 b).longer (g.1 b).allowed in
            (without c.ticks (length l) r.0, ((λ z. absurd (omega (arith, z, b))), λ _. record { longer = r.0; allowed = r.1; is = refl }))
        | no b ↦ (no_plan, ((λ _. refl), λ h. absurd (b h)))
      ]
