-- The first trial that closes: there is one exactly if the list can be seated in the order, and it is
-- such a seating.
use Rattle.std.proofs.Common.{◌≡◌, ℕ, zero, suc, ◌+◌, ◌-◌, ◌*◌, ◌/◌, ◌<◌, ◌≤◌, ◌⊎◌, List, [], ◌∷◌, ◌++◌, length, get_or, take, sym, refl, ap, ◌∙◌, subst, inl, inr, mul-le-mul_left, mul-add, arith, length-append, length-take}
use native.Mathlib.Decide.{dec_le, dec_lt}
use Rattle.std.proofs.lemmas.List.{drop_at, take_at, get_or-append_right, get_or-take}
use Rattle.placement.specs.Windows.{Holds}
use Rattle.placement.specs.Stays.{no_stay}
use Rattle.placement.specs.Seatings.{planned, Order, Seated, turned}
use Rattle.placement.specs.Arcs.{InBounds}
use Rattle.placement.specs.declared.stays.Stay.{Stay}
use Rattle.placement.proofs.Offsets.{offset_from, earliest_exists}
use Rattle.placement.proofs.Chains.{closed_from, closed_seated}
use Rattle.placement.proofs.Inserts.{ceil_covers, ceil_least}
use Rattle.placement.proofs.Orders.{order_turned}
use Rattle.trials.specs.Trials.{Least, Followers, Trial, Closes, First, last_of}
use Rattle.trials.proofs.Followers.{Fails, followers_chain, chain_closes}
use Rattle.trials.proofs.Starts.{start}
use Rattle.trials.proofs.Pushes.{length_turned, trial_next, turned_head}

module _ (C p q : ℕ) (l : List Stay) (hC : 1 ≤ C) (hq : 1 ≤ q) where
  -- There is a trial along every order, and one only.
  pub least_exists : (a : Stay) (x : ℕ) (b : Stay) → (y : ℕ) × Least C p q a x b y
  least_exists a x b =
      let D = p * (a.trail + b.lead) in
      let g = (D + (q - 1)) / q in
      let e = earliest_exists C b.window (x + g) hC in (
        e.0,
        record {
          holds = e.1.holds;
          apart = omega (arith, ceil_covers q D hq, mul-add q x g, mul-le-mul_left q e.1.late);
          least = λ z w f. e.1.least z (ceil_least q D x z hq f) w;
        },
      )

  followers_exist : (a x : ℕ) (os : List ℕ) → (ts : List ℕ) × Followers C p q l a x os ts
  followers_exist a x [] = ([], tt)
  followers_exist a x (o ∷ os) =
      let e = least_exists (get_or l a no_stay) x (get_or l o no_stay) in
      let r = followers_exist o e.0 os in
      (e.0 ∷ r.0, (e.1, r.1))

  pub trial_exists : (os : List ℕ) → 0 < length os → (ts : List ℕ) × Trial C p q l os ts
  trial_exists [] h = absurd (omega arith)
  trial_exists (o ∷ os) h =
      let r = followers_exist o (get_or l o no_stay).window.from os in
      ((get_or l o no_stay).window.from ∷ r.0, (refl, r.1))

  followers_same : (a x : ℕ) (os ts us : List ℕ) → Followers C p q l a x os ts → Followers C p q l a x os us → ts ≡ us
  followers_same a x [] [] [] f g = refl
  followers_same a x [] [] (u ∷ us) f g = absurd g
  followers_same a x [] (t ∷ ts) us f g = absurd f
  followers_same a x (o ∷ os) [] us f g = absurd f
  followers_same a x (o ∷ os) (t ∷ ts) [] f g = absurd g
  followers_same a x (o ∷ os) (t ∷ ts) (u ∷ us) f g =
      let le = f.0.least u g.0.holds g.0.apart in
      let ge = g.0.least t f.0.holds f.0.apart in
      let e : t ≡ u = omega arith in
      let P : ℕ → Type 0 = λ x. Followers C p q l o x os us in
      λ i. e i ∷ followers_same o t os ts us f.1 (subst P (sym e) g.1) i

  pub trial_same : (os ts us : List ℕ) → Trial C p q l os ts → Trial C p q l os us → ts ≡ us
  trial_same [] ts us f g = absurd f
  trial_same (o ∷ os) [] us f g = absurd f
  trial_same (o ∷ os) (t ∷ ts) [] f g = absurd g
  trial_same (o ∷ os) (t ∷ ts) (u ∷ us) f g =
      let e : t ≡ u = f.0 ∙ sym g.0 in
      let P : ℕ → Type 0 = λ x. Followers C p q l o x os us in
      λ i. e i ∷ followers_same o t os ts us f.1 (subst P (sym e) g.1) i

  -- A trial's front is the trial along the order's front.
  followers_take : (a x k : ℕ) (os ts : List ℕ) → Followers C p q l a x os ts → Followers C p q l a x (take k os) (take k ts)
  followers_take a x zero os ts f = tt
  followers_take a x (suc k) [] [] f = tt
  followers_take a x (suc k) [] (t ∷ ts) f = absurd f
  followers_take a x (suc k) (o ∷ os) [] f = absurd f
  followers_take a x (suc k) (o ∷ os) (t ∷ ts) f = (f.0, followers_take o t k os ts f.1)

  trial_take : (k : ℕ) (os ts : List ℕ) → Trial C p q l os ts → Trial C p q l (take (suc k) os) (take (suc k) ts)
  trial_take k [] ts f = absurd f
  trial_take k (o ∷ os) [] f = absurd f
  trial_take k (o ∷ os) (t ∷ ts) f = (f.0, followers_take o t k os ts f.1)

  followers_length : (a x : ℕ) (os ts : List ℕ) → Followers C p q l a x os ts → length ts ≡ length os
  followers_length a x [] [] f = refl
  followers_length a x [] (t ∷ ts) f = absurd f
  followers_length a x (o ∷ os) [] f = absurd f
  followers_length a x (o ∷ os) (t ∷ ts) f = ap suc (followers_length o t os ts f.1)

  pub trial_length : (os ts : List ℕ) → Trial C p q l os ts → length ts ≡ length os
  trial_length [] ts f = absurd f
  trial_length (o ∷ os) [] f = absurd f
  trial_length (o ∷ os) (t ∷ ts) f = ap suc (followers_length o t os ts f.1)

  -- One more follower, at y: that is its time in the whole trial too.
  pub trial_time : (k : ℕ) (os ts us : List ℕ) (a : Stay) (x y : ℕ) → k < length os → Trial C p q l (take k os) ts → get_or l (last_of 0 (take k os)) no_stay ≡ a → last_of 0 ts ≡ x → Least C p q a x (get_or l (get_or os k 0) no_stay) y → Trial C p q l os us → get_or us k 0 ≡ y
  trial_time k os ts us a x y hk g ea ex m f =
      let n : length ts ≡ k = trial_length (take k os) ts g ∙ length-take k os ∙ omega arith in
      let e = trial_same (take (suc k) os) (ts ++ y ∷ []) (take (suc k) us) (trial_next C p q l k os ts a x y hk g ea ex m) (trial_take k os us f) in
      let b : k < suc k = omega arith in
      let at : get_or (ts ++ y ∷ []) k 0 ≡ y = let z : k - k ≡ 0 = omega arith in get_or-append_right ts (y ∷ []) k k 0 n (omega arith) ∙ rw z refl in
      sym (get_or-take (suc k) us k 0 b) ∙ ap (λ v. get_or v k 0) (sym e) ∙ at

  closes_or_not : (os ts : List ℕ) → Closes C p q l os ts ⊎ (Closes C p q l os ts → ⊥)
  closes_or_not [] ts = inr (λ c. c)
  closes_or_not (o ∷ os) [] = inr (λ c. c)
  closes_or_not (o ∷ os) (t ∷ ts) =
      elim (dec_le (p * ((get_or l (last_of o os) no_stay).trail + (get_or l o no_stay).lead) + q * last_of t ts) (q * (t + C))) [ yes h ↦ inl h | no n ↦ inr n ]

  pub OpenBelow : List ℕ → ℕ → Type 0
  OpenBelow os m = (u : ℕ) (us : List ℕ) → u < m → Trial C p q l (turned u os) us → Closes C p q l (turned u os) us → ⊥

  -- One of the first m trials is the first that closes, or none of them closes.
  pub first_below : (os : List ℕ) (m : ℕ) → m ≤ length os → ((t : ℕ) × (ts : List ℕ) × First C p q l os t ts) ⊎ OpenBelow os m
  unfolding OpenBelow
  first_below os zero h = inr (λ u us b. absurd (omega arith))
  first_below os (suc m) h =
      elim (first_below os m (omega arith)) [
        | inl r ↦ inl r
        | inr none ↦
            let r = trial_exists (turned m os) (omega (arith, length_turned m os (omega arith))) in
            elim (closes_or_not (turned m os) r.0) [
              | inl c ↦ inl (m, r.0, record { place = omega arith; trial = r.1; closes = c; earlier = none })
              | inr n ↦ inr (λ u us b g c. elim (dec_lt u m) [
                | yes y ↦ none u us y g c
                | no y ↦
                    let e : u ≡ m = omega arith in
                    let P : ℕ → Type 0 = λ v. Trial C p q l (turned v os) us → Closes C p q l (turned v os) us → ⊥ in
                    let at-m : P m = λ g c. let Q : List ℕ → Type 0 = λ v. Closes C p q l (turned m os) v in n (subst Q (trial_same (turned m os) us r.0 g r.1) c) in
                    subst P (sym e) at-m g c
              ])
            ]
      ]

module _ (C p q : ℕ) (l : List Stay) (hC : 1 ≤ C) (hq : 1 ≤ q) (good : InBounds C l) where
  -- Every trial fails: the list cannot be seated in the order.
  pub none_seated : (os : List ℕ) → Order (length l) os → ((u : ℕ) → u < length os → Fails C p q l (turned u os)) → (ts : List ℕ) → Seated C p q l (planned os ts) → length os ≡ 0
  none_seated [] o f ts h = refl
  none_seated (a ∷ os) o f ts h =
      let r = start C p q l hq a os ts (closed_from C p q l (a ∷ os) ts h) in
      let n = length r.before in
      let O : List ℕ → Type 0 = λ v. Order (length l) v in
      let F : List ℕ → Type 0 = λ v. (u : ℕ) → u < length v → Fails C p q l (turned u v) in
      let o' = subst O r.is o in
      let size : length (r.before ++ r.here ∷ r.behind) ≡ n + suc (length r.behind) = length-append r.before (r.here ∷ r.behind) in
      let inside : n < length (r.before ++ r.here ∷ r.behind) = omega arith in
      let at : get_or (turned n (r.before ++ r.here ∷ r.behind)) 0 0 ≡ r.here = rw (drop_at r.before (r.here ∷ r.behind) n refl) refl in
      let k = get_or (r.before ++ r.here ∷ r.behind) n 0 in
      let is : k ≡ r.here = sym (turned_head n (r.before ++ r.here ∷ r.behind) inside) ∙ at in
      let low : r.here < length l = omega (arith, o'.1 n (omega (arith, o'.0)), is) in
      let c = r.closes (good r.here low).from in
      let f' = subst F r.is f n inside in
      let f'' : Fails C p q l ((r.here ∷ r.behind) ++ r.before) = rw (drop_at r.before (r.here ∷ r.behind) n refl, take_at r.before (r.here ∷ r.behind) n refl) at f' in
      absurd (f'' c.0 c.1)

  -- If the list can be seated in the order, some trial closes, and so a first one does.
  pub first_exists : (os ts : List ℕ) → Order (length l) os → 0 < length os → Seated C p q l (planned os ts) → (t : ℕ) × (us : List ℕ) × First C p q l os t us
  unfolding OpenBelow
  first_exists os ts o n h =
      elim (first_below C p q l hC hq os (length os) (omega arith)) [
        | inl r ↦ r
        | inr none ↦ absurd (omega (arith, none_seated os o (λ u b. fails u b none) ts h))
      ]
    where
      fails : (u : ℕ) → u < length os → OpenBelow C p q l hC hq os (length os) → Fails C p q l (turned u os)
      fails u b none = go (turned u os) (trial_exists C p q l hC hq (turned u os) (omega (arith, length_turned u os (omega arith)))) (λ us g c. none u us b g c)
        where
          go : (R : List ℕ) → ((ts : List ℕ) × Trial C p q l R ts) → ((us : List ℕ) → Trial C p q l R us → Closes C p q l R us → ⊥) → Fails C p q l R
          go [] r n = tt
          go (a ∷ R) r n = λ us c. n r.0 r.1 (chain_closes C p q l a R us r.0 c r.1)

  -- A trial that closes is a seating.
  closed : (R ts : List ℕ) → Order (length l) R → Trial C p q l R ts → Closes C p q l R ts → Seated C p q l (planned R ts)
  closed [] ts o g c = absurd g
  closed (a ∷ R) [] o g c = absurd g
  closed (a ∷ R) (t ∷ ts) o g c =
      let n : suc (length R) ≡ length l = o.0 in
      let b : a < length l = o.1 0 (omega arith) in
      let w = (get_or l a no_stay).window in
      let P : ℕ → Type 0 = λ x. Holds C w x in
      let zero-past = offset_from C w (good a b).from in
      closed_seated C p q l (a ∷ R) (t ∷ ts) o (
        omega (arith, g.0, (good a b).from),
        subst P (sym g.0) (omega arith),
        followers_chain C p q l a t R ts a (t + C) g.1 c,
      )

  pub first_seated : (os : List ℕ) (t : ℕ) (ts : List ℕ) → Order (length l) os → First C p q l os t ts → Seated C p q l (planned (turned t os) ts)
  first_seated os t ts o f =
      closed (turned t os) ts (order_turned (length l) t os (omega (arith, f.place)) o) f.trial f.closes
