-- Trials, stay by stay: what the loops over an order build.
use Rattle.std.proofs.Common.{◌≡◌, ℕ, suc, ◌+◌, ◌-◌, ◌%◌, ◌<◌, ◌≤◌, ◌⊎◌, List, [], ◌∷◌, ◌++◌, length, get_or, take, drop, sym, refl, ap, ◌∙◌, subst, inl, inr, arith, length-append, length-drop, length-take}
use Rattle.std.proofs.lemmas.List.{get_or_append_left, get_or-append_right, get_or-drop, get_or-take, drop_more, take_more, take_all, take-append-drop}
use native.Mathlib.Decide.{dec_lt}
use Rattle.std.proofs.Math.Nat.{mod-eq_of_lt, add-mod_right}
use Rattle.placement.specs.Stays.{Apart, no_stay}
use Rattle.placement.specs.Seatings.{turned}
use Rattle.placement.specs.declared.stays.Stay.{Stay}
use Rattle.trials.specs.Trials.{Least, Followers, Trial, Closes, last_of}
use Rattle.trials.proofs.Followers.{Fails, late_fails}

pub last_push : {X : Type 0} (d : X) (xs : List X) (y : X) → last_of d (xs ++ y ∷ []) ≡ y
last_push d [] y = refl
last_push d (x ∷ xs) y = last_push x xs y

-- The list begun at its place t, place by place.
pub length_turned : (t : ℕ) (os : List ℕ) → t ≤ length os → length (turned t os) ≡ length os
length_turned t os h = simp (length-append, length-drop, length-take) (omega arith)

turned_front : (t k : ℕ) (os : List ℕ) → t + k < length os → get_or (turned t os) k 0 ≡ get_or os (t + k) 0
turned_front t k os h =
    let b : k < length (drop t os) = simp length-drop (omega arith) in
    rw (get_or_append_left (drop t os) (take t os) 0 k b, get_or-drop t os k 0)

turned_back : (t k : ℕ) (os : List ℕ) → t < length os → k < length os → length os ≤ t + k → get_or (turned t os) k 0 ≡ get_or os (t + k - length os) 0
turned_back t k os ht hk h =
    let e : k - (length os - t) ≡ t + k - length os = omega arith in
    get_or-append_right (drop t os) (take t os) (length os - t) k 0 (length-drop t os) (omega arith) ∙ rw e (get_or-take t os (t + k - length os) 0 (omega arith))

-- The place i, in the order, of the k-th of the order begun at t.
abbrev pub Place : ℕ → ℕ → ℕ → ℕ → Type 0
Place n t k i = ((t + k < n) × (i ≡ t + k)) ⊎ ((n ≤ t + k) × (i ≡ t + k - n))

pub place_round : (n t k : ℕ) → t < n → k < n → Place n t k ((t + k) % n)
place_round n t k ht hk = elim (dec_lt (t + k) n) [
  | yes h ↦ inl (h, mod-eq_of_lt h)
  | no h ↦
      let e : t + k ≡ t + k - n + n = omega (arith, h) in
      inr (omega (arith, h), ap (λ m. m % n) e ∙ add-mod_right (t + k - n) n ∙ mod-eq_of_lt (omega (arith, ht, hk, h)))
]

pub turned_at : (t k i : ℕ) (os : List ℕ) → t < length os → k < length os → Place (length os) t k i → get_or (turned t os) k 0 ≡ get_or os i 0
turned_at t k i os ht hk (inl w) = rw w.1 (turned_front t k os w.0)
turned_at t k i os ht hk (inr w) = rw w.1 (turned_back t k os ht hk w.0)

pub turned_more : (t k i : ℕ) (os : List ℕ) → t < length os → k < length os → Place (length os) t k i → take (k + 1) (turned t os) ≡ take k (turned t os) ++ get_or os i 0 ∷ []
turned_more t k i os ht hk p =
    let b : k < length (turned t os) = omega (arith, length_turned t os (omega arith)) in
    take_more (turned t os) k 0 b ∙ ap (λ o. take k (turned t os) ++ o ∷ []) (turned_at t k i os ht hk p)

pub turned_head : (t : ℕ) (os : List ℕ) → t < length os → get_or (turned t os) 0 0 ≡ get_or os t 0
turned_head t os h = rw (drop_more os t 0 h) refl

module _ (C p q : ℕ) (l : List Stay) where
  followers_push : (a x : ℕ) (os ts : List ℕ) (o t : ℕ) → Followers C p q l a x os ts → Least C p q (get_or l (last_of a os) no_stay) (last_of x ts) (get_or l o no_stay) t → Followers C p q l a x (os ++ o ∷ []) (ts ++ t ∷ [])
  followers_push a x [] [] o t g h = (h, tt)
  followers_push a x [] (u ∷ ts) o t g h = absurd g
  followers_push a x (b ∷ os) [] o t g h = absurd g
  followers_push a x (b ∷ os) (u ∷ ts) o t g h = (g.0, followers_push b u os ts o t g.1 h)

  -- One more follower.
  trial_push : (os ts : List ℕ) (o t : ℕ) → Trial C p q l os ts → Least C p q (get_or l (last_of 0 os) no_stay) (last_of 0 ts) (get_or l o no_stay) t → Trial C p q l (os ++ o ∷ []) (ts ++ t ∷ [])
  trial_push [] ts o t g h = absurd g
  trial_push (b ∷ os) [] o t g h = absurd g
  trial_push (b ∷ os) (u ∷ ts) o t g h = (g.0, followers_push b u os ts o t g.1 h)

  pub trial_next : (k : ℕ) (os ts : List ℕ) (a : Stay) (x y : ℕ) → k < length os → Trial C p q l (take k os) ts → get_or l (last_of 0 (take k os)) no_stay ≡ a → last_of 0 ts ≡ x → Least C p q a x (get_or l (get_or os k 0) no_stay) y → Trial C p q l (take (suc k) os) (ts ++ y ∷ [])
  trial_next k os ts a x y hk g ea ex m =
      let m' : Least C p q (get_or l (last_of 0 (take k os)) no_stay) (last_of 0 ts) (get_or l (get_or os k 0) no_stay) y = rw (ea, ex) m in
      let e : k + 1 ≡ suc k = omega arith in
      let more : take (suc k) os ≡ take k os ++ get_or os k 0 ∷ [] = ap (λ v. take v os) (sym e) ∙ take_more os k 0 hk in
      rw more (trial_push (take k os) ts (get_or os k 0) y g m')

  pub trial_more : (t k i : ℕ) (os ts : List ℕ) (a : Stay) (x y : ℕ) → t < length os → k < length os → Place (length os) t k i → Trial C p q l (take k (turned t os)) ts → get_or l (last_of 0 (take k (turned t os))) no_stay ≡ a → last_of 0 ts ≡ x → Least C p q a x (get_or l (get_or os i 0) no_stay) y → Trial C p q l (take (k + 1) (turned t os)) (ts ++ y ∷ [])
  trial_more t k i os ts a x y ht hk pl g ea ex m =
      let m' : Least C p q (get_or l (last_of 0 (take k (turned t os))) no_stay) (last_of 0 ts) (get_or l (get_or os i 0) no_stay) y = rw (ea, ex) m in
      rw (turned_more t k i os ht hk pl) (trial_push (take k (turned t os)) ts (get_or os i 0) y g m')

  pub last_more : (t k i : ℕ) (os : List ℕ) → t < length os → k < length os → Place (length os) t k i → get_or l (last_of 0 (take (k + 1) (turned t os))) no_stay ≡ get_or l (get_or os i 0) no_stay
  last_more t k i os ht hk pl =
      rw (turned_more t k i os ht hk pl) (ap (λ o. get_or l o no_stay) (last_push 0 (take k (turned t os)) (get_or os i 0)))

  -- A trial that has passed the end.
  pub late_turned : (t k : ℕ) (os ts : List ℕ) (y : ℕ) → 1 ≤ q → t < length os → Trial C p q l (take (k + 1) (turned t os)) (ts ++ y ∷ []) → (get_or l (get_or os t 0) no_stay).window.from + C < y → Fails C p q l (turned t os)
  late_turned t k os ts y hq ht g b =
      let R = turned t os in
      let z : 0 < k + 1 = omega arith in
      let h : get_or (take (k + 1) R) 0 0 ≡ get_or os t 0 = get_or-take (k + 1) R 0 0 z ∙ turned_head t os ht in
      let f : Fails C p q l (take (k + 1) R ++ drop (k + 1) R) = late_fails C p q l hq (take (k + 1) R) (drop (k + 1) R) (ts ++ y ∷ []) g (rw (h, last_push 0 ts y) b) in
      rw (take-append-drop (k + 1) R) at f

  -- The closing test, by the last stay and the first.
  pub closes_from : (os ts : List ℕ) → Trial C p q l os ts → Apart p q (get_or l (last_of 0 os) no_stay) (last_of 0 ts) (get_or l (get_or os 0 0) no_stay) ((get_or l (get_or os 0 0) no_stay).window.from + C) → Closes C p q l os ts
  closes_from [] ts g f = absurd g
  closes_from (o ∷ os) [] g f = absurd g
  closes_from (o ∷ os) (t ∷ ts) g f =
      let P : ℕ → Type 0 = λ e. Apart p q (get_or l (last_of o os) no_stay) (last_of t ts) (get_or l o no_stay) (e + C) in
      subst P (sym g.0) f

  pub closes_to : (os ts : List ℕ) → Trial C p q l os ts → Closes C p q l os ts → Apart p q (get_or l (last_of 0 os) no_stay) (last_of 0 ts) (get_or l (get_or os 0 0) no_stay) ((get_or l (get_or os 0 0) no_stay).window.from + C)
  closes_to [] ts g f = absurd g
  closes_to (o ∷ os) [] g f = absurd g
  closes_to (o ∷ os) (t ∷ ts) g f =
      let P : ℕ → Type 0 = λ e. Apart p q (get_or l (last_of o os) no_stay) (last_of t ts) (get_or l o no_stay) (e + C) in
      subst P g.0 f

  -- All followers have their times: the closing test decides.
  pub whole_trial : (t k : ℕ) (os ts : List ℕ) (a : Stay) (x : ℕ) → t < length os → length os ≤ k → Trial C p q l (take k (turned t os)) ts → get_or l (last_of 0 (take k (turned t os))) no_stay ≡ a → last_of 0 ts ≡ x → Trial C p q l (turned t os) ts × (Apart p q a x (get_or l (get_or os t 0) no_stay) ((get_or l (get_or os t 0) no_stay).window.from + C) → Closes C p q l (turned t os) ts) × (Closes C p q l (turned t os) ts → Apart p q a x (get_or l (get_or os t 0) no_stay) ((get_or l (get_or os t 0) no_stay).window.from + C))
  whole_trial t k os ts a x ht hk g ea ex =
      let R = turned t os in
      let e : take k R ≡ R = take_all k R (omega (arith, length_turned t os (omega arith))) in
      let g' : Trial C p q l R ts = rw e at g in
      let ea' : get_or l (last_of 0 R) no_stay ≡ a = rw e at ea in
      let h = turned_head t os ht in (
        g',
        (λ f. closes_from R ts g' (rw (h, ea', ex) f)),
        λ c. let f = closes_to R ts g' c in rw (h, ea', ex) at f,
      )

  pub late_more : (t k i : ℕ) (os ts : List ℕ) (a : Stay) (x y : ℕ) → 1 ≤ q → t < length os → k < length os → Place (length os) t k i → Trial C p q l (take k (turned t os)) ts → get_or l (last_of 0 (take k (turned t os))) no_stay ≡ a → last_of 0 ts ≡ x → Least C p q a x (get_or l (get_or os i 0) no_stay) y → (get_or l (get_or os t 0) no_stay).window.from + C < y → Fails C p q l (turned t os)
  late_more t k i os ts a x y hq ht hk pl g ea ex m h =
      late_turned t k os ts y hq ht (trial_more t k i os ts a x y ht hk pl g ea ex m) h

  pub last_next : (k : ℕ) (os : List ℕ) → k < length os → get_or l (last_of 0 (take (suc k) os)) no_stay ≡ get_or l (get_or os k 0) no_stay
  last_next k os hk =
      let e : k + 1 ≡ suc k = omega arith in
      let more : take (suc k) os ≡ take k os ++ get_or os k 0 ∷ [] = ap (λ v. take v os) (sym e) ∙ take_more os k 0 hk in
      rw more (ap (λ o. get_or l o no_stay) (last_push 0 (take k os) (get_or os k 0)))

  pub whole : (k : ℕ) (os ts : List ℕ) (a : Stay) (x : ℕ) → length os ≤ k → Trial C p q l (take k os) ts → get_or l (last_of 0 (take k os)) no_stay ≡ a → last_of 0 ts ≡ x → Trial C p q l os ts × (Apart p q a x (get_or l (get_or os 0 0) no_stay) ((get_or l (get_or os 0 0) no_stay).window.from + C) → Closes C p q l os ts) × (Closes C p q l os ts → Apart p q a x (get_or l (get_or os 0 0) no_stay) ((get_or l (get_or os 0 0) no_stay).window.from + C))
  whole k os ts a x hk g ea ex =
      let e : take k os ≡ os = take_all k os hk in
      let g' : Trial C p q l os ts = rw e at g in
      let ea' : get_or l (last_of 0 os) no_stay ≡ a = rw e at ea in (
        g',
        (λ f. closes_from os ts g' (rw (ea', ex) f)),
        λ c. let f = closes_to os ts g' c in rw (ea', ex) at f,
      )
