-- A seating as a chain: from each stay to the next, and closed round the ring.
use Rattle.std.proofs.Common.{◌≡◌, ℕ, zero, suc, ◌+◌, ◌*◌, ◌<◌, ◌≤◌, List, [], ◌∷◌, length, get_or, refl, ap, mul-add, arith}
use native.Mathlib.Nat.{le_of_mul-le-mul_left}
use Rattle.placement.specs.Windows.{Holds}
use Rattle.placement.specs.Stays.{Apart, no_stay}
use Rattle.placement.specs.Seatings.{Order, Seated, kth, planned}
use Rattle.placement.specs.declared.stays.Stay.{Stay}

-- from a at x through the stays ss at the times ts to b at y: each in its window W, each after the one before.
-- f says which stay an element is
abbrev pub Chain : {X : Type 0} → (X → Stay) → (X → ℕ → Type 0) → ℕ → ℕ → X → ℕ → List X → List ℕ → X → ℕ → Type 0
Chain f W p q a x [] [] b y = Apart p q (f a) x (f b) y
Chain f W p q a x [] (t ∷ ts) b y = ⊥
Chain f W p q a x (s ∷ ss) [] b y = ⊥
Chain f W p q a x (s ∷ ss) (t ∷ ts) b y = W s t × Apart p q (f a) x (f s) t × Chain f W p q s t ss ts b y

-- the lawful seating as a chain that closes
abbrev pub Closed : {X : Type 0} → (X → Stay) → (X → ℕ → Type 0) → ℕ → ℕ → ℕ → List X → List ℕ → Type 0
Closed f W C p q [] [] = Unit {0}
Closed f W C p q [] (t ∷ ts) = ⊥
Closed f W C p q (s ∷ ss) [] = ⊥
Closed f W C p q (s ∷ ss) (t ∷ ts) = (t < C) × W s t × Chain f W p q s t ss ts s (t + C)

pub apart_through : (p q : ℕ) (a : Stay) (x : ℕ) (b : Stay) (y : ℕ) (c : Stay) (z : ℕ) → Apart p q a x b y → Apart p q b y c z → Apart p q a x c z
apart_through p q a x b y c z f g =
    omega (arith, mul-add p a.trail b.lead, mul-add p b.trail c.lead, mul-add p a.trail c.lead)

pub apart_le : (p q : ℕ) (a : Stay) (x : ℕ) (b : Stay) (y : ℕ) → 1 ≤ q → Apart p q a x b y → x ≤ y
apart_le p q a x b y h f = let m : q * x ≤ q * y = omega arith in le_of_mul-le-mul_left m h

pub apart_later : (p q : ℕ) (a : Stay) (x : ℕ) (b : Stay) (y m : ℕ) → Apart p q a x b y → Apart p q a (x + m) b (y + m)
apart_later p q a x b y m f = omega (arith, mul-add q x m, mul-add q y m)

module _ {X : Type 0} (f : X → Stay) (W : X → ℕ → Type 0) (p q : ℕ) (d : X) where
  -- the chain, place by place
  pub chain_from : (a : X) (x : ℕ) (ss : List X) (ts : List ℕ) (b : X) (y : ℕ) → length ts ≡ length ss → ((k : ℕ) → k < length ss → W (get_or ss k d) (get_or ts k 0)) → ((k : ℕ) → k < length ss → Apart p q (f (get_or (a ∷ ss) k d)) (get_or (x ∷ ts) k 0) (f (get_or ss k d)) (get_or ts k 0)) → Apart p q (f (get_or (a ∷ ss) (length ss) d)) (get_or (x ∷ ts) (length ss) 0) (f b) y → Chain f W p q a x ss ts b y
  chain_from a x [] [] b y e w n l = l
  chain_from a x [] (t ∷ ts) b y e w n l = absurd (omega arith)
  chain_from a x (s ∷ ss) [] b y e w n l = absurd (omega arith)
  chain_from a x (s ∷ ss) (t ∷ ts) b y e w n l = (w 0 (omega arith), n 0 (omega arith), chain_from s t ss ts b y (omega arith) (λ k h. w (suc k) (omega arith)) (λ k h. n (suc k) (omega arith)) l)

  pub chain_long : (a : X) (x : ℕ) (ss : List X) (ts : List ℕ) (b : X) (y : ℕ) → Chain f W p q a x ss ts b y → length ts ≡ length ss
  chain_long a x [] [] b y c = refl
  chain_long a x [] (t ∷ ts) b y c = absurd c
  chain_long a x (s ∷ ss) [] b y c = absurd c
  chain_long a x (s ∷ ss) (t ∷ ts) b y c = ap suc (chain_long s t ss ts b y c.2)

  pub chain_holds : (a : X) (x : ℕ) (ss : List X) (ts : List ℕ) (b : X) (y : ℕ) → Chain f W p q a x ss ts b y → (k : ℕ) → k < length ss → W (get_or ss k d) (get_or ts k 0)
  chain_holds a x [] [] b y c k h = absurd (omega arith)
  chain_holds a x [] (t ∷ ts) b y c k h = absurd c
  chain_holds a x (s ∷ ss) [] b y c k h = absurd c
  chain_holds a x (s ∷ ss) (t ∷ ts) b y c zero h = c.0
  chain_holds a x (s ∷ ss) (t ∷ ts) b y c (suc k) h = chain_holds s t ss ts b y c.2 k (omega arith)

  -- from its first stay to any other
  pub chain_first : (a : X) (x : ℕ) (ss : List X) (ts : List ℕ) (b : X) (y : ℕ) → Chain f W p q a x ss ts b y → (k : ℕ) → k < length ss → Apart p q (f a) x (f (get_or ss k d)) (get_or ts k 0)
  chain_first a x [] [] b y c k h = absurd (omega arith)
  chain_first a x [] (t ∷ ts) b y c k h = absurd c
  chain_first a x (s ∷ ss) [] b y c k h = absurd c
  chain_first a x (s ∷ ss) (t ∷ ts) b y c zero h = c.1
  chain_first a x (s ∷ ss) (t ∷ ts) b y c (suc k) h = apart_through p q (f a) x (f s) t (f (get_or ss k d)) (get_or ts k 0) c.1 (chain_first s t ss ts b y c.2 k (omega arith))

  -- from any stay to a later one
  pub chain_on : (a : X) (x : ℕ) (ss : List X) (ts : List ℕ) (b : X) (y : ℕ) → Chain f W p q a x ss ts b y → (j k : ℕ) → j < k → k ≤ length ss → Apart p q (f (get_or (a ∷ ss) j d)) (get_or (x ∷ ts) j 0) (f (get_or (a ∷ ss) k d)) (get_or (x ∷ ts) k 0)
  chain_on a x ss ts b y c j zero h l = absurd (omega arith)
  chain_on a x ss ts b y c zero (suc k) h l = chain_first a x ss ts b y c k (omega arith)
  chain_on a x [] ts b y c (suc j) (suc k) h l = absurd (omega arith)
  chain_on a x (s ∷ ss) [] b y c (suc j) (suc k) h l = absurd c
  chain_on a x (s ∷ ss) (t ∷ ts) b y c (suc j) (suc k) h l = chain_on s t ss ts b y c.2 j k (omega arith) (omega arith)

  -- from any stay to the end
  pub chain_end : (a : X) (x : ℕ) (ss : List X) (ts : List ℕ) (b : X) (y : ℕ) → Chain f W p q a x ss ts b y → (k : ℕ) → k ≤ length ss → Apart p q (f (get_or (a ∷ ss) k d)) (get_or (x ∷ ts) k 0) (f b) y
  chain_end a x [] [] b y c zero h = c
  chain_end a x [] [] b y c (suc k) h = absurd (omega arith)
  chain_end a x [] (t ∷ ts) b y c k h = absurd c
  chain_end a x (s ∷ ss) [] b y c k h = absurd c
  chain_end a x (s ∷ ss) (t ∷ ts) b y c zero h = apart_through p q (f a) x (f s) t (f b) y c.1 (chain_end s t ss ts b y c.2 zero (omega arith))
  chain_end a x (s ∷ ss) (t ∷ ts) b y c (suc k) h = chain_end s t ss ts b y c.2 k (omega arith)

-- which stay an index is, and rule (i) of it
abbrev pub stays : List Stay → ℕ → Stay
stays l i = get_or l i no_stay

abbrev pub windows : ℕ → List Stay → ℕ → ℕ → Type 0
windows C l i t = Holds C (get_or l i no_stay).window t

-- a lawful seating is a chain that closes
pub closed_from : (C p q : ℕ) (l : List Stay) (os ts : List ℕ) → Seated C p q l (planned os ts) → Closed (stays l) (windows C l) C p q os ts
unfolding Seated
closed_from C p q l [] [] h = tt
closed_from C p q l [] (t ∷ ts) h = absurd (omega (arith, h.0.0, h.1))
closed_from C p q l (o ∷ os) [] h = absurd (omega (arith, h.0.0, h.1))
closed_from C p q l (o ∷ os) (t ∷ ts) h =
    let n : suc (length os) ≡ length l = h.0.0 in
    let m : suc (length ts) ≡ length l = h.1 in (
      h.2 (omega arith),
      h.3 0 (omega arith),
      chain_from (stays l) (windows C l) p q 0 o t os ts o (t + C) (omega arith) (λ k b. h.3 (suc k) (omega arith)) (λ k b. h.4 k (omega arith)) (h.5 (length os) n),
    )

-- a chain that closes is lawful
pub closed_seated : (C p q : ℕ) (l : List Stay) (os ts : List ℕ) → Order (length l) os → Closed (stays l) (windows C l) C p q os ts → Seated C p q l (planned os ts)
unfolding Seated
closed_seated C p q l [] [] o h =
    let n : 0 ≡ length l = o.0 in
    (o, o.0, (λ b. absurd (omega arith)), (λ k b. absurd (omega arith)), (λ k b. absurd (omega arith)), λ k b. absurd (omega arith))
closed_seated C p q l [] (t ∷ ts) o h = absurd h
closed_seated C p q l (i ∷ os) [] o h = absurd h
closed_seated C p q l (i ∷ os) (t ∷ ts) o h =
    let n : suc (length os) ≡ length l = o.0 in
    let m : length ts ≡ length os = chain_long (stays l) (windows C l) p q 0 i t os ts i (t + C) h.2 in (
      o,
      omega arith,
      (λ b. h.0),
      within,
      (λ k b. chain_on (stays l) (windows C l) p q 0 i t os ts i (t + C) h.2 k (suc k) (omega arith) (omega arith)),
      λ k b. chain_end (stays l) (windows C l) p q 0 i t os ts i (t + C) h.2 k (omega arith),
    )
  where
    within : (k : ℕ) → k < length l → Holds C (kth l (i ∷ os) k).window (get_or (t ∷ ts) k 0)
    within zero b = h.1
    within (suc k) b = let n : suc (length os) ≡ length l = o.0 in chain_holds (stays l) (windows C l) p q 0 i t os ts i (t + C) h.2 k (omega arith)

pub chain_weaker : {X : Type 0} (f : X → Stay) (V W : X → ℕ → Type 0) → ((s : X) (t : ℕ) → V s t → W s t) → (p q : ℕ) (a : X) (x : ℕ) (ss : List X) (ts : List ℕ) (b : X) (y : ℕ) → Chain f V p q a x ss ts b y → Chain f W p q a x ss ts b y
chain_weaker f V W k p q a x [] [] b y c = c
chain_weaker f V W k p q a x [] (t ∷ ts) b y c = c
chain_weaker f V W k p q a x (s ∷ ss) [] b y c = c
chain_weaker f V W k p q a x (s ∷ ss) (t ∷ ts) b y c = (k s t c.0, c.1, chain_weaker f V W k p q s t ss ts b y c.2)

-- in a chain that closes, each stay follows itself one ring later, and each earlier one a ring later
pub closed_round : {X : Type 0} (f : X → Stay) (W : X → ℕ → Type 0) (C p q : ℕ) (d : X) (a : X) (x : ℕ) (ss : List X) (ts : List ℕ) → Chain f W p q a x ss ts a (x + C) → (j k : ℕ) → j ≤ k → k ≤ length ss → Apart p q (f (get_or (a ∷ ss) k d)) (get_or (x ∷ ts) k 0) (f (get_or (a ∷ ss) j d)) (get_or (x ∷ ts) j 0 + C)
closed_round f W C p q d a x ss ts c zero k h l = chain_end f W p q d a x ss ts a (x + C) c k l
closed_round f W C p q d a x ss ts c (suc j) k h l =
    apart_through p q (f (get_or (a ∷ ss) k d)) (get_or (x ∷ ts) k 0) (f a) (x + C) (f (get_or ss j d)) (get_or ts j 0 + C)
    (chain_end f W p q d a x ss ts a (x + C) c k l)
    (apart_later p q (f a) x (f (get_or ss j d)) (get_or ts j 0) C (chain_first f W p q d a x ss ts a (x + C) c j (omega arith)))

-- earlier and later stays of a chain that closes, round the ring
pub lawful_round : (C p q : ℕ) (l : List Stay) (os ts : List ℕ) → Seated C p q l (planned os ts) → (j k : ℕ) → j ≤ k → k < length l → Apart p q (kth l os k) (get_or ts k 0) (kth l os j) (get_or ts j 0 + C)
unfolding Seated
lawful_round C p q l [] ts h j k b n = absurd (omega (arith, h.0.0))
lawful_round C p q l (o ∷ os) [] h j k b n = absurd (omega (arith, h.1))
lawful_round C p q l (o ∷ os) (t ∷ ts) h j k b n =
    let e : suc (length os) ≡ length l = h.0.0 in
    closed_round (stays l) (windows C l) C p q 0 o t os ts (closed_from C p q l (o ∷ os) (t ∷ ts) h).2 j k b (omega arith)

pub lawful_on : (C p q : ℕ) (l : List Stay) (os ts : List ℕ) → Seated C p q l (planned os ts) → (j k : ℕ) → j < k → k < length l → Apart p q (kth l os j) (get_or ts j 0) (kth l os k) (get_or ts k 0)
unfolding Seated
lawful_on C p q l [] ts h j k b n = absurd (omega (arith, h.0.0))
lawful_on C p q l (o ∷ os) [] h j k b n = absurd (omega (arith, h.1))
lawful_on C p q l (o ∷ os) (t ∷ ts) h j k b n =
    let e : suc (length os) ≡ length l = h.0.0 in
    chain_on (stays l) (windows C l) p q 0 o t os ts o (t + C) (closed_from C p q l (o ∷ os) (t ∷ ts) h).2 j k b (omega arith)
