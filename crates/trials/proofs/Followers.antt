-- A trial is nowhere later than any seating that begins as it does.
use Rattle.std.proofs.Common.{ℕ, ◌+◌, ◌<◌, ◌≤◌, List, [], ◌∷◌, ◌++◌, get_or, sym, subst, mul-le-mul_left, arith}
use Rattle.std.proofs.lemmas.List.{append-nil}
use Rattle.placement.specs.Stays.{Apart, no_stay}
use Rattle.placement.specs.declared.stays.Stay.{Stay}
use Rattle.placement.proofs.Chains.{Chain, stays, windows, apart_le}
use Rattle.trials.specs.Trials.{Followers, Trial, Closes, last_of}

-- An earlier start is apart as well.
pub apart_earlier : (p q : ℕ) (a : Stay) (x x' : ℕ) (b : Stay) (y : ℕ) → x ≤ x' → Apart p q a x' b y → Apart p q a x b y
apart_earlier p q a x x' b y h f = omega (arith, mul-le-mul_left q h)

-- No chain along the order has its first stay at its window's first position.
abbrev pub Fails : ℕ → ℕ → ℕ → List Stay → List ℕ → Type 0
Fails C p q l [] = Unit {0}
Fails C p q l (o ∷ os) =
    (us : List ℕ)
    → Chain (stays l) (windows C l) p q o (get_or l o no_stay).window.from os us o ((get_or l o no_stay).window.from + C) → ⊥

module _ (C p q : ℕ) (l : List Stay) where
  -- The times of a trial are a chain up to its last stay, and the closing test ends it.
  pub followers_chain : (a x : ℕ) (os ts : List ℕ) (b y : ℕ) → Followers C p q l a x os ts → Apart p q (get_or l (last_of a os) no_stay) (last_of x ts) (get_or l b no_stay) y → Chain (stays l) (windows C l) p q a x os ts b y
  followers_chain a x [] [] b y g f = f
  followers_chain a x [] (t ∷ ts) b y g f = g
  followers_chain a x (o ∷ os) [] b y g f = g
  followers_chain a x (o ∷ os) (t ∷ ts) b y g f = (g.0.holds, g.0.apart, followers_chain o t os ts b y g.1 f)

  pub chain_le : 1 ≤ q → (a x : ℕ) (os ts : List ℕ) (b y : ℕ) → Chain (stays l) (windows C l) p q a x os ts b y → x ≤ y
  chain_le hq a x [] [] b y c = apart_le p q (stays l a) x (stays l b) y hq c
  chain_le hq a x [] (t ∷ ts) b y c = absurd c
  chain_le hq a x (o ∷ os) [] b y c = absurd c
  chain_le hq a x (o ∷ os) (t ∷ ts) b y c =
      omega (arith, apart_le p q (stays l a) x (stays l o) t hq c.1, chain_le hq o t os ts b y c.2)

  -- What is left of a chain starts no earlier than the trial's front ends.
  pub followers_first : (a x x' : ℕ) (os ts rest us : List ℕ) (b y : ℕ) → x ≤ x' → Followers C p q l a x os ts → Chain (stays l) (windows C l) p q a x' (os ++ rest) us b y → (z : ℕ) × (vs : List ℕ) × (last_of x ts ≤ z) × Chain (stays l) (windows C l) p q (last_of a os) z rest vs b y
  followers_first a x x' [] [] rest us b y h g c = (x', us, h, c)
  followers_first a x x' [] (t ∷ ts) rest us b y h g c = absurd g
  followers_first a x x' (o ∷ os) [] rest us b y h g c = absurd g
  followers_first a x x' (o ∷ os) (t ∷ ts) rest [] b y h g c = absurd c
  followers_first a x x' (o ∷ os) (t ∷ ts) rest (u ∷ us) b y h g c =
      followers_first o t u os ts rest us b y (g.0.least u c.0 (apart_earlier p q (stays l a) x x' (stays l o) u h c.1)) g.1 c.2

  -- The same of a chain that ends with the trial's last stay.
  closing : (a x z b y : ℕ) (vs : List ℕ) → x ≤ z → Chain (stays l) (windows C l) p q a z [] vs b y → Apart p q (stays l a) x (stays l b) y
  closing a x z b y [] h c = apart_earlier p q (stays l a) x z (stays l b) y h c
  closing a x z b y (v ∷ vs) h c = absurd c

  -- Where some chain closes, the trial does.
  pub chain_closes : (o : ℕ) (os us ts : List ℕ) → Chain (stays l) (windows C l) p q o (get_or l o no_stay).window.from os us o ((get_or l o no_stay).window.from + C) → Trial C p q l (o ∷ os) ts → Closes C p q l (o ∷ os) ts
  chain_closes o os us [] c g = absurd g
  chain_closes o os us (t ∷ ts) c g =
      let from = (get_or l o no_stay).window.from in
      let c' : Chain (stays l) (windows C l) p q o from (os ++ []) us o (from + C) = rw (append-nil os) c in
      let r = followers_first o t from os ts [] us o (from + C) (omega arith) g.1 c' in
      let P : ℕ → Type 0 = λ e. Apart p q (stays l (last_of o os)) (last_of t ts) (stays l o) (e + C) in
      subst P (sym g.0) (closing (last_of o os) (last_of t ts) r.0 o (from + C) r.1 r.2 r.3)

  -- A trial that has passed the end does not close, whatever follows.
  pub late_fails : 1 ≤ q → (os rest ts : List ℕ) → Trial C p q l os ts → (get_or l (get_or os 0 0) no_stay).window.from + C < last_of 0 ts → Fails C p q l (os ++ rest)
  late_fails hq [] rest ts g h = absurd g
  late_fails hq (o ∷ os) rest [] g h = absurd g
  late_fails hq (o ∷ os) rest (t ∷ ts) g h = λ us c.
      let from = (get_or l o no_stay).window.from in
      let r = followers_first o t from os ts rest us o (from + C) (omega arith) g.1 c in
      omega (arith, r.2, chain_le hq (last_of o os) r.0 rest r.1 o (from + C) r.3)

  -- A whole trial that does not close shows that no chain does.
  pub open_fails : (os ts : List ℕ) → Trial C p q l os ts → (Closes C p q l os ts → ⊥) → Fails C p q l os
  open_fails [] ts g n = tt
  open_fails (o ∷ os) ts g n = λ us c. n (chain_closes o os us ts c g)

  -- Where no chain closes, no trial does.
  pub fails_open : (os ts : List ℕ) → Fails C p q l os → Trial C p q l os ts → Closes C p q l os ts → ⊥
  fails_open [] ts f g c = g
  fails_open (o ∷ os) [] f g c = g
  fails_open (o ∷ os) (t ∷ ts) f g c =
      let k : Chain (stays l) (windows C l) p q o t os ts o (t + C) = followers_chain o t os ts o (t + C) g.1 c in
      f ts (rw g.0 at k)
