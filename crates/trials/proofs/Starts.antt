-- If a list can be seated in an order, some trial closes: take the stay that lies least past its
-- window's first position, move all times back by as much, and begin there.
use Rattle.std.proofs.Common.{◌≡◌, ℕ, ◌+◌, ◌-◌, ◌*◌, ◌%◌, ◌<◌, ◌≤◌, ◌⊎◌, List, [], ◌∷◌, ◌++◌, map, get_or, sym, refl, ap, inl, inr, mul-le-mul_left, mul-add, arith}
use native.Mathlib.Nat.{add-mod_right}
use native.Mathlib.Decide.{dec_le}
use Rattle.std.proofs.lemmas.List.{append-nil}
use Rattle.placement.specs.Windows.{offset, Holds}
use Rattle.placement.specs.Stays.{Apart, no_stay}
use Rattle.placement.specs.declared.stays.Stay.{Stay}
use Rattle.placement.proofs.Offsets.{offset_back, offset_mod, holds_mod}
use Rattle.placement.proofs.Chains.{Chain, Closed, stays, windows, apart_le, chain_weaker}
use Rattle.placement.proofs.Turns.{chain_join, chain_later}

module _ (C p q : ℕ) (l : List Stay) where
  -- How far the stay i at t lies past its window's first position.
  past : ℕ → ℕ → ℕ
  past i t = offset C (get_or l i no_stay).window t

  -- In its window, and at least d past its first position.
  Low : ℕ → ℕ → ℕ → Type 0
  Low d i t = Holds C (get_or l i no_stay).window t × (d ≤ past i t)

  -- Some stay of the list lies d past.
  SomePast : ℕ → List ℕ → List ℕ → Type 0
  SomePast d [] ts = ⊥
  SomePast d (o ∷ os) [] = ⊥
  SomePast d (o ∷ os) (t ∷ ts) = (past o t ≡ d) ⊎ SomePast d os ts

  -- The least of a chain, its first stay counted.
  lowest : (a x : ℕ) (os ts : List ℕ) (b y : ℕ) → Chain (stays l) (windows C l) p q a x os ts b y → (d : ℕ) × (d ≤ past a x) × Chain (stays l) (Low d) p q a x os ts b y × ((past a x ≡ d) ⊎ SomePast d os ts)
  unfolding Low SomePast past
  lowest a x [] [] b y c = (past a x, omega arith, c, inl refl)
  lowest a x [] (t ∷ ts) b y c = absurd c
  lowest a x (o ∷ os) [] b y c = absurd c
  lowest a x (o ∷ os) (t ∷ ts) b y c =
      let r = lowest o t os ts b y c.2 in
      elim (dec_le (past a x) r.0) [
        | yes h ↦ (past a x, omega arith, ((c.0, omega (arith, h, r.1)), c.1, chain_weaker (stays l) (Low r.0) (Low (past a x)) (λ i u w. (w.0, omega (arith, h, w.1))) p q o t os ts b y r.2), inl refl)
        | no n ↦ (r.0, omega arith, ((c.0, r.1), c.1, r.2), inr r.3)
      ]

  -- A chain cut at a stay that lies d past.
  record Cut (d a x : ℕ) (os : List ℕ) (c z : ℕ) : Type 0 where
    pub before : List ℕ
    pub here : ℕ
    pub behind : List ℕ
    pub ts : List ℕ
    pub at : ℕ
    pub us : List ℕ
    pub is : os ≡ before ++ here ∷ behind
    pub lies : past here at ≡ d
    pub first : Chain (stays l) (Low d) p q a x before ts here at
    pub holds : Low d here at
    pub second : Chain (stays l) (Low d) p q here at behind us c z

  cut_at : (d a x : ℕ) (os ts : List ℕ) (c z : ℕ) → Chain (stays l) (Low d) p q a x os ts c z → SomePast d os ts → Cut d a x os c z
  unfolding SomePast
  cut_at d a x [] ts c z r h = absurd h
  cut_at d a x (o ∷ os) [] c z r h = absurd h
  cut_at d a x (o ∷ os) (t ∷ ts) c z r (inl e) =
      record { before = []; here = o; behind = os; ts = []; at = t; us = ts; is = refl; lies = e; first = r.1; holds = r.0; second = r.2 }
  cut_at d a x (o ∷ os) (t ∷ ts) c z r (inr h) =
      let k = cut_at d o t os ts c z r.2 h in
      record { before = o ∷ k.before; here = k.here; behind = k.behind; ts = t ∷ k.ts; at = k.at; us = k.us; is = ap (λ v. o ∷ v) k.is; lies = k.lies; first = (r.0, r.1, k.first); holds = k.holds; second = k.second }

  -- Both times moved back.
  apart_moved : (f y : ℕ) (a : Stay) (t x : ℕ) (c : Stay) (z z' : ℕ) → t + y ≤ x + f → z' + y ≡ z + f → Apart p q a x c z → Apart p q a t c z'
  apart_moved f y a t x c z z' h e r =
      let m : q * (z' + y) ≡ q * (z + f) = ap (λ n. q * n) e in
      omega (arith, mul-le-mul_left q h, mul-add q t y, mul-add q x f, mul-add q z' y, mul-add q z f)

  -- A chain moved back, so that the stay s, which lies least past, comes from y to its first position.
  chain_moved : (s y : ℕ) → 1 ≤ q → (get_or l s no_stay).window.from < C → (a x' x : ℕ) (os us : List ℕ) (c z' z : ℕ) → y ≤ x → x' + y ≡ x + (get_or l s no_stay).window.from → z' + y ≡ z + (get_or l s no_stay).window.from → Chain (stays l) (Low (past s y)) p q a x os us c z → Chain (stays l) (windows C l) p q a x' os (map (λ u. u + (get_or l s no_stay).window.from - y) us) c z'
  unfolding Low past
  chain_moved s y hq hf a x' x [] [] c z' z h e g r =
      apart_moved (get_or l s no_stay).window.from y (stays l a) x' x (stays l c) z z' (omega arith) g r
  chain_moved s y hq hf a x' x [] (u ∷ us) c z' z h e g r = absurd r
  chain_moved s y hq hf a x' x (o ∷ os) [] c z' z h e g r = absurd r
  chain_moved s y hq hf a x' x (o ∷ os) (u ∷ us) c z' z h e g r =
      let f = (get_or l s no_stay).window.from in
      let yu : y ≤ u = omega (arith, apart_le p q (stays l a) x (stays l o) u hq r.1) in (
        omega (arith, offset_back C (get_or l s no_stay).window (get_or l o no_stay).window y u hf yu r.0.1, r.0.0),
        apart_moved f y (stays l a) x' x (stays l o) u (u + f - y) (omega arith) (omega arith) r.1,
        chain_moved s y hq hf o (u + f - y) u os us c z' z yu (omega arith) g r.2,
      )

  low_later : (d i t : ℕ) → Low d i t → Low d i (t + C)
  unfolding Low past
  low_later d i t w =
      let e : t % C ≡ (t + C) % C = sym (add-mod_right t C) in
      (holds_mod C (get_or l i no_stay).window t (t + C) e w.0, omega (arith, w.1, offset_mod C (get_or l i no_stay).window t (t + C) e))

  -- Begun at some stay of the order, the list can be seated with that stay at its first position.
  pub record Start (os : List ℕ) : Type 0 where
    pub before : List ℕ
    pub here : ℕ
    pub behind : List ℕ
    pub is : os ≡ before ++ here ∷ behind
    pub closes : (get_or l here no_stay).window.from < C → (ts : List ℕ) × Chain (stays l) (windows C l) p q here (get_or l here no_stay).window.from (behind ++ before) ts here ((get_or l here no_stay).window.from + C)

  pub start : 1 ≤ q → (o : ℕ) (os ts : List ℕ) → Closed (stays l) (windows C l) C p q (o ∷ os) ts → Start (o ∷ os)
  unfolding Low
  start hq o os [] h = absurd h
  start hq o os (t ∷ ts) h =
      let r = lowest o t os ts o (t + C) h.2 in
      elim r.3 [
        | inl e ↦ record {
          before = [];
          here = o;
          behind = os;
          is = refl;
          closes = λ hf. (map (λ u. u + (get_or l o no_stay).window.from - t) ts, rw (append-nil os) (chain_moved o t hq hf o (get_or l o no_stay).window.from t os ts o ((get_or l o no_stay).window.from + C) (t + C) (omega arith) (omega arith) (omega arith) (rw (sym e) at r.2)));
        }
        | inr m ↦ turned_start r.0 r.1 (cut_at r.0 o t os ts o (t + C) r.2 m)
      ]
    where
      turned_start : (d : ℕ) → d ≤ past o t → Cut d o t os o (t + C) → Start (o ∷ os)
      turned_start d b k = record {
        before = o ∷ k.before;
        here = k.here;
        behind = k.behind;
        is = ap (λ v. o ∷ v) k.is;
        closes = λ hf.
            let f = (get_or l k.here no_stay).window.from in
            let us = k.us ++ (t + C) ∷ map (λ u. u + C) k.ts in
            let joined = chain_join (stays l) (Low d) p q k.here k.at k.behind k.us o (t + C) k.before (map (λ u. u + C) k.ts) k.here (k.at + C) k.second (low_later d o t (h.1, b)) (chain_later (stays l) (Low d) p q C (low_later d) o t k.before k.ts k.here k.at k.first) in
            (map (λ u. u + f - k.at) us, chain_moved k.here k.at hq hf k.here f k.at (k.behind ++ o ∷ k.before) us k.here (f + C) (k.at + C) (omega arith) (omega arith) (omega arith) (rw k.lies joined));
      }
