-- Turning a chain that closes, and leaving a stay out of it. Of the windows only one thing is asked:
-- that whole rings do not matter.
use Rattle.std.proofs.Common.{◌≡◌, ℕ, zero, suc, ◌+◌, ◌-◌, ◌*◌, ◌/◌, ◌%◌, ◌<◌, ◌≤◌, List, [], ◌∷◌, ◌++◌, map, length, get_or, take, drop, sym, refl, ap, subst, mod-lt, mul-add, arith}
use native.Mathlib.Nat.{add-mod_right, add-mul-mod_self_right}
use Rattle.std.proofs.lemmas.Nat.{div-add-mod'}
use Rattle.std.proofs.lemmas.List.{append-nil, drop_at, take_at, drop_more, take-append-drop, length-take-le}
use Rattle.std.specs.List.{remove}
use Rattle.placement.specs.Stays.{Apart}
use Rattle.placement.specs.Seatings.{turned, lowered, begun}
use Rattle.placement.specs.declared.stays.Stay.{Stay}
use Rattle.placement.proofs.Chains.{Chain, Closed, apart_through, apart_later, apart_le}

-- whole rings do not matter to W
abbrev pub Even : {X : Type 0} → ℕ → (X → ℕ → Type 0) → Type 0
Even {X} C W = (s : X) (t u : ℕ) → t % C ≡ u % C → W s t → W s u

-- a chain that closes, wherever on the line it begins
abbrev pub Loop : {X : Type 0} → (X → Stay) → (X → ℕ → Type 0) → ℕ → ℕ → ℕ → List X → List ℕ → Type 0
Loop f W C p q [] [] = Unit {0}
Loop f W C p q [] (t ∷ ts) = ⊥
Loop f W C p q (s ∷ ss) [] = ⊥
Loop f W C p q (s ∷ ss) (t ∷ ts) = W s t × Chain f W p q s t ss ts s (t + C)

apart_less : (p q D : ℕ) (a : Stay) (x : ℕ) (b : Stay) (y : ℕ) → 1 ≤ q → D ≤ x → Apart p q a x b y → Apart p q a (x - D) b (y - D)
apart_less p q D a x b y hq h f =
    let l : x ≤ y = apart_le p q a x b y hq f in
    let ex : x - D + D ≡ x = omega arith in
    let ey : y - D + D ≡ y = omega arith in
    let mx : q * (x - D + D) ≡ q * x = ap (λ v. q * v) ex in
    let my : q * (y - D + D) ≡ q * y = ap (λ v. q * v) ey in
    omega (arith, mul-add q (x - D) D, mul-add q (y - D) D)

-- a chain cut at a stay
pub record Parts {X : Type 0} (f : X → Stay) (W : X → ℕ → Type 0) (p q : ℕ) (a : X) (x : ℕ) (ss : List X) (b : X) (rest : List X) (us : List ℕ) (c : X) (z : ℕ) : Type 0 where
  pub ts : List ℕ
  pub at : ℕ
  pub vs : List ℕ
  pub is : us ≡ ts ++ at ∷ vs
  pub long : length ts ≡ length ss
  pub first : Chain f W p q a x ss ts b at
  pub holds : W b at
  pub second : Chain f W p q b at rest vs c z

module _ {X : Type 0} (f : X → Stay) (W : X → ℕ → Type 0) (p q : ℕ) where
  pub chain_cut : (a : X) (x : ℕ) (ss : List X) (b : X) (rest : List X) (us : List ℕ) (c : X) (z : ℕ) → Chain f W p q a x (ss ++ b ∷ rest) us c z → Parts f W p q a x ss b rest us c z
  chain_cut a x [] b rest [] c z r = absurd r
  chain_cut a x [] b rest (u ∷ us) c z r = record { ts = []; at = u; vs = us; is = refl; long = refl; first = r.1; holds = r.0; second = r.2 }
  chain_cut a x (s ∷ ss) b rest [] c z r = absurd r
  chain_cut a x (s ∷ ss) b rest (u ∷ us) c z r =
      let k = chain_cut s u ss b rest us c z r.2 in
      record { ts = u ∷ k.ts; at = k.at; vs = k.vs; is = ap (λ v. u ∷ v) k.is; long = ap suc k.long; first = (r.0, r.1, k.first); holds = k.holds; second = k.second }

  pub chain_join : (a : X) (x : ℕ) (ss : List X) (ts : List ℕ) (b : X) (y : ℕ) (ss' : List X) (ts' : List ℕ) (c : X) (z : ℕ) → Chain f W p q a x ss ts b y → W b y → Chain f W p q b y ss' ts' c z → Chain f W p q a x (ss ++ b ∷ ss') (ts ++ y ∷ ts') c z
  chain_join a x [] [] b y ss' ts' c z r w n = (w, r, n)
  chain_join a x [] (t ∷ ts) b y ss' ts' c z r w n = absurd r
  chain_join a x (s ∷ ss) [] b y ss' ts' c z r w n = absurd r
  chain_join a x (s ∷ ss) (t ∷ ts) b y ss' ts' c z r w n = (r.0, r.1, chain_join s t ss ts b y ss' ts' c z r.2 w n)

  pub chain_later : (m : ℕ) → ((s : X) (t : ℕ) → W s t → W s (t + m)) → (a : X) (x : ℕ) (ss : List X) (ts : List ℕ) (b : X) (y : ℕ) → Chain f W p q a x ss ts b y → Chain f W p q a (x + m) ss (map (λ t. t + m) ts) b (y + m)
  chain_later m k a x [] [] b y r = apart_later p q (f a) x (f b) y m r
  chain_later m k a x [] (t ∷ ts) b y r = absurd r
  chain_later m k a x (s ∷ ss) [] b y r = absurd r
  chain_later m k a x (s ∷ ss) (t ∷ ts) b y r = (k s t r.0, apart_later p q (f a) x (f s) t m r.1, chain_later m k s t ss ts b y r.2)

  chain_less : (D : ℕ) → 1 ≤ q → ((s : X) (t : ℕ) → D ≤ t → W s t → W s (t - D)) → (a : X) (x : ℕ) (ss : List X) (ts : List ℕ) (b : X) (y : ℕ) → D ≤ x → Chain f W p q a x ss ts b y → Chain f W p q a (x - D) ss (map (λ t. t - D) ts) b (y - D)
  chain_less D hq k a x [] [] b y h r = apart_less p q D (f a) x (f b) y hq h r
  chain_less D hq k a x [] (t ∷ ts) b y h r = absurd r
  chain_less D hq k a x (s ∷ ss) [] b y h r = absurd r
  chain_less D hq k a x (s ∷ ss) (t ∷ ts) b y h r =
      let l : D ≤ t = omega (arith, apart_le p q (f a) x (f s) t hq r.1) in
      (k s t l r.0, apart_less p q D (f a) x (f s) t hq h r.1, chain_less D hq k s t ss ts b y l r.2)

  -- without the first stay, and onto another end
  chain_past : (a : X) (x : ℕ) (b : X) (y : ℕ) (ss : List X) (ts : List ℕ) (c : X) (z : ℕ) → Apart p q (f a) x (f b) y → Chain f W p q b y ss ts c z → Chain f W p q a x ss ts c z
  chain_past a x b y [] [] c z n r = apart_through p q (f a) x (f b) y (f c) z n r
  chain_past a x b y [] (t ∷ ts) c z n r = r
  chain_past a x b y (s ∷ ss) [] c z n r = r
  chain_past a x b y (s ∷ ss) (t ∷ ts) c z n r = (r.0, apart_through p q (f a) x (f b) y (f s) t n r.1, r.2)

  chain_onto : (a : X) (x : ℕ) (ss : List X) (ts : List ℕ) (b : X) (y : ℕ) (c : X) (z : ℕ) → Chain f W p q a x ss ts b y → Apart p q (f b) y (f c) z → Chain f W p q a x ss ts c z
  chain_onto a x [] [] b y c z r n = apart_through p q (f a) x (f b) y (f c) z r n
  chain_onto a x [] (t ∷ ts) b y c z r n = r
  chain_onto a x (s ∷ ss) [] b y c z r n = r
  chain_onto a x (s ∷ ss) (t ∷ ts) b y c z r n = (r.0, r.1, chain_onto s t ss ts b y c z r.2 n)

  chain_left : (k : ℕ) (a : X) (x : ℕ) (ss : List X) (ts : List ℕ) (c : X) (z : ℕ) → k < length ss → Chain f W p q a x ss ts c z → Chain f W p q a x (remove ss k) (remove ts k) c z
  chain_left k a x [] ts c z h r = absurd (omega arith)
  chain_left k a x (s ∷ ss) [] c z h r = absurd r
  chain_left zero a x (s ∷ ss) (t ∷ ts) c z h r = chain_past a x s t ss ts c z r.1 r.2
  chain_left (suc k) a x (s ∷ ss) (t ∷ ts) c z h r = (r.0, r.1, chain_left k s t ss ts c z (omega arith) r.2)

  -- a loop with one stay left out
  pub loop_left : (C k : ℕ) (ss : List X) (ts : List ℕ) → k < length ss → Loop f W C p q ss ts → Loop f W C p q (remove ss k) (remove ts k)
  loop_left C k [] ts h r = absurd (omega arith)
  loop_left C k (s ∷ ss) [] h r = absurd r
  loop_left C zero (s ∷ []) (t ∷ []) h r = tt
  loop_left C zero (s ∷ []) (t ∷ u ∷ us) h r = absurd r.1
  loop_left C zero (s ∷ b ∷ ss) (t ∷ []) h r = absurd r.1
  loop_left C zero (s ∷ b ∷ ss) (t ∷ u ∷ us) h r = (r.1.0, chain_onto b u ss us s (t + C) b (u + C) r.1.2 (apart_later p q (f s) t (f b) u C r.1.1))
  loop_left C (suc k) (s ∷ ss) (t ∷ ts) h r = (r.0, chain_left k s t ss ts s (t + C) (omega arith) r.1)

  module _ (C : ℕ) (hC : 1 ≤ C) (hq : 1 ≤ q) (even : Even C W) where
    later : (s : X) (t : ℕ) → W s t → W s (t + C)
    later s t w = even s t (t + C) (sym (add-mod_right t C)) w

    -- whole rings taken off
    closed_lowered : (a : X) (x : ℕ) (ss : List X) (ts : List ℕ) → Loop f W C p q (a ∷ ss) (x ∷ ts) → Closed f W C p q (a ∷ ss) (lowered C (x ∷ ts))
    closed_lowered a x ss ts r =
        let D = x / C * C in
        let e : x / C * C + x % C ≡ x = div-add-mod' x C in
        let down : (s : X) (t : ℕ) → D ≤ t → W s t → W s (t - D) = λ s t h w.
        let g : t - D + D ≡ t = omega arith in
        let m : (t - D + D) % C ≡ (t - D) % C = add-mul-mod_self_right (t - D) (x / C) C in
        let m' : t % C ≡ (t - D) % C = rw g at m in
        even s t (t - D) m' w in
        let n : x + C - D ≡ x - D + C = omega arith in
        let P : ℕ → Type 0 = λ v. Chain f W p q a (x - D) ss (map (λ t. t - D) ts) a v in
        (omega (arith, mod-lt x hC), down a x (omega arith) r.0, subst P n (chain_less D hq down a x ss ts a (x + C) (omega arith) r.1))

    turn_parts : (a : X) (x : ℕ) (before : List X) (b : X) (behind : List X) (us : List ℕ) → Loop f W C p q (a ∷ (before ++ b ∷ behind)) (x ∷ us) → Closed f W C p q (turned (suc (length before)) (a ∷ (before ++ b ∷ behind))) (begun C (suc (length before)) (x ∷ us))
    turn_parts a x before b behind us r =
        let n = length before in
        let k = chain_cut a x before b behind us a (x + C) r.1 in
        let j = chain_join b k.at behind k.vs a (x + C) before (map (λ u. u + C) k.ts) b (k.at + C) k.second (later a x r.0) (chain_later C later a x before k.ts b k.at k.first) in
        let L = closed_lowered b k.at (behind ++ a ∷ before) (k.vs ++ (x + C) ∷ map (λ u. u + C) k.ts) (k.holds, j) in
        let eo : turned (suc n) (a ∷ (before ++ b ∷ behind)) ≡ b ∷ (behind ++ a ∷ before) = rw (drop_at before (b ∷ behind) n refl, take_at before (b ∷ behind) n refl) refl in
        let Q : List ℕ → Type 0 = λ v. drop n v ++ map (λ u. u + C) (x ∷ take n v) ≡ k.at ∷ (k.vs ++ (x + C) ∷ map (λ u. u + C) k.ts) in
        let et : Q us = subst Q (sym k.is) (rw (drop_at k.ts (k.at ∷ k.vs) n k.long, take_at k.ts (k.at ∷ k.vs) n k.long) refl) in
        rw (eo, et) L

    pub closed_turned : (k : ℕ) (ss : List X) (ts : List ℕ) → k < length ss → Loop f W C p q ss ts → Closed f W C p q (turned k ss) (begun C k ts)
    closed_turned k [] ts h r = absurd (omega arith)
    closed_turned k (a ∷ ss) [] h r = absurd r
    closed_turned zero (a ∷ ss) (x ∷ ts) h r = rw (append-nil ss, append-nil ts) (closed_lowered a x ss ts r)
    closed_turned (suc k) (a ∷ ss) (x ∷ ts) h r =
        let b : k < length ss = omega arith in
        let e : take k ss ++ (get_or ss k a ∷ drop (k + 1) ss) ≡ ss = rw (sym (drop_more ss k a b)) (take-append-drop k ss) in
        let n : length (take k ss) ≡ k = length-take-le k ss (omega arith) in
        let P : List X → Type 0 = λ v. Loop f W C p q (a ∷ v) (x ∷ ts) in
        let t = turn_parts a x (take k ss) (get_or ss k a) (drop (k + 1) ss) ts (subst P (sym e) r) in
        rw (n, e) at t

-- more of each stay
pub chain_and : {X : Type 0} (f : X → Stay) (W V : X → ℕ → Type 0) (p q : ℕ) (d : X) (a : X) (x : ℕ) (ss : List X) (ts : List ℕ) (b : X) (y : ℕ) → Chain f W p q a x ss ts b y → ((k : ℕ) → k < length ss → V (get_or ss k d) (get_or ts k 0)) → Chain f (λ s t. W s t × V s t) p q a x ss ts b y
chain_and f W V p q d a x [] [] b y r h = r
chain_and f W V p q d a x [] (t ∷ ts) b y r h = r
chain_and f W V p q d a x (s ∷ ss) [] b y r h = r
chain_and f W V p q d a x (s ∷ ss) (t ∷ ts) b y r h = ((r.0, h 0 (omega arith)), r.1, chain_and f W V p q d s t ss ts b y r.2 (λ k n. h (suc k) (omega arith)))

pub loop_and : {X : Type 0} (f : X → Stay) (W V : X → ℕ → Type 0) (C p q : ℕ) (d : X) (ss : List X) (ts : List ℕ) → Loop f W C p q ss ts → ((k : ℕ) → k < length ss → V (get_or ss k d) (get_or ts k 0)) → Loop f (λ s t. W s t × V s t) C p q ss ts
loop_and f W V C p q d [] [] r h = tt
loop_and f W V C p q d [] (t ∷ ts) r h = r
loop_and f W V C p q d (s ∷ ss) [] r h = r
loop_and f W V C p q d (s ∷ ss) (t ∷ ts) r h = ((r.0, h 0 (omega arith)), chain_and f W V p q d s t ss ts s (t + C) r.1 (λ k n. h (suc k) (omega arith)))

-- each stay under another name
pub chain_renamed : {X Y : Type 0} (f : X → Stay) (W : X → ℕ → Type 0) (g : Y → Stay) (V : Y → ℕ → Type 0) (r : X → Y) → ((s : X) (t : ℕ) → W s t → V (r s) t × (f s ≡ g (r s))) → (p q : ℕ) (a : X) (x : ℕ) (ss : List X) (ts : List ℕ) (b : X) (y : ℕ) → f a ≡ g (r a) → f b ≡ g (r b) → Chain f W p q a x ss ts b y → Chain g V p q (r a) x (map r ss) ts (r b) y
chain_renamed f W g V r h p q a x [] [] b y ea eb c = renamed p q x y (f a) (g (r a)) (f b) (g (r b)) ea eb c
  where
    renamed : (p q x y : ℕ) (a a' b b' : Stay) → a ≡ a' → b ≡ b' → Apart p q a x b y → Apart p q a' x b' y
    renamed p q x y a a' b b' ea eb n = let P : Stay → Type 0 = λ s. Apart p q s x b' y in let Q : Stay → Type 0 = λ s. Apart p q a x s y in subst P ea (subst Q eb n)
chain_renamed f W g V r h p q a x [] (t ∷ ts) b y ea eb c = absurd c
chain_renamed f W g V r h p q a x (s ∷ ss) [] b y ea eb c = absurd c
chain_renamed f W g V r h p q a x (s ∷ ss) (t ∷ ts) b y ea eb c =
    let k = h s t c.0 in
    let P : Stay → Type 0 = λ u. Apart p q u x (g (r s)) t in
    let Q : Stay → Type 0 = λ u. Apart p q (f a) x u t in
    (k.0, subst P ea (subst Q k.1 c.1), chain_renamed f W g V r h p q s t ss ts b y k.1 eb c.2)

pub loop_renamed : {X Y : Type 0} (f : X → Stay) (W : X → ℕ → Type 0) (g : Y → Stay) (V : Y → ℕ → Type 0) (r : X → Y) → ((s : X) (t : ℕ) → W s t → V (r s) t × (f s ≡ g (r s))) → (C p q : ℕ) (ss : List X) (ts : List ℕ) → Loop f W C p q ss ts → Loop g V C p q (map r ss) ts
loop_renamed f W g V r h C p q [] [] c = tt
loop_renamed f W g V r h C p q [] (t ∷ ts) c = absurd c
loop_renamed f W g V r h C p q (s ∷ ss) [] c = absurd c
loop_renamed f W g V r h C p q (s ∷ ss) (t ∷ ts) c =
    let k = h s t c.0 in
    (k.0, chain_renamed f W g V r h p q s t ss ts s (t + C) k.1 k.1 c.1)
