-- The printed rule: positions fit exactly if some lawful seating has them. One way, stays that follow
-- each other round the ring do not overlap. The other way, stay 0 is put first and every other at the
-- least time of its position after it; two that do not overlap come one after the other, so they are
-- put into the chain from stay 0 to itself one ring later, one by one.
use Rattle.std.proofs.Common.{◌≡◌, ℕ, zero, suc, ◌+◌, ◌*◌, ◌%◌, ◌<◌, ◌≤◌, ◌⊎◌, List, [], ◌∷◌, length, get_or, sym, refl, ap, ◌∙◌, subst, inl, inr, mod-eq_of_lt, mul-pos, mul-add, arith}
use native.Mathlib.Nat.{mod-mod, add-mod_right}
use native.Mathlib.Decide.{dec_lt}
use Rattle.placement.specs.Windows.{Holds}
use Rattle.placement.specs.Stays.{Apart, StayBounds, no_stay}
use Rattle.placement.specs.Seatings.{Plan, Order, Seated, Lawful, kth, planned}
use Rattle.placement.specs.Arcs.{Covers, Overlap, Fits, InBounds, Positions, PrintedRule, OneRider}
use Rattle.placement.specs.declared.stays.Stay.{Stay}
use Rattle.placement.proofs.Offsets.{holds_mod}
use Rattle.placement.proofs.Chains.{Chain, stays, windows, closed_seated, chain_weaker, chain_holds, lawful_on, lawful_round}
use Rattle.placement.proofs.Distinct.{Distinct, distinct_at, order_holds}
use Rattle.placement.proofs.Meets.{apart_clear, clear_apart, covers_mod, covers_lift}
use Rattle.placement.proofs.Inserts.{lift, insert, chain_out}

-- no two stays of a lawful seating overlap
pub lawful_clear : (C p q : ℕ) (l : List Stay) (os ts : List ℕ) → Seated C p q l (planned os ts) → (j k : ℕ) → j < k → k < length l → Overlap C p q (kth l os j) (get_or ts j 0) (kth l os k) (get_or ts k 0) → ⊥
lawful_clear C p q l os ts h j k b n o =
    apart_clear C p q (kth l os j) (get_or ts j 0) (kth l os k) (get_or ts k 0) (lawful_on C p q l os ts h j k b n) (lawful_round C p q l os ts h j k (omega arith) n) o

pub rider : (C p q : ℕ) (l : List Stay) (os ts : List ℕ) → Seated C p q l (planned os ts) → OneRider C p q l (planned os ts)
rider C p q l os ts h i j k bi bj ci cj = elim (dec_lt i j) [
  | yes b ↦ absurd (lawful_clear C p q l os ts h i j b bj (k, ci, cj))
  | no n ↦ elim (dec_lt j i) [
    | yes b ↦ absurd (lawful_clear C p q l os ts h j i b bi (k, cj, ci))
    | no m ↦ omega arith
  ]
]

-- a lawful seating's positions fit
pub fits_from : (C p q : ℕ) (l : List Stay) (xs os ts : List ℕ) → Seated C p q l (planned os ts) → Positions C (length l) (planned os ts) xs → Fits C p q l xs
unfolding Seated Lawful
fits_from C p q l xs os ts h ps = record { within = within; clear = clear; alone = alone }
  where
    -- a stay at its position, from its place in the order
    within : (k : ℕ) → k < length l → Holds C (get_or l k no_stay).window (get_or xs k 0)
    within k b =
        let r = order_holds (length l) os h.0 k b in
        let P : ℕ → Type 0 = λ i. Holds C (get_or l i no_stay).window (get_or xs i 0) in
        let w = h.3 r.0 r.1 in
        let e = ps r.0 r.1 in
        let Q : ℕ → Type 0 = λ x. Holds C (kth l os r.0).window x in
        subst P r.2 (subst Q e (holds_mod C (kth l os r.0).window (get_or ts r.0 0) (get_or ts r.0 0 % C) (sym (mod-mod (get_or ts r.0 0) C)) w))

    lifted : (i k : ℕ) → i < length l → Covers C p q (kth l os i) (get_or xs (get_or os i 0) 0) k → Covers C p q (kth l os i) (get_or ts i 0) k
    lifted i k b c =
        let P : ℕ → Type 0 = λ x. Covers C p q (kth l os i) x k in
        covers_lift C p q (kth l os i) (get_or ts i 0) k (subst P (sym (ps i b)) c)

    parted : (i j : ℕ) → i < length l → j < length l → (get_or os i 0 ≡ get_or os j 0 → ⊥) → Overlap C p q (kth l os i) (get_or xs (get_or os i 0) 0) (kth l os j) (get_or xs (get_or os j 0) 0) → ⊥
    parted i j bi bj n o =
        let ci = lifted i o.0 bi o.1 in
        let cj = lifted j o.0 bj o.2 in
        elim (dec_lt i j) [
          | yes b ↦ lawful_clear C p q l os ts h i j b bj (o.0, ci, cj)
          | no m ↦ elim (dec_lt j i) [
            | yes b ↦ lawful_clear C p q l os ts h j i b bi (o.0, cj, ci)
            | no k ↦ let e : i ≡ j = omega arith in n (ap (λ v. get_or os v 0) e)
          ]
        ]

    clear : (j k : ℕ) → j < length l → k < length l → (j ≡ k → ⊥) → Overlap C p q (get_or l j no_stay) (get_or xs j 0) (get_or l k no_stay) (get_or xs k 0) → ⊥
    clear j k bj bk n =
        let r = order_holds (length l) os h.0 j bj in
        let s = order_holds (length l) os h.0 k bk in
        let P : ℕ → Type 0 = λ i. (i ≡ k → ⊥) → Overlap C p q (get_or l i no_stay) (get_or xs i 0) (get_or l k no_stay) (get_or xs k 0) → ⊥ in
        let Q : ℕ → Type 0 = λ i. (get_or os r.0 0 ≡ i → ⊥) → Overlap C p q (kth l os r.0) (get_or xs (get_or os r.0 0) 0) (get_or l i no_stay) (get_or xs i 0) → ⊥ in
        subst P r.2 (subst Q s.2 (parted r.0 s.0 r.1 s.1)) n

    alone : (k : ℕ) → k < length l → q * C < p * ((get_or l k no_stay).lead + (get_or l k no_stay).trail) → ⊥
    alone k b =
        let r = order_holds (length l) os h.0 k b in
        let P : ℕ → Type 0 = λ i. q * C < p * ((get_or l i no_stay).lead + (get_or l i no_stay).trail) → ⊥ in
        let s = kth l os r.0 in
        let f = lawful_round C p q l os ts h r.0 r.0 (omega arith) r.1 in
        subst P r.2 (λ m. omega (arith, m, f, mul-add q (get_or ts r.0 0) C, mul-add p s.lead s.trail, mul-add p s.trail s.lead))

-- an element of a stage: an index below m, at its position, in its window
abbrev Placed : ℕ → List Stay → List ℕ → ℕ → ℕ → ℕ → Type 0
Placed C l xs m o u = (1 ≤ o) × (o < m) × Holds C (get_or l o no_stay).window u × (u % C ≡ get_or xs o 0)

-- the stays below m, in some order
record Stage (C p q : ℕ) (l : List Stay) (xs : List ℕ) (m : ℕ) : Type 0 where
  pub order : List ℕ
  pub times : List ℕ
  pub chain : Chain (stays l) (Placed C l xs m) p q 0 (get_or xs 0 0) order times 0 (get_or xs 0 0 + C)
  pub long : suc (length order) ≡ m
  pub distinct : Distinct order

module _ (C p q : ℕ) (l : List Stay) (xs : List ℕ) (hC : 1 ≤ C) (hp : 1 ≤ p) (hq : 1 ≤ q) (good : (k : ℕ) → k < length l → StayBounds C (get_or l k no_stay)) (low : (k : ℕ) → k < length l → get_or xs k 0 < C) (fits : Fits C p q l xs) where
  busy : (k : ℕ) → k < length l → 1 ≤ p * ((get_or l k no_stay).lead + (get_or l k no_stay).trail)
  busy k b = mul-pos hp (good k b).some

  -- stays at times of their positions follow one another, one way or the other
  sides : (i j t u : ℕ) → i < length l → j < length l → (i ≡ j → ⊥) → t % C ≡ get_or xs i 0 → u % C ≡ get_or xs j 0 → Apart p q (get_or l i no_stay) t (get_or l j no_stay) u ⊎ Apart p q (get_or l j no_stay) u (get_or l i no_stay) t
  sides i j t u bi bj n ei ej =
      clear_apart C p q (get_or l i no_stay) t (get_or l j no_stay) u (mul-pos hq hC) (busy i bi) (busy j bj) (λ o.
      let a = covers_mod C p q (get_or l i no_stay) t o.0 o.1 in
      let b = covers_mod C p q (get_or l j no_stay) u o.0 o.2 in
      let P : ℕ → Type 0 = λ x. Covers C p q (get_or l i no_stay) x o.0 in
      let Q : ℕ → Type 0 = λ x. Covers C p q (get_or l j no_stay) x o.0 in
      fits.clear i j bi bj n (o.0, subst P ei a, subst Q ej b))

  stage : (m : ℕ) → suc m ≤ length l → Stage C p q l xs (suc m)
  stage zero h =
      let s = get_or l 0 no_stay in
      record {
        order = [];
        times = [];
        chain = omega (arith, fits.alone 0 h, mul-add q (get_or xs 0 0) C, mul-add p s.lead s.trail, mul-add p s.trail s.lead);
        long = refl;
        distinct = tt;
      }
  stage (suc m) h =
      let r = stage m (omega arith) in
      let i = suc m in
      let x = get_or xs 0 0 in
      let f = stays l in
      let t = lift C p q (f 0) x (f i) (get_or xs i 0) hC hq (low i h) in
      let e : (x + C) % C ≡ get_or xs 0 0 = add-mod_right x C ∙ mod-eq_of_lt (low 0 (omega arith)) in
      let V = Placed C l xs (suc m) in
      let W = Placed C l xs (suc (suc m)) in
      let w : Holds C (f i).window t.at = holds_mod C (f i).window (get_or xs i 0) t.at (mod-eq_of_lt (low i h) ∙ sym t.position) (fits.within i h) in
      let back : Apart p q (f i) t.at (f 0) (x + C) = elim (sides 0 i (x + C) t.at (omega arith) h (λ z. omega arith) e t.position) [ inl k ↦ absurd (t.soon k) | inr k ↦ k ] in
      let n = insert f V W p q i t.at
      (λ o u v. sides i o t.at u h (omega (arith, v.1)) (λ z. omega (arith, v.1)) t.position v.3)
      (λ o u v. (v.0, omega (arith, v.1), v.2, v.3))
      (omega arith, omega arith, w, t.position)
      0 x r.order r.times 0 (x + C) r.chain t.after back in
      record {
        order = n.order;
        times = n.times;
        chain = n.chain;
        long = ap suc (n.long ∙ r.long);
        distinct = n.distinct (chain_out f V p q i (λ o u v z. omega (arith, v.1)) 0 x r.order r.times 0 (x + C) r.chain) r.distinct;
      }

  seated : (m : ℕ) → suc m ≡ length l → (s : Plan) × Lawful C p q l s × Positions C (length l) s xs
  unfolding Seated Lawful
  seated m e =
      let b : 0 < length l = omega arith in
      let r = stage m (omega arith) in
      let x = get_or xs 0 0 in
      let f = stays l in
      let V = Placed C l xs (suc m) in
      let n : suc (length r.order) ≡ length l = r.long ∙ e in
      let held = chain_holds f V p q 0 0 x r.order r.times 0 (x + C) r.chain in
      let d : Distinct (0 ∷ r.order) = (chain_out f V p q 0 (λ o u v z. omega (arith, v.0)) 0 x r.order r.times 0 (x + C) r.chain, r.distinct) in
      let o : Order (length l) (0 ∷ r.order) = (n, below r.order r.times n held, λ j k b. distinct_at (0 ∷ r.order) d j k (b.0, omega (arith, b.1))) in (
        planned (0 ∷ r.order) (x ∷ r.times),
        (closed_seated C p q l (0 ∷ r.order) (x ∷ r.times) o (low 0 b, fits.within 0 b, chain_weaker f V (windows C l) (λ o u v. v.2) p q 0 x r.order r.times 0 (x + C) r.chain), refl),
        placed r.order r.times n held,
      )
    where
      below : (os ts : List ℕ) → suc (length os) ≡ length l → ((k : ℕ) → k < length os → Placed C l xs (suc m) (get_or os k 0) (get_or ts k 0)) → (k : ℕ) → k < length l → get_or (0 ∷ os) k 0 < length l
      below os ts n held zero b = b
      below os ts n held (suc k) b = omega (arith, (held k (omega arith)).1)

      placed : (os ts : List ℕ) → suc (length os) ≡ length l → ((k : ℕ) → k < length os → Placed C l xs (suc m) (get_or os k 0) (get_or ts k 0)) → Positions C (length l) (planned (0 ∷ os) (get_or xs 0 0 ∷ ts)) xs
      placed os ts n held zero b = mod-eq_of_lt (low 0 b)
      placed os ts n held (suc k) b = (held k (omega arith)).3

pub printed : PrintedRule
unfolding Seated Lawful PrintedRule
printed C p q l xs hC hp hq good on = (there l good on.1, λ s h ps. fits_from C p q l xs s.order s.times h.0 ps)
  where
    there : (l : List Stay) → InBounds C l → ((k : ℕ) → k < length l → get_or xs k 0 < C) → Fits C p q l xs → (s : Plan) × Lawful C p q l s × Positions C (length l) s xs
    there [] good low f =
        (planned [] [], (closed_seated C p q [] [] [] (refl, (λ k b. absurd (omega arith)), λ j k b. absurd (omega (arith, b.1))) tt, refl), λ k b. absurd (omega arith))
    there (s ∷ ss) good low f = seated C p q (s ∷ ss) xs hC hp hq good low f (length ss) refl
