-- From complete roads to seatings and back.
use Rattle.std.proofs.Common.{◌≡◌, ℕ, suc, ◌+◌, ◌*◌, ◌<◌, ◌≤◌, List, [], ◌∷◌, ◌++◌, length, get_or, sym, refl, ap, ◌∙◌, subst, mul-add, arith, length-append}
use Rattle.std.proofs.lemmas.List.{drop_at, take_at}
use Rattle.placement.specs.Stays.{no_stay}
use Rattle.placement.specs.Seatings.{Order, Plan, Seated, Lawful, planned, turned}
use Rattle.placement.specs.Arcs.{InBounds}
use Rattle.placement.specs.declared.stays.Stay.{Stay}
use Rattle.placement.proofs.Offsets.{offset_from}
use Rattle.placement.proofs.Chains.{Chain, stays, windows, closed_from, closed_seated, chain_end}
use Rattle.placement.proofs.Orders.{order_turned}
use Rattle.trials.proofs.Starts.{start}
use Rattle.search.specs.Roads.{end_of, Road, Room}
use Rattle.search.specs.Partials.{Good, Grown, Full, Root, Begins, Reads, nth}
use Rattle.search.specs.declared.partials.Partial.{Partial}
use Rattle.search.proofs.Roads.{good_last, full_whole}
use Rattle.search.proofs.Counts.{order_counted, counted_order, counted_long, counted_exact, exact_counted}

module _ (C p q : ℕ) (l : List Stay) (room : ℕ) where
  -- A chain is a road, counted in ends.
  chain_road : (a x : ℕ) (js ts : List ℕ) (b y : ℕ) → room + p * (get_or l b no_stay).lead ≡ q * y → Chain (stays l) (windows C l) p q a x js ts b y → Road C p q l room (end_of p q (get_or l a no_stay) x) js ts
  chain_road a x [] [] b y e c = omega (arith, mul-add p (get_or l a no_stay).trail (get_or l b no_stay).lead)
  chain_road a x [] (t ∷ ts) b y e c = c
  chain_road a x (j ∷ js) [] b y e c = c
  chain_road a x (j ∷ js) (t ∷ ts) b y e c =
      (c.0, omega (arith, mul-add p (get_or l a no_stay).trail (get_or l j no_stay).lead, c.1), chain_road j t js ts b y e c.2)

  road_chain : (a x : ℕ) (js ts : List ℕ) (b y : ℕ) → room + p * (get_or l b no_stay).lead ≡ q * y → Road C p q l room (end_of p q (get_or l a no_stay) x) js ts → Chain (stays l) (windows C l) p q a x js ts b y
  road_chain a x [] [] b y e c = omega (arith, mul-add p (get_or l a no_stay).trail (get_or l b no_stay).lead)
  road_chain a x [] (t ∷ ts) b y e c = c
  road_chain a x (j ∷ js) [] b y e c = c
  road_chain a x (j ∷ js) (t ∷ ts) b y e c =
      (c.0, omega (arith, mul-add p (get_or l a no_stay).trail (get_or l j no_stay).lead, c.1), road_chain j t js ts b y e c.2)

  -- The first partial seating, completed, is a seating.
  begins_seated : (t : ℕ) (b : Partial) (os ts : List ℕ) → t < length l → (get_or l t no_stay).window.from < C → Room C p q (get_or l t no_stay) room → Root p q (get_or l t no_stay) t b → Begins C p q l room b os ts → Seated C p q l (planned os ts)
  begins_seated t b [] ts ht hf e r g = absurd g
  begins_seated t b (o ∷ os) [] ht hf e r g = absurd g
  begins_seated t b (o ∷ os) (u ∷ ts) ht hf e r g =
      let w = g.2 in
      let f = (get_or l t no_stay).window.from in
      let R : ℕ → Type 0 = λ e. Road C p q l room e os ts in
      let c = road_chain t f os ts t (f + C) e (subst R r.ends w.road) in
      let order = counted_order (length l) (t ∷ os) (exact_counted (length l) t b.set os r.only ht w.exact) in
      let s = closed_seated C p q l (t ∷ os) (f ∷ ts) order (hf, omega (arith, offset_from C (get_or l t no_stay).window hf), c) in
      let P : ℕ → Type 0 = λ i. Seated C p q l (planned (i ∷ os) (f ∷ ts)) in
      let Q : ℕ → Type 0 = λ i. Seated C p q l (planned (o ∷ os) (i ∷ ts)) in
      subst Q (sym (g.1 ∙ r.time)) (subst P (sym (g.0 ∙ r.last)) s)

  -- A seating that has t first, at its window's first position, completes it.
  seated_good : (t : ℕ) (b : Partial) (os ts : List ℕ) → Room C p q (get_or l t no_stay) room → Root p q (get_or l t no_stay) t b → Seated C p q l (planned (t ∷ os) ((get_or l t no_stay).window.from ∷ ts)) → Good C p q l room 1 b.set b.end
  unfolding Seated
  seated_good t b os ts e r s =
      let f = (get_or l t no_stay).window.from in
      let n = counted_long (length l) (t ∷ os) (order_counted (length l) (t ∷ os) s.0) in
      let c = (closed_from C p q l (t ∷ os) (f ∷ ts) s).2 in
      let R : ℕ → Type 0 = λ e. Road C p q l room e os ts in
      record {
        js = os;
        ts = ts;
        long = omega (arith, n);
        whole = record {
          exact = counted_exact (length l) t b.set os r.only (order_counted (length l) (t ∷ os) s.0);
          road = subst R (sym r.ends) (chain_road t f os ts t (f + C) e c);
        };
      }

module _ (C p q : ℕ) (l : List Stay) (room t lo : ℕ) (b : Partial) (old new : List Partial) (e : Room C p q (get_or l t no_stay) room) (r : Root p q (get_or l t no_stay) t b) (is : old ≡ b ∷ []) (g : Grown C p q l room (length l) lo old new) where
  -- What is read back from a complete partial seating is a seating.
  pub full_seated : (i : ℕ) (os ts : List ℕ) → t < length l → (get_or l t no_stay).window.from < C → Full (length l) room (nth new i) → Reads new i os ts → Seated C p q l (planned os ts)
  full_seated i os ts ht hf f reads =
      let B : Partial → Type 0 = λ v. Begins C p q l room v os ts in
      begins_seated C p q l room t b os ts ht hf e r (subst B (g.first ∙ ap (λ v. nth v 0) is) (reads C p q l room g.sound (full_whole C p q l room (nth new i) f)))

  -- Where none is complete, no seating has t first, at its window's first position.
  pub none_full : (os ts : List ℕ) → ((x : ℕ) → lo ≤ x → x < length new → Full (length l) room (nth new x) → ⊥) → Seated C p q l (planned (t ∷ os) ((get_or l t no_stay).window.from ∷ ts)) → ⊥
  none_full os ts none s =
      let G : Partial → Type 0 = λ v. Good C p q l room 1 v.set v.end in
      let a = g.any (subst G (sym (ap (λ v. nth v 0) is)) (seated_good C p q l room t b os ts e r s)) in
      none a.0 a.1 a.2 (good_last C p q l room (length l) (nth new a.0) (omega arith) a.3)

pub seated_below : (C p q : ℕ) (l : List Stay) (t x : ℕ) (os ts : List ℕ) → Seated C p q l (planned (t ∷ os) (x ∷ ts)) → t < length l
unfolding Seated
seated_below C p q l t x os ts s = let e : suc (length os) ≡ length l = s.0.0 in s.0.1 0 (omega arith)

-- The lead of the first stay fits before it comes again.
pub seated_lead : (C p q : ℕ) (l : List Stay) (t x : ℕ) (os ts : List ℕ) → Seated C p q l (planned (t ∷ os) (x ∷ ts)) → p * (get_or l t no_stay).lead ≤ q * (x + C)
seated_lead C p q l t x os ts s =
    let c = (closed_from C p q l (t ∷ os) (x ∷ ts) s).2 in
    omega (arith, chain_end (stays l) (windows C l) p q 0 t x os ts t (x + C) c 0 (omega arith), mul-add p (get_or l t no_stay).trail (get_or l t no_stay).lead)

order_swapped : (n : ℕ) (xs ys : List ℕ) → Order n (xs ++ ys) → Order n (ys ++ xs)
order_swapped n xs ys o =
    let O : List ℕ → Type 0 = λ v. Order n v in
    let e : turned (length xs) (xs ++ ys) ≡ ys ++ xs = rw (drop_at xs ys (length xs) refl, take_at xs ys (length xs) refl) refl in
    subst O e (order_turned n (length xs) (xs ++ ys) (omega (arith, length-append xs ys)) o)

-- Where no start has a seating, there is none.
pub none_lawful : (C p q : ℕ) (l : List Stay) → 1 ≤ q → InBounds C l → 0 < length l → ((t : ℕ) → t < length l → (os ts : List ℕ) → Seated C p q l (planned (t ∷ os) ((get_or l t no_stay).window.from ∷ ts)) → ⊥) → (s : Plan) → Lawful C p q l s → ⊥
unfolding Lawful Seated
none_lawful C p q l hq good n f s L = go s.order s.times L.0
  where
    go : (os ts : List ℕ) → Seated C p q l (planned os ts) → ⊥
    go [] ts h = let e : 0 ≡ length l = h.0.0 in omega arith
    go (o ∷ os) ts h =
        let r = start C p q l hq o os ts (closed_from C p q l (o ∷ os) ts h) in
        let O : List ℕ → Type 0 = λ v. Order (length l) v in
        let t = order_swapped (length l) r.before (r.here ∷ r.behind) (subst O r.is h.0) in
        let low : r.here < length l = t.1 0 n in
        let from : (get_or l r.here no_stay).window.from < C = (good r.here low).from in
        let c = r.closes from in
        f r.here low (r.behind ++ r.before) c.0 (closed_seated C p q l (r.here ∷ (r.behind ++ r.before)) ((get_or l r.here no_stay).window.from ∷ c.0) t (from, omega (arith, offset_from C (get_or l r.here no_stay).window from), c.1))
