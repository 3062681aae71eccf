-- An order begun at another stay.
use Rattle.std.proofs.Common.{◌≡◌, true≢false, ℕ, zero, suc, ◌+◌, ◌-◌, ◌<◌, ◌≤◌, false, List, [], ◌∷◌, ◌++◌, length, get_or, take, drop, sym, refl, ap, ◌∙◌, subst, arith, length-append}
use native.Mathlib.Decide.{dec_le}
use lib.Seq.{split_at, take-append_seam, drop-append_seam, take-append-le, drop-append-le, take-append-add, drop-append-add, get_or-append_seam}
use Rattle.std.proofs.lemmas.List.{append-nil, append_assoc, take-append-drop}
use Rattle.placement.specs.Seatings.{Plan, plan, planned, Order, Seated, Lawful, place_of, turned, begun, begun_again}
use Rattle.placement.specs.declared.stays.Stay.{Stay}
use Rattle.placement.proofs.Easier.{seated_sound}
use Rattle.placement.proofs.Leaving.{begun_keeps}
use Rattle.placement.proofs.Steps.{begun_law}
use Rattle.placement.proofs.Distinct.{Distinct}
use Rattle.placement.proofs.Orders.{order_lists, order_turned, place_is, place_order, turned_twice}
use Rattle.ring.specs.Questions.{Tells}
use Rattle.trials.specs.Trials.{Answers, Given}
use Rattle.std.specs.Prelude.{Result, Ok, Err}
use Rattle.placement.specs.declared.seatings.Seating.{Seating}
use Rattle.trials.specs.declared.errors.NoSeating.{NoSeating}
use Rattle.trials.specs.declared.errors.NoSeating.TheVariants.{OutOfBounds, NotAnOrder, NoneCloses, NoMemory}
use Rattle.trials.proofs.Pushes.{length_turned}
use Rattle.leeway.specs.Leeways.{Asked, BegunAs, Decided, SeatsIn, Shown, is_seated}

-- A list begun at one of its entries, by what stands before and behind that.
turned_at : (i : ℕ) (os u v : List ℕ) → Distinct os → os ≡ u ++ i ∷ v → turned (place_of i os) os ≡ i ∷ (v ++ u)
turned_at i os u v d e =
    let h : get_or os (length u) 0 ≡ i = ap (λ w. get_or w (length u) 0) e ∙ get_or-append_seam u i v 0 in
    let b : length u < length os = omega (arith, ap length e, length-append u (i ∷ v)) in
    let at : place_of i os ≡ length u = ap (λ j. place_of j os) (sym h) ∙ place_is os d (length u) b in
    ap (λ k. turned k os) at ∙ ap (λ w. turned (length u) w) e ∙ ap (λ w. w ++ take (length u) (u ++ i ∷ v)) (drop-append_seam u (i ∷ v)) ∙ ap (λ w. i ∷ (v ++ w)) (take-append_seam u (i ∷ v))

-- Begun elsewhere first, it comes to the same.
pub turned_again : (n i k : ℕ) (os : List ℕ) → Order n os → i < n → k ≤ n → turned (place_of i (turned k os)) (turned k os) ≡ turned (place_of i os) os
turned_again n i k os o hi hk =
    let r = place_order n os o i hi in
    let m = place_of i os in
    let u = take m os in
    let v = drop (suc m) os in
    let b : m < length os = omega (arith, r.0, o.0) in
    let e : os ≡ u ++ i ∷ v = split_at os m 0 b ∙ ap (λ x. u ++ x ∷ v) r.1 in
    let d = (order_lists n (turned k os) (order_turned n k os (omega (arith, o.0)) o)).0 in
    let whole = turned_at i os u v (order_lists n os o).0 e in
    elim (dec_le k (length u)) [
      | yes h ↦
          let f : turned k os ≡ drop k u ++ i ∷ (v ++ take k u) =
          ap (λ w. drop k w ++ take k w) e ∙ ap (λ w. w ++ take k (u ++ i ∷ v)) (drop-append-le k u (i ∷ v) h) ∙ ap (λ w. (drop k u ++ i ∷ v) ++ w) (take-append-le k u (i ∷ v) h) ∙ append_assoc (drop k u) (i ∷ v) (take k u) in
          turned_at i (turned k os) (drop k u) (v ++ take k u) d f ∙ ap (λ w. i ∷ w) (append_assoc v (take k u) (drop k u) ∙ ap (λ w. v ++ w) (take-append-drop k u)) ∙ sym whole
      | no h ↦
          let j = k - suc (length u) in
          let is : k ≡ length u + suc j = omega arith in
          let fd : drop k (u ++ i ∷ v) ≡ drop j v = ap (λ x. drop x (u ++ i ∷ v)) is ∙ drop-append-add u (i ∷ v) (suc j) in
          let ft : take k (u ++ i ∷ v) ≡ u ++ i ∷ take j v = ap (λ x. take x (u ++ i ∷ v)) is ∙ take-append-add u (i ∷ v) (suc j) in
          let f : turned k os ≡ (drop j v ++ u) ++ i ∷ take j v =
          ap (λ w. drop k w ++ take k w) e ∙ ap (λ w. w ++ take k (u ++ i ∷ v)) fd ∙ ap (λ w. drop j v ++ w) ft ∙ sym (append_assoc (drop j v) u (i ∷ take j v)) in
          turned_at i (turned k os) (drop j v ++ u) (take j v) d f ∙ ap (λ w. i ∷ w) (sym (append_assoc (take j v) (drop j v) u) ∙ ap (λ w. w ++ u) (take-append-drop j v)) ∙ sym whole
    ]

module _ (C p q : ℕ) (l : List Stay) (hC : 1 ≤ C) (hq : 1 ≤ q) where
  pub seats_turned : (os : List ℕ) (k : ℕ) → k < length os → SeatsIn C p q l os → SeatsIn C p q l (turned k os)
  unfolding Seated begun_again
  seats_turned os k h s =
      let S = s.seated in
      let i = get_or os k 0 in
      let b : i < length l = S.0.1 k (omega (arith, S.0.0)) in
      let at : place_of i os ≡ k = place_is os (order_lists (length l) os S.0).0 k h in
      let r = (begun_keeps C p q l i os s.times hC hq S b).0 in
      record { times = begun C k s.times; seated = subst (λ j. Seated C p q l (planned (turned j os) (begun C j s.times))) at r }

  -- And back.
  pub seats_unturned : (os : List ℕ) (k : ℕ) → k ≤ length os → SeatsIn C p q l (turned k os) → SeatsIn C p q l os
  seats_unturned os zero h s = subst (SeatsIn C p q l) (append-nil os) s
  seats_unturned os (suc k) h s =
      let n = length_turned (suc k) os h in
      subst (SeatsIn C p q l) (turned_twice (suc k) os h) (seats_turned (turned (suc k) os) (length os - suc k) (omega arith) s)

  -- The first closing trial, begun wherever it is, is a seating in the order.
  in_order : (os : List ℕ) (s : Plan) → Order (length l) os → Given C p q l os s → Seated C p q l s → SeatsIn C p q l os
  in_order [] s o g h = record { times = s.times; seated = subst (λ (v : Plan). Seated C p q l (planned v.order s.times)) (g.0 refl) h }
  in_order (a ∷ os) s o g h =
      let k = g.1 (omega arith) in
      seats_unturned (a ∷ os) k.place (omega (arith, k.first.place)) (record { times = k.times; seated = subst (λ v. Seated C p q l v) k.is h })

pub decided : (C p q : ℕ) (l : List Stay) (os : List ℕ) → 1 ≤ C → 1 ≤ q → Decided C p q l os
decided C p q l os hC hq = record { tells = at }
  where
    no : (P : Type 0) → (P → ⊥) → Tells false P
    no P n = ((λ e. absurd (true≢false (sym e))), λ h. absurd (n h))

    at : (t : Result Seating NoSeating) → Asked C l os → Answers C p q l os t → (t ≡ Err NoMemory → ⊥) → Tells (is_seated t) (SeatsIn C p q l os)
    at (Err OutOfBounds) A a n = no _ (λ s. a A.bounds)
    at (Err NotAnOrder) A a n = no _ (λ s. a.1 A.order)
    at (Err NoneCloses) A a n = no _ (λ s. a.2 s.times s.seated)
    at (Err NoMemory) A a n = absurd (n refl)
    at (Ok s) A a n = ((λ e. in_order C p q l hC hq os (plan s) a.1 a.2 a.3), λ h. refl)

-- The first closing trial, begun again at the list's first, is shown of the fraction.
pub shown : (C p q : ℕ) (l : List Stay) (os : List ℕ) → 1 ≤ C → C ≤ 86400 → 1 ≤ q → Asked C l os → (s u : Plan) → Given C p q l os s → Seated C p q l s → BegunAs C s u → Shown C p q l os u
unfolding Lawful
shown C p q l os hC small hq A s u g h b =
    let k = g.1 (omega (arith, A.some, A.order.0)) in
    let r = begun_law C p q l 0 s.order s.times hC hq h A.some in
    let e : u ≡ begun_again C 0 s = b (seated_sound C p q l s.order s.times hC small hq h) in
    let os' : s.order ≡ turned k.place os = ap (λ (v : Plan). v.order) k.is in
    subst (λ v. Shown C p q l os v) (sym e) (record {
      lawful = (r.seated, r.begins);
      order = r.order ∙ ap (λ v. turned (place_of 0 v) v) os' ∙ turned_again (length l) 0 k.place os A.order A.some (omega (arith, k.first.place, A.order.0));
    })
