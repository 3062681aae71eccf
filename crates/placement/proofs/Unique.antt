-- A lawful seating is determined by its positions.
use Rattle.std.proofs.Common.{◌≡◌, ℕ, zero, suc, ◌+◌, ◌*◌, ◌/◌, ◌%◌, ◌<◌, ◌≤◌, List, length, get_or, sym, ap, ◌∙◌, subst, mul-le-mul, arith, ext_get_or}
use native.Mathlib.Decide.{dec_lt, ℕ_discrete}
use Rattle.std.proofs.lemmas.Nat.{div-add-mod'}
use Rattle.placement.specs.Stays.{Apart, no_stay}
use Rattle.placement.specs.Seatings.{Plan, Seated, Lawful, place_of, time_of, position_of}
use Rattle.placement.specs.Arcs.{InBounds}
use Rattle.placement.specs.declared.stays.Stay.{Stay}
use Rattle.placement.proofs.Offsets.{mod_is}
use Rattle.placement.proofs.Orders.{order_lists, place_is, place_order}
use Rattle.placement.proofs.Chains.{apart_le, lawful_on, lawful_round}

-- Of two times from b to one ring later that are the same round the ring, the lesser is b and the
-- greater comes one ring later.
ends : (C b x y : ℕ) → x % C ≡ y % C → b ≤ x → y ≤ b + C → x < y → (x ≡ b) × (y ≡ b + C)
ends C b x y e hx hy h =
    let i = x / C in
    let j = y / C in
    let ex : i * C + x % C ≡ x = div-add-mod' x C in
    let ey : j * C + y % C ≡ y = div-add-mod' y C in
    let more : i < j = elim (dec_lt i j) [ yes m ↦ m | no n ↦ let le : j * C ≤ i * C = mul-le-mul (the (j ≤ i) (omega arith)) (the (C ≤ C) (omega arith)) in absurd (omega (arith, ex, ey, e, le, h)) ] in
    let le : suc i * C ≤ j * C = mul-le-mul more (the (C ≤ C) (omega arith)) in
    (omega (arith, ex, ey, e, le, hx, hy), omega (arith, ex, ey, e, le, hx, hy))
  where
    the : (A : Type 0) → A → A
    the A a = a

-- Apart at one time: there is neither a trail nor a lead between.
touching : (p q : ℕ) (a : Stay) (x : ℕ) (b : Stay) → 1 ≤ p → Apart p q a x b x → (a.trail ≡ 0) × (b.lead ≡ 0)
touching p q a x b hp f =
    let same : a.trail + b.lead ≤ a.trail + b.lead = omega arith in
    let g : 1 * (a.trail + b.lead) ≤ p * (a.trail + b.lead) = mul-le-mul hp same in
    (omega (arith, g, f), omega (arith, g, f))

module _ (C p q : ℕ) (l : List Stay) (hp : 1 ≤ p) (hq : 1 ≤ q) (good : InBounds C l) where
  -- By stays instead of places: of two stays, the one that comes first is apart from the other.
  on : (s : Plan) → Lawful C p q l s → (i j : ℕ) → i < length l → j < length l → place_of i s.order < place_of j s.order → Apart p q (get_or l i no_stay) (time_of i s) (get_or l j no_stay) (time_of j s)
  unfolding Seated Lawful
  on s L i j hi hj h =
      let a = place_order (length l) s.order L.0.0 i hi in
      let b = place_order (length l) s.order L.0.0 j hj in
      let P : ℕ → ℕ → Type 0 = λ x y. Apart p q (get_or l x no_stay) (time_of i s) (get_or l y no_stay) (time_of j s) in
      let r : P (get_or s.order (place_of i s.order) 0) (get_or s.order (place_of j s.order) 0) = lawful_on C p q l s.order s.times L.0 (place_of i s.order) (place_of j s.order) h b.0 in
      subst (λ y. P i y) b.1 (subst (λ x. P x (get_or s.order (place_of j s.order) 0)) a.1 r)

  round : (s : Plan) → Lawful C p q l s → (i j : ℕ) → i < length l → j < length l → place_of j s.order ≤ place_of i s.order → Apart p q (get_or l i no_stay) (time_of i s) (get_or l j no_stay) (time_of j s + C)
  unfolding Seated Lawful
  round s L i j hi hj h =
      let a = place_order (length l) s.order L.0.0 i hi in
      let b = place_order (length l) s.order L.0.0 j hj in
      let P : ℕ → ℕ → Type 0 = λ x y. Apart p q (get_or l x no_stay) (time_of i s) (get_or l y no_stay) (time_of j s + C) in
      let r : P (get_or s.order (place_of i s.order) 0) (get_or s.order (place_of j s.order) 0) = lawful_round C p q l s.order s.times L.0 (place_of j s.order) (place_of i s.order) h a.0 in
      subst (λ y. P i y) b.1 (subst (λ x. P x (get_or s.order (place_of j s.order) 0)) a.1 r)

  first_place : (s : Plan) → Lawful C p q l s → 0 < length l → place_of 0 s.order ≡ 0
  unfolding Seated Lawful
  first_place s L h =
      let e = place_is s.order (order_lists (length l) s.order L.0.0).0 0 (omega (arith, L.0.0.0)) in
      subst (λ x. place_of x s.order ≡ 0) L.1 e

  first_low : (s : Plan) → Lawful C p q l s → 0 < length l → time_of 0 s < C
  unfolding Seated Lawful
  first_low s L h = subst (λ k. get_or s.times k 0 < C) (sym (first_place s L h)) (L.0.2 h)

  -- A stay that is not the first has another place, between the first and the first one ring later.
  later : (s : Plan) → Lawful C p q l s → (i : ℕ) → 0 < i → i < length l → Apart p q (get_or l 0 no_stay) (time_of 0 s) (get_or l i no_stay) (time_of i s) × Apart p q (get_or l i no_stay) (time_of i s) (get_or l 0 no_stay) (time_of 0 s + C)
  unfolding Seated Lawful
  later s L i h hi =
      let z : 0 < length l = omega arith in
      let e = first_place s L z in
      let n : place_of i s.order ≡ 0 → ⊥ = λ k.
      let w : i ≡ 0 = sym (place_order (length l) s.order L.0.0 i hi).1 ∙ ap (λ m. get_or s.order m 0) k ∙ L.1 in
      omega arith in
      let m : place_of 0 s.order < place_of i s.order = elim (dec_lt 0 (place_of i s.order)) [ yes y ↦ omega (arith, y, e) | no y ↦ absurd (n (omega arith)) ] in
      (on s L 0 i z hi m, round s L i 0 hi z (omega (arith, m)))

  -- A stay at both ends of the ring would have neither a lead nor a trail.
  not_both : (s u : Plan) → Lawful C p q l s → Lawful C p q l u → (i : ℕ) → 0 < i → i < length l → time_of i s ≡ time_of 0 s → time_of i u ≡ time_of 0 u + C → ⊥
  not_both s u L K i h hi x y =
      let a = get_or l i no_stay in
      let b = get_or l 0 no_stay in
      let P : ℕ → Type 0 = λ t. Apart p q b (time_of 0 s) a t in
      let Q : ℕ → Type 0 = λ t. Apart p q a t b (time_of 0 u + C) in
      let lead = (touching p q b (time_of 0 s) a hp (subst P x (later s L i h hi).0)).1 in
      let trail = (touching p q a (time_of 0 u + C) b hp (subst Q y (later u K i h hi).1)).0 in
      omega (arith, lead, trail, (good i hi).some)

  between : (s : Plan) → Lawful C p q l s → (i : ℕ) → 0 < i → i < length l → (time_of 0 s ≤ time_of i s) × (time_of i s ≤ time_of 0 s + C)
  between s L i h hi =
      let r = later s L i h hi in
      (apart_le p q (get_or l 0 no_stay) (time_of 0 s) (get_or l i no_stay) (time_of i s) hq r.0, apart_le p q (get_or l i no_stay) (time_of i s) (get_or l 0 no_stay) (time_of 0 s + C) hq r.1)

  -- The same positions, the same times.
  same_first : (s u : Plan) → Lawful C p q l s → Lawful C p q l u → position_of C 0 u ≡ position_of C 0 s → 0 < length l → time_of 0 u ≡ time_of 0 s
  same_first s u L K e h =
      let a : position_of C 0 s ≡ time_of 0 s = mod_is C 0 (time_of 0 s) (time_of 0 s) (first_low s L h) (omega arith) in
      let b : position_of C 0 u ≡ time_of 0 u = mod_is C 0 (time_of 0 u) (time_of 0 u) (first_low u K h) (omega arith) in
      sym b ∙ e ∙ a

  not_less : (s u : Plan) → Lawful C p q l s → Lawful C p q l u → time_of 0 u ≡ time_of 0 s → (i : ℕ) → 0 < i → i < length l → position_of C i u ≡ position_of C i s → time_of i s < time_of i u → ⊥
  not_less s u L K e i h hi same lt =
      let a = between s L i h hi in
      let b = between u K i h hi in
      let r = ends C (time_of 0 s) (time_of i s) (time_of i u) (sym same) a.0 (omega (arith, b.1, e)) lt in
      not_both s u L K i h hi r.0 (omega (arith, r.1, e))

  same_times : (s u : Plan) → Lawful C p q l s → Lawful C p q l u → ((j : ℕ) → j < length l → position_of C j u ≡ position_of C j s) → (i : ℕ) → i < length l → time_of i u ≡ time_of i s
  same_times s u L K same zero hi = same_first s u L K (same 0 hi) hi
  same_times s u L K same (suc i) hi =
      let z : 0 < length l = omega arith in
      let first = same_first s u L K (same 0 z) z in
      let h : 0 < suc i = omega arith in
      elim (dec_lt (time_of (suc i) s) (time_of (suc i) u)) [
        | yes lt ↦ absurd (not_less s u L K first (suc i) h hi (same (suc i) hi) lt)
        | no n ↦ elim (dec_lt (time_of (suc i) u) (time_of (suc i) s)) [
          | yes lt ↦ absurd (not_less u s K L (sym first) (suc i) h hi (sym (same (suc i) hi)) lt)
          | no m ↦ omega arith
        ]
      ]

  -- Two stays that come in both orders, at the same times, would have neither leads nor trails.
  not_crossed : (s u : Plan) → Lawful C p q l s → Lawful C p q l u → (i j : ℕ) → i < length l → j < length l → time_of i u ≡ time_of i s → time_of j u ≡ time_of j s → place_of i s.order < place_of j s.order → place_of j u.order < place_of i u.order → ⊥
  not_crossed s u L K i j hi hj ei ej a b =
      let x = get_or l i no_stay in
      let y = get_or l j no_stay in
      let f = on s L i j hi hj a in
      let g = on u K j i hj hi b in
      let le = apart_le p q x (time_of i s) y (time_of j s) hq f in
      let ge = apart_le p q y (time_of j u) x (time_of i u) hq g in
      let P : ℕ → Type 0 = λ t. Apart p q x (time_of i s) y t in
      let Q : ℕ → Type 0 = λ t. Apart p q y (time_of j u) x t in
      let trail = (touching p q x (time_of i s) y hp (subst P (the (time_of j s ≡ time_of i s) (omega (arith, le, ge, ei, ej))) f)).0 in
      let lead = (touching p q y (time_of j u) x hp (subst Q (the (time_of i u ≡ time_of j u) (omega (arith, le, ge, ei, ej))) g)).1 in
      omega (arith, lead, trail, (good i hi).some)
    where
      the : (A : Type 0) → A → A
      the A a = a

  -- The first place at which two orders differ.
  after : (s u : Plan) → Lawful C p q l s → Lawful C p q l u → (k : ℕ) → k < length l → ((j : ℕ) → j < k → get_or s.order j 0 ≡ get_or u.order j 0) → (get_or s.order k 0 ≡ get_or u.order k 0 → ⊥) → k < place_of (get_or s.order k 0) u.order
  unfolding Seated Lawful
  after s u L K k h front n =
      let a = get_or s.order k 0 in
      let r = place_order (length l) u.order K.0.0 a (L.0.0.1 k h) in
      let m = place_of a u.order in
      elim (dec_lt k m) [
        | yes y ↦ y
        | no y ↦ elim (ℕ_discrete m k) [
          | yes e ↦ absurd (n (sym (sym (ap (λ j. get_or u.order j 0) e) ∙ r.1)))
          | no e ↦ let lt : m < k = omega arith in absurd (L.0.0.2 m k (lt, h) (front m lt ∙ r.1))
        ]
      ]

  same_front : (s u : Plan) → Lawful C p q l s → Lawful C p q l u → ((j : ℕ) → j < length l → time_of j u ≡ time_of j s) → (k : ℕ) → k ≤ length l → (j : ℕ) → j < k → get_or s.order j 0 ≡ get_or u.order j 0
  unfolding Seated Lawful
  same_front s u L K same zero h j b = absurd (omega arith)
  same_front s u L K same (suc k) h j b =
      let front = same_front s u L K same k (omega arith) in
      elim (dec_lt j k) [
        | yes y ↦ front j y
        | no y ↦
            let e : j ≡ k = omega arith in
            rw e (elim (ℕ_discrete (get_or s.order k 0) (get_or u.order k 0)) [
              | yes d ↦ d
              | no d ↦
                  let x = get_or s.order k 0 in
                  let z = get_or u.order k 0 in
                  let hx = L.0.0.1 k h in
                  let hz = K.0.0.1 k h in
                  let px : place_of x s.order ≡ k = place_is s.order (order_lists (length l) s.order L.0.0).0 k (omega (arith, L.0.0.0)) in
                  let pz : place_of z u.order ≡ k = place_is u.order (order_lists (length l) u.order K.0.0).0 k (omega (arith, K.0.0.0)) in
                  let ax : k < place_of x u.order = after s u L K k h front d in
                  let az : k < place_of z s.order = after u s K L k h (λ i g. sym (front i g)) (λ g. d (sym g)) in
                  absurd (not_crossed s u L K x z hx hz (same x hx) (same z hz) (omega (arith, px, az)) (omega (arith, pz, ax)))
            ])
      ]

  pub determined : (s : Plan) → Lawful C p q l s → (u : Plan) → Lawful C p q l u → ((j : ℕ) → j < length l → position_of C j u ≡ position_of C j s) → u ≡ s
  unfolding Seated Lawful
  determined s L u K same =
      let times = same_times s u L K same in
      let os : s.order ≡ u.order = ext_get_or 0 s.order u.order (L.0.0.0 ∙ sym K.0.0.0) (λ k h. same_front s u L K times (length l) (omega arith) k (omega (arith, L.0.0.0))) in
      let ts : u.times ≡ s.times = ext_get_or 0 u.times s.times (K.0.1 ∙ sym L.0.1) (λ k h. at k (omega (arith, K.0.1)) os times) in
      λ i. record { order = sym os i; times = ts i }
    where
      at : (k : ℕ) → k < length l → s.order ≡ u.order → ((j : ℕ) → j < length l → time_of j u ≡ time_of j s) → get_or u.times k 0 ≡ get_or s.times k 0
      at k h os times =
          let x = get_or s.order k 0 in
          let px : place_of x s.order ≡ k = place_is s.order (order_lists (length l) s.order L.0.0).0 k (omega (arith, L.0.0.0)) in
          let pu : place_of x u.order ≡ k = sym (ap (λ v. place_of x v) os) ∙ px in
          sym (ap (λ m. get_or u.times m 0) pu) ∙ times x (L.0.0.1 k h) ∙ ap (λ m. get_or s.times m 0) px
