-- Layer after layer: where a partial seating can be completed, so can one of the next layer.
use Rattle.std.proofs.Common.{◌≡◌, ℕ, ◌+◌, ◌<◌, ◌≤◌, List, ◌∷◌, length, get_or, sym, refl, ap, ◌∙◌, subst, inl, inr, arith}
use native.Mathlib.Decide.{dec_lt}
use Rattle.placement.specs.Stays.{no_stay}
use Rattle.placement.specs.declared.stays.Stay.{Stay}
use Rattle.search.specs.Roads.{end_of, Next, Whole}
use Rattle.search.specs.Partials.{Good, Dead, Soonest, Covered, Sound, Expanded, Any, Layered, Grown, nth}
use Rattle.search.specs.declared.sets.StaySet.{StaySet}
use Rattle.search.specs.declared.partials.Partial.{Partial}
use Rattle.search.proofs.Counts.{exact_more}
use Rattle.search.proofs.Roads.{next_one, dead_not_good, good_earlier, good_next}

module _ (C p q : ℕ) (l : List Stay) (room : ℕ) where
  -- What can be completed stays covered.
  any_kept : (k hi : ℕ) (m : StaySet) (e : ℕ) (new : List Partial) → Covered new hi m e → Good C p q l room k m e → Any C p q l room k hi new
  any_kept k hi m e new v g = (v.0, v.1, v.2, good_earlier C p q l room k m _ e _ v.3 v.4 g)

  same_end : (e i x y : ℕ) → Next C p q e (get_or l i no_stay) x → Next C p q e (get_or l i no_stay) y → end_of p q (get_or l i no_stay) x ≡ end_of p q (get_or l i no_stay) y
  same_end e i x y a b = ap (λ t. end_of p q (get_or l i no_stay) t) (next_one C p q e (get_or l i no_stay) x y a b)

  -- A stay that ends at b is not one that ends later.
  not_it : (e b i x j y : ℕ) → Next C p q e (get_or l i no_stay) x → end_of p q (get_or l i no_stay) x ≡ b → Next C p q e (get_or l j no_stay) y → b < end_of p q (get_or l j no_stay) y → i ≡ j → ⊥
  not_it e b i x j y nx ex ny lt ij =
      let P : ℕ → Type 0 = λ j. Next C p q e (get_or l j no_stay) y → b < end_of p q (get_or l j no_stay) y → ⊥ in
      subst P ij (λ n h. omega (arith, h, ex, same_end e i x y nx n)) ny lt

  -- Where a partial seating can be completed, so can one of those that it was expanded to.
  expanded_good : (k hi : ℕ) (m : StaySet) (e b : ℕ) (mid new : List Partial) → k < length l → Soonest C p q l room m e (length l) b → Expanded C p q l hi m e b (length l) mid new → Good C p q l room k m e → Any C p q l room (k + 1) hi new
  expanded_good k hi m e b mid new hk s x g =
      let n = good_next C p q l room k m e hk g in
      let j = n.j in
      let v = x.covers j n.below n.fresh in
      elim v.2 [
        | inl c ↦ any_kept (k + 1) hi c.0 _ new c.2 (n.good v.0 c.0 v.1 c.1)
        | inr w ↦ elim s.some [
          | inl r ↦
              let i = r.0 in
              let u = x.covers i r.2 r.3 in
              let eu : end_of p q (get_or l i no_stay) u.0 ≡ b = same_end e i u.0 r.1 u.1 r.4 ∙ r.5 in
              let ne : i ≡ j → ⊥ = not_it e b i r.1 j v.0 r.4 r.5 v.1 w.1 in
              elim u.2 [
                | inl c ↦ any_kept (k + 1) hi c.0 _ new c.2 (n.swap v.0 i (end_of p q (get_or l i no_stay) u.0) c.0 v.1 r.2 r.3 ne c.1 (omega (arith, w.0, eu)))
                | inr z ↦ absurd (omega (arith, z.1, eu))
              ]
          | inr r ↦
              let a = s.each j n.below n.fresh in
              absurd (omega (arith, w.1, r, a.3, same_end e j a.0 v.0 a.1 v.1))
        ]
      ]

  -- The layer so far, once the partial seating at i was expanded.
  pub layered_more : (lo i b : ℕ) (old mid new : List Partial) → i < length old → Layered C p q l room lo i old mid → Soonest C p q l room (nth mid i).set (nth mid i).end (length l) b → Expanded C p q l (length old) (nth mid i).set (nth mid i).end b (length l) mid new → Layered C p q l room lo (i + 1) old new
  layered_more lo i b old mid new hi y s x =
      record {
        long = x.long;
        front = λ a h. x.front a h ∙ y.front a h;
        sound = x.sound;
        good = λ k a hk la bd g. elim (dec_lt a i) [
          | yes h ↦
              let r = y.good k a hk la h g in
              any_kept (k + 1) (length old) _ _ new (x.keeps (nth mid r.0).set (nth mid r.0).end (r.0, r.1, r.2, refl, omega arith)) r.3
          | no h ↦ expanded_good k (length old) (nth mid i).set (nth mid i).end b mid new hk s x (good_at k i a (omega arith) old mid (y.front i hi) g)
        ];
      }
    where
      good_at : (k i a : ℕ) → a ≡ i → (old mid : List Partial) → nth mid i ≡ nth old i → Good C p q l room k (nth old a).set (nth old a).end → Good C p q l room k (nth mid i).set (nth mid i).end
      good_at k i a e old mid f g =
          let P : Partial → Type 0 = λ v. Good C p q l room k v.set v.end in
          let Q : ℕ → Type 0 = λ i. Good C p q l room k (nth old i).set (nth old i).end in
          subst P (sym f) (subst Q e g)

  -- Once the partial seating at i was found dead.
  pub layered_dead : (lo i : ℕ) (old new : List Partial) → i < length old → Layered C p q l room lo i old new → Dead C p q l room (nth new i).set (nth new i).end → Layered C p q l room lo (i + 1) old new
  layered_dead lo i old new hi y d =
      record {
        long = y.long;
        front = y.front;
        sound = y.sound;
        good = λ k a hk la b g. elim (dec_lt a i) [
          | yes h ↦ y.good k a hk la h g
          | no h ↦
              let e : a ≡ i = omega arith in
              let P : Partial → Type 0 = λ v. Good C p q l room k v.set v.end in
              let Q : ℕ → Type 0 = λ i. Good C p q l room k (nth old i).set (nth old i).end in
              absurd (dead_not_good C p q l room k _ _ d (subst P (sym (y.front i hi)) (subst Q e g)))
        ];
      }

  pub layered_all : (lo i : ℕ) (old new : List Partial) → length old ≤ i → Layered C p q l room lo i old new → Layered C p q l room lo (length old) old new
  layered_all lo i old new h y =
      record { long = y.long; front = y.front; sound = y.sound; good = λ k x hk la b g. y.good k x hk la (omega arith) g }

  sound_up : (hi : ℕ) (ps : List Partial) → Sound C p q l hi ps → Sound C p q l (length ps) ps
  sound_up hi ps so = λ x b. elim (so x b) [ inl z ↦ inl z | inr r ↦ inr (r.0, omega (arith, r.0), r.2) ]

  -- One more layer.
  pub grown_more : (k lo hi : ℕ) (old mid new : List Partial) → k < length l → hi ≡ length mid → Grown C p q l room k lo old mid → Layered C p q l room lo (length mid) mid new → Grown C p q l room (k + 1) hi old new
  grown_more k lo hi old mid new hk e s y =
      let P : ℕ → Type 0 = λ h. Grown C p q l room (k + 1) h old new in
      subst P (sym e) (record {
        some = omega (arith, s.some, y.long);
        sound = sound_up (length mid) new y.sound;
        first = y.front 0 s.some ∙ s.first;
        any = λ g. let a = s.any g in y.good k a.0 hk a.1 a.2 a.3;
      })

  -- One stay back.
  pub back_step : (hi : ℕ) (ps : List Partial) (i : ℕ) (js ts : List ℕ) → Sound C p q l hi ps → i < length ps → (i ≡ 0 → ⊥) → Whole C p q l room (nth ps i).set (nth ps i).end js ts → Whole C p q l room (nth ps (nth ps i).parent).set (nth ps (nth ps i).parent).end ((nth ps i).last ∷ js) ((nth ps i).time ∷ ts)
  back_step hi ps i js ts so h n w = elim (so i h) [
    | inl e ↦ absurd (n e)
    | inr r ↦
        let s = r.2 in
        let a = nth ps i in
        let b = nth ps a.parent in
        let W : ℕ → Type 0 = λ e. Whole C p q l room a.set e js ts in
        let w' = subst W s.ends w in
        record {
          exact = exact_more (length l) b.set a.set a.last js s.below s.fresh s.more w.exact;
          road = (s.holds, s.after, w'.road);
        }
  ]
