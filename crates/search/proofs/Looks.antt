-- The least end of the stays that are left, stay by stay.
use Rattle.std.proofs.Common.{◌≡◌, ℕ, ◌+◌, ◌<◌, ◌≤◌, ◌⊎◌, List, get_or, min, sym, ◌∙◌, subst, inl, inr, arith}
use native.Mathlib.Decide.{dec_lt}
use Rattle.std.proofs.lemmas.Bool.{cases_eq}
use Rattle.placement.specs.Stays.{no_stay}
use Rattle.placement.specs.declared.stays.Stay.{Stay}
use Rattle.search.specs.Sets.{held}
use Rattle.search.specs.Roads.{end_of, Next, Fitted}
use Rattle.search.specs.Partials.{Soonest}
use Rattle.search.specs.declared.sets.StaySet.{StaySet}

module _ (C p q : ℕ) (l : List Stay) (room : ℕ) (m : StaySet) (e j : ℕ) where
  -- A stay that is left, and ends at f.
  pub soonest_more : (b b' y f : ℕ) → Soonest C p q l room m e j b → held m j ≡ 0 → Fitted C p q room e (get_or l j no_stay) y f → b' ≡ min b f → Soonest C p q l room m e (j + 1) b'
  soonest_more b b' y f s z t is =
      let c : ((f < b) × (b' ≡ f)) ⊎ ((b ≤ f) × (b' ≡ b)) = elim (dec_lt f b) [ yes k ↦ inl (k, omega arith) | no k ↦ inr (omega arith, omega arith) ] in
      let less : b' ≤ b = omega arith in
      let here : b' ≤ f = omega arith in
      record {
        each = λ i h zi. elim (cases_eq i j) [
          | inl k ↦
              let P : ℕ → Type 0 = λ i. (y : ℕ) × Next C p q e (get_or l i no_stay) y × (b' ≤ end_of p q (get_or l i no_stay) y) × (end_of p q (get_or l i no_stay) y ≤ room) in
              subst P (sym k) (y, t.next, omega (arith, t.ends), omega (arith, t.ends, t.within))
          | inr k ↦
              let r = s.each i (omega (arith, k)) zi in
              (r.0, r.1, omega (arith, r.2), r.3)
        ];
        within = omega (arith, s.within);
        some = elim c [
          | inl w ↦ inl (j, y, omega arith, z, t.next, sym t.ends ∙ sym w.1)
          | inr w ↦ elim s.some [ inl r ↦ inl (r.0, r.1, omega (arith, r.2), r.3, r.4, r.5 ∙ sym w.1) | inr r ↦ inr (w.1 ∙ r) ]
        ];
      }
