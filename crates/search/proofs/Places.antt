-- Finding a partial seating of the last layer by its set.
use Rattle.std.proofs.Common.{◌≡◌, ℕ, ◌<◌, ◌≤◌, Some, None, Option, List, [], ◌∷◌, ◌++◌, length, set, sym, inl, inr, refl, ap, ◌∙◌, subst, arith}
use native.Mathlib.Decide.{dec_lt}
use Rattle.std.specs.Map.{update}
use Rattle.std.proofs.lemmas.Map.{update_same, update_other}
use Rattle.std.proofs.lemmas.List.{length_push, length-set, get_or_append_left, get_or_push, get_or-set_same, get_or-set_other}
use Rattle.std.proofs.lemmas.Bool.{cases_eq, eq-eqb, ne_eqb}
use Rattle.search.specs.Partials.{Placed, no_partial, nth, same_set}
use Rattle.search.specs.declared.sets.StaySet.{StaySet}
use Rattle.search.specs.declared.partials.Partial.{Partial}

-- What is not found is not there.
pub placed_new : (ps : List Partial) (lo : ℕ) (f : StaySet → Option ℕ) (m : StaySet) → Placed ps lo f → f m ≡ None → (x : ℕ) → lo ≤ x → x < length ps → (nth ps x).set ≡ m → ⊥
placed_new ps lo f m h none x l b e = let z = sym none ∙ sym (ap f e) ∙ h.each x l b in cc

-- One of a set that is not there came to the end.
pub placed_push : (ps : List Partial) (lo : ℕ) (f g : StaySet → Option ℕ) (a : Partial) → Placed ps lo f → f a.set ≡ None → ((m : StaySet) → g m ≡ update same_set f a.set (Some (length ps)) m) → Placed (ps ++ a ∷ []) lo g
placed_push ps lo f g a h none gs = record { below = omega (arith, h.below, length_push ps a); each = each; found = found }
  where
    at_end : nth (ps ++ a ∷ []) (length ps) ≡ a
    at_end = get_or_push ps a no_partial (length ps) refl

    before : (x : ℕ) → x < length ps → nth (ps ++ a ∷ []) x ≡ nth ps x
    before x b = get_or_append_left ps (a ∷ []) no_partial x b

    here : g a.set ≡ Some (length ps)
    here = gs a.set ∙ update_same same_set f a.set (Some (length ps)) a.set (eq-eqb a.set.bits a.set.bits refl)

    other : (m : StaySet) → (a.set.bits ≡ m.bits → ⊥) → g m ≡ f m
    other m n = gs m ∙ update_other same_set f a.set (Some (length ps)) m (ne_eqb a.set.bits m.bits n)

    each : (x : ℕ) → lo ≤ x → x < length (ps ++ a ∷ []) → g (nth (ps ++ a ∷ []) x).set ≡ Some x
    each x l b = elim (dec_lt x (length ps)) [
      | yes k ↦
          let e = h.each x l k in
          let n : a.set.bits ≡ (nth ps x).set.bits → ⊥ = λ i. placed_new ps lo f a.set h none x l k (ap (λ v. record { bits = v }) (sym i)) in
          let P : Partial → Type 0 = λ v. g v.set ≡ Some x in
          subst P (sym (before x k)) (other (nth ps x).set n ∙ e)
      | no k ↦
          let i : length ps ≡ x = omega (arith, length_push ps a) in
          let P : Partial → Type 0 = λ v. g v.set ≡ Some (length ps) in
          let Q : ℕ → Type 0 = λ n. g (nth (ps ++ a ∷ []) n).set ≡ Some n in
          subst Q i (subst P (sym at_end) here)
    ]

    found : (m : StaySet) (x : ℕ) → g m ≡ Some x → (lo ≤ x) × (x < length (ps ++ a ∷ [])) × ((nth (ps ++ a ∷ []) x).set ≡ m)
    found m x e = elim (cases_eq a.set.bits m.bits) [
      | inl i ↦
          let w : a.set ≡ m = ap (λ v. record { bits = v }) i in
          let z : Some (length ps) ≡ Some x = sym here ∙ ap g w ∙ e in
          let n : length ps ≡ x = cc in
          let Q : ℕ → Type 0 = λ n. (nth (ps ++ a ∷ []) n).set ≡ m in
          (omega (arith, h.below), omega (arith, length_push ps a), subst Q n (ap (λ (v : Partial). v.set) at_end ∙ w))
      | inr n ↦
          let r = h.found m x (sym (other m n) ∙ e) in
          (r.0, omega (arith, r.1, length_push ps a), ap (λ (v : Partial). v.set) (before x r.1) ∙ r.2)
    ]

-- One came in the place of one of its set.
pub placed_set : (ps : List Partial) (lo : ℕ) (f : StaySet → Option ℕ) (a : Partial) (x : ℕ) → Placed ps lo f → f a.set ≡ Some x → Placed (set ps x a) lo f
placed_set ps lo f a x h e = record {
  below = omega (arith, h.below, length-set ps x a);
  each = λ y l b. let k : y < length ps = omega (arith, length-set ps x a) in ap f (same y) ∙ h.each y l k;
  found = λ m y i. let r = h.found m y i in (r.0, omega (arith, r.1, length-set ps x a), same y ∙ r.2);
}
  where
    same : (y : ℕ) → (nth (set ps x a) y).set ≡ (nth ps y).set
    same y = elim (cases_eq y x) [
      | inl i ↦
          let r = h.found a.set x e in
          let Q : ℕ → Type 0 = λ n. (nth (set ps x a) n).set ≡ (nth ps n).set in
          subst Q (sym i) (ap (λ (v : Partial). v.set) (get_or-set_same ps x a no_partial r.1) ∙ sym r.2)
      | inr n ↦ ap (λ (v : Partial). v.set) (get_or-set_other ps x y a no_partial n)
    ]
