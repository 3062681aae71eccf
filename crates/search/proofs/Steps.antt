-- The list of partial seatings, after one more was kept.
use Rattle.std.proofs.Common.{◌≡◌, ℕ, ◌+◌, ◌<◌, ◌≤◌, ◌⊎◌, List, [], ◌∷◌, ◌++◌, length, get_or, set, sym, refl, ◌∙◌, subst, inl, inr, arith}
use native.Mathlib.Decide.{dec_lt}
use Rattle.std.proofs.lemmas.List.{length_push, length-set, get_or_append_left, get_or_push, get_or-set_same, get_or-set_other}
use Rattle.std.proofs.lemmas.Bool.{cases_eq}
use Rattle.placement.specs.Stays.{no_stay}
use Rattle.placement.specs.declared.stays.Stay.{Stay}
use Rattle.search.specs.Sets.{held, Joined}
use Rattle.search.specs.Roads.{end_of, Next, Waits}
use Rattle.search.specs.Partials.{Covered, Kept, Step, Sound, Expanded, no_partial, nth}
use Rattle.search.specs.declared.sets.StaySet.{StaySet}
use Rattle.search.specs.declared.partials.Partial.{Partial}

module _ (old new : List Partial) (lo : ℕ) (a : Partial) (h : lo ≤ length old) where
  nth_left : (x : ℕ) → x < length old → nth (old ++ a ∷ []) x ≡ nth old x
  nth_left x b = get_or_append_left old (a ∷ []) no_partial x b

  kept_long : Kept old new lo a → length old ≤ length new
  kept_long (inl (e, _)) = rw (e, length_push old a) (omega arith)
  kept_long (inr w) = elim w.4 [ inl k ↦ rw k.0 (omega arith) | inr k ↦ rw (k.0, length-set old w.0 a) (omega arith) ]

  kept_front : Kept old new lo a → (x : ℕ) → x < lo → nth new x ≡ nth old x
  kept_front (inl (e, _)) x b = rw e (nth_left x (omega arith))
  kept_front (inr w) x b = elim w.4 [ inl k ↦ rw k.0 refl | inr k ↦ rw k.0 (get_or-set_other old w.0 x a no_partial (omega (arith, w.1))) ]

  kept_covers : Kept old new lo a → (m : StaySet) (e : ℕ) → Covered old lo m e → Covered new lo m e
  kept_covers (inl (k, _)) m e v =
      let n = nth_left v.0 v.2 in
      let P : List Partial → Type 0 = λ z. Covered z lo m e in
      subst P (sym k) (v.0, v.1, rw (length_push old a) (omega (arith, v.2)), rw n v.3, rw n v.4)
  kept_covers (inr w) m e v = elim w.4 [
    | inl k ↦ let P : List Partial → Type 0 = λ z. Covered z lo m e in subst P (sym k.0) v
    | inr k ↦
        let P : List Partial → Type 0 = λ z. Covered z lo m e in
        subst P (sym k.0) (elim (cases_eq v.0 w.0) [
          | inl i ↦
              let s = get_or-set_same old w.0 a no_partial w.2 in
              let vm : (nth old w.0).set ≡ m = let Q : ℕ → Type 0 = λ i. (nth old i).set ≡ m in subst Q i v.3 in
              let ve : (nth old w.0).end ≤ e = let Q : ℕ → Type 0 = λ i. (nth old i).end ≤ e in subst Q i v.4 in
              (w.0, w.1, rw (length-set old w.0 a) w.2, rw s (sym w.3 ∙ vm), rw s (omega (arith, k.1, ve)))
          | inr i ↦
              let s = get_or-set_other old w.0 v.0 a no_partial i in
              (v.0, v.1, rw (length-set old w.0 a) v.2, rw s v.3, rw s v.4)
        ])
  ]

  kept_new : Kept old new lo a → Covered new lo a.set a.end
  kept_new (inl (k, _)) =
      let P : List Partial → Type 0 = λ z. Covered z lo a.set a.end in
      let s = get_or_push old a no_partial (length old) refl in
      subst P (sym k) (length old, h, rw (length_push old a) (omega arith), rw s refl, rw s (omega arith))
  kept_new (inr w) =
      let P : List Partial → Type 0 = λ z. Covered z lo a.set a.end in
      elim w.4 [
        | inl k ↦ subst P (sym k.0) (w.0, w.1, w.2, w.3, k.1)
        | inr k ↦
            let s = get_or-set_same old w.0 a no_partial w.2 in
            subst P (sym k.0) (w.0, w.1, rw (length-set old w.0 a) w.2, rw s refl, rw s (omega arith))
      ]

-- Where a partial seating at y comes from, as `Sound` says it of each.
abbrev Linked : ℕ → ℕ → ℕ → List Stay → ℕ → List Partial → ℕ → Partial → Type 0
Linked C p q l hi ps y v =
    (v.parent < y) × (v.parent < hi) × Step C p q l (nth ps v.parent).set (nth ps v.parent).end v

module _ (C p q : ℕ) (l : List Stay) (lo : ℕ) (old new : List Partial) (F : (x : ℕ) → x < lo → nth new x ≡ nth old x) where
  linked_new : (y : ℕ) (v : Partial) → nth new y ≡ v → Linked C p q l lo old y v → Linked C p q l lo new y (nth new y)
  linked_new y v e r =
      let P : Partial → Type 0 = λ w. Linked C p q l lo new y w in
      let Q : Partial → Type 0 = λ w. Step C p q l w.set w.end v in
      subst P (sym e) (r.0, r.1, subst Q (sym (F v.parent r.1)) r.2)

  linked_same : (y : ℕ) → nth new y ≡ nth old y → (y ≡ 0) ⊎ Linked C p q l lo old y (nth old y) → (y ≡ 0) ⊎ Linked C p q l lo new y (nth new y)
  linked_same y e (inl z) = inl z
  linked_same y e (inr r) = inr (linked_new y (nth old y) e r)

kept_sound : (C p q : ℕ) (l : List Stay) (old new : List Partial) (lo : ℕ) (a : Partial) → lo ≤ length old → Sound C p q l lo old → a.parent < lo → Step C p q l (nth old a.parent).set (nth old a.parent).end a → Kept old new lo a → Sound C p q l lo new
kept_sound C p q l old new lo a h so b s k = cases k
  where
    F : (x : ℕ) → x < lo → nth new x ≡ nth old x
    F = kept_front old new lo a h k

    here : (y : ℕ) → lo ≤ y → nth new y ≡ a → (y ≡ 0) ⊎ Linked C p q l lo new y (nth new y)
    here y g e = inr (linked_new C p q l lo old new F y a e (omega arith, b, s))

    cases : Kept old new lo a → Sound C p q l lo new
    cases (inl (e, _)) = λ y ly.
        let ly' : y < length (old ++ a ∷ []) = rw e at ly in
        let n : y < length old + 1 = rw (length_push old a) at ly' in
        elim (dec_lt y (length old)) [
          | yes i ↦ linked_same C p q l lo old new F y (rw e (get_or_append_left old (a ∷ []) no_partial y i)) (so y i)
          | no i ↦ let ey : length old ≡ y = omega arith in here y (omega arith) (rw e (get_or_push old a no_partial y ey))
        ]
    cases (inr w) = λ y ly. elim w.4 [
      | inl j ↦ let ly' : y < length old = rw j.0 at ly in linked_same C p q l lo old new F y (rw j.0 refl) (so y ly')
      | inr j ↦
          let ly' : y < length (set old w.0 a) = rw j.0 at ly in
          let ly'' : y < length old = rw (length-set old w.0 a) at ly' in
          elim (cases_eq y w.0) [
            | inl i ↦
                let ey : nth (set old w.0 a) y ≡ a = let Q : ℕ → Type 0 = λ i. nth (set old w.0 a) i ≡ a in subst Q (sym i) (get_or-set_same old w.0 a no_partial w.2) in
                here y (omega (arith, w.1, i)) (rw j.0 ey)
            | inr i ↦ linked_same C p q l lo old new F y (rw j.0 (get_or-set_other old w.0 y a no_partial i)) (so y ly'')
          ]
    ]

-- What was said of each stay below j, said of j too.
module _ (C p q : ℕ) (l : List Stay) (hi : ℕ) (m : StaySet) (e b j : ℕ) (old : List Partial) where
  Covers : List Partial → ℕ → Type 0
  Covers new i =
      (y : ℕ) × Next C p q e (get_or l i no_stay) y
      × (((r : StaySet) × Joined m i r × Covered new hi r (end_of p q (get_or l i no_stay) y)) ⊎ Waits p q b (get_or l i no_stay) y (end_of p q (get_or l i no_stay) y))

  covers_more : (new : List Partial) → ((i : ℕ) → i < j → held m i ≡ 0 → Covers new i) → (held m j ≡ 0 → Covers new j) → (i : ℕ) → i < j + 1 → held m i ≡ 0 → Covers new i
  covers_more new f g i h z = elim (cases_eq i j) [
    | inl k ↦ let P : ℕ → Type 0 = λ i. held m i ≡ 0 → Covers new i in subst P (sym k) g z
    | inr k ↦ f i (omega (arith, k)) z
  ]

  expanded_same : (new : List Partial) → Expanded C p q l hi m e b j old new → (held m j ≡ 0 → Covers new j) → Expanded C p q l hi m e b (j + 1) old new
  unfolding Covers
  expanded_same new x g =
      record { long = x.long; front = x.front; sound = x.sound; keeps = x.keeps; covers = covers_more new x.covers g }

  -- The stay is there already.
  pub expanded_skip : (new : List Partial) → Expanded C p q l hi m e b j old new → (held m j ≡ 0 → ⊥) → Expanded C p q l hi m e b (j + 1) old new
  expanded_skip new x n = expanded_same new x (λ z. absurd (n z))

  -- Another fits before it.
  pub expanded_waits : (new : List Partial) (y : ℕ) → Expanded C p q l hi m e b j old new → Next C p q e (get_or l j no_stay) y → Waits p q b (get_or l j no_stay) y (end_of p q (get_or l j no_stay) y) → Expanded C p q l hi m e b (j + 1) old new
  unfolding Covers
  expanded_waits new y x ny w = expanded_same new x (λ z. (y, ny, inr w))

  -- It was put.
  pub expanded_more : (mid new : List Partial) (a : Partial) (y : ℕ) → Expanded C p q l hi m e b j old mid → j < length l → held m j ≡ 0 → ((nth old a.parent).set ≡ m) → ((nth old a.parent).end ≡ e) → a.parent < hi → a.last ≡ j → a.time ≡ y → Joined m j a.set → Next C p q e (get_or l j no_stay) y → a.end ≡ end_of p q (get_or l j no_stay) y → Kept mid new hi a → Expanded C p q l hi m e b (j + 1) old new
  unfolding Covers
  expanded_more mid new a y x hj z em ee hp el et jn ny en k =
      let L : ℕ → Type 0 = λ i. Step C p q l m e (record { set = a.set; end = a.end; last = i; time = a.time; parent = a.parent }) in
      let T : ℕ → Type 0 = λ t. Step C p q l m e (record { set = a.set; end = a.end; last = j; time = t; parent = a.parent }) in
      let s : Step C p q l m e a = subst L (sym el) (subst T (sym et) (record { below = hj; fresh = z; more = jn; holds = ny.holds; after = ny.after; ends = en })) in
      let M : StaySet → Type 0 = λ r. Step C p q l r e a in
      let E : ℕ → Type 0 = λ f. Step C p q l (nth old a.parent).set f a in
      let S : Partial → Type 0 = λ v. Step C p q l v.set v.end a in
      let s' = subst S (sym (x.front a.parent hp)) (subst E (sym ee) (subst M (sym em) s)) in
      let v = kept_new mid new hi a x.long k in
      record {
        long = omega (arith, x.long, kept_long mid new hi a x.long k);
        front = λ i h. kept_front mid new hi a x.long k i h ∙ x.front i h;
        sound = kept_sound C p q l mid new hi a x.long x.sound hp s' k;
        keeps = λ r f c. kept_covers mid new hi a x.long k r f (x.keeps r f c);
        covers = covers_more new
            (λ i h zi.
            let r = x.covers i h zi in
            (r.0, r.1, elim r.2 [ inl c ↦ inl (c.0, c.1, kept_covers mid new hi a x.long k c.0 _ c.2) | inr w ↦ inr w ]))
            (λ zi. (y, ny, inl (a.set, jn, (v.0, v.1, v.2, v.3, omega (arith, v.4, en)))));
      }
