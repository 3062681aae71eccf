-- The margin above any seater keeps the rules.
use Rattle.std.specs.Prelude.{◌≡◌, ℕ, zero, suc, ◌+◌, ◌<◌, ◌≤◌, List, [], ◌∷◌, map, length, get_or, slice_index, slice_index_or, slice_set, refl}
use Rattle.std.proofs.Math.Path.{sym, ap, subst}
use Rattle.std.proofs.Common.{arith}
use Rattle.std.proofs.Math.Decide.{dec_lt, ℕ_discrete}
use Rattle.std.specs.List.{remove}
use Rattle.std.proofs.lemmas.List.Edits.{length-remove, get_or-remove_below, get_or-remove_above}
use Rattle.std.proofs.lemmas.List.{length-map, length-set, get_or-map, get_or-set_same, get_or-set_other}
use Rattle.ring.specs.declared.measures.Ring.{Ring}
use Rattle.ring.specs.declared.measures.Pace.{Pace}
use Rattle.placement.specs.Windows.{Holds}
use Rattle.placement.specs.Stays.{StayBounds, Narrowed, no_stay}
use Rattle.placement.specs.Seatings.{Plan, no_plan, Seated, Lawful, without}
use Rattle.placement.specs.declared.stays.Stay.{Stay}
use Rattle.placement.proofs.Easier.{stays_lawful}
use Rattle.placement.proofs.Leaving.{empty_seated}
use Rattle.seaters.specs.Meanings.{Meaning, Rules}
use Rattle.seaters.specs.Layers.{MarginLets, Widens, widened, margin_means}
use Rattle.seaters.specs.ListRules.{left, narrowed_bounds}
use Rattle.seaters.specs.DepotRules.{only_empty}

removed_map : {X Y : Type 0} (f : X → Y) (l : List X) (k : ℕ) → remove (map f l) k ≡ map f (remove l k)
removed_map f [] zero = refl
removed_map f [] (suc k) = refl
removed_map f (x ∷ l) zero = refl
removed_map f (x ∷ l) (suc k) = ap (λ v. f x ∷ v) (removed_map f l k)

set-map : {X Y : Type 0} (f : X → Y) (l : List X) (k : ℕ) (a : X) → slice_set (map f l) k (f a) ≡ map f (slice_set l k a)
set-map f [] zero a = refl
set-map f [] (suc k) a = refl
set-map f (x ∷ l) zero a = refl
set-map f (x ∷ l) (suc k) a = ap (λ v. f x ∷ v) (set-map f l k a)

module _ (m : ℕ) where
  long : (l : List Stay) → length (map (widened m) l) ≡ length l
  long l = length-map l (widened m)

  wider : (l : List Stay) (k : ℕ) → k < length l → slice_index_or (map (widened m) l) k no_stay ≡ widened m (slice_index_or l k no_stay)
  wider l k h = get_or-map (widened m) l k no_stay no_stay h

  -- Lawful with longer trails, lawful with shorter ones.
  narrower : (C p q : ℕ) (l : List Stay) (s : Plan) → 1 ≤ q → Lawful C p q (map (widened m) l) s → Lawful C p q l s
  unfolding Seated Lawful
  narrower C p q l s hq L =
      let w = map (widened m) l in
      let n = long l in
      stays_lawful C p q w s.order s.times hq L p q l (record {
        pace = omega arith;
        long = sym n;
        leads = λ i h. omega (arith, ap (λ (x : Stay). x.lead) (wider l i (omega arith)));
        trails = λ i h. omega (arith, ap (λ (x : Stay). x.trail) (wider l i (omega arith)));
        windows = λ k h.
            let b : get_or s.order k 0 < length l = omega (arith, L.0.0.1 k h) in
            subst (λ (x : Stay). Holds C x.window (slice_index s.times k)) (wider l (slice_index s.order k) b) (L.0.3 k h);
      })

  widens_without : (C : ℕ) (l : List Stay) (k : ℕ) → k < length l → Widens m C l → Widens m C (remove l k)
  widens_without C l k h w i b =
      let n = length-remove l k h in
      let P : Stay → Type 0 = λ a. StayBounds C a × (a.trail + m ≤ 40000) in
      elim (dec_lt i k) [
        | yes lt ↦ subst P (sym (get_or-remove_below l k no_stay i lt h)) (w i (omega arith))
        | no ge ↦ subst P (sym (get_or-remove_above l k no_stay i (omega arith) h)) (w (i + 1) (omega arith))
      ]

  widens_narrowed : (C : ℕ) (l : List Stay) (k : ℕ) (a : Stay) → k < length l → Narrowed C a (slice_index_or l k no_stay) → Widens m C l → Widens m C (slice_set l k a)
  widens_narrowed C l k a h n w i b =
      let P : Stay → Type 0 = λ x. StayBounds C x × (x.trail + m ≤ 40000) in
      elim (ℕ_discrete i k) [
        | yes e ↦ rw e (subst P (sym (get_or-set_same l k a no_stay h)) (narrowed_bounds C a (slice_index_or l k no_stay) n (w k h).0, omega (arith, n.trail, (w k h).1)))
        | no e ↦ subst P (sym (get_or-set_other l k i a no_stay e)) (w i (omega (arith, length-set l k a)))
      ]

  narrowed_wider : (C : ℕ) (l : List Stay) (k : ℕ) (a : Stay) → k < length l → Narrowed C a (slice_index_or l k no_stay) → Narrowed C (widened m a) (slice_index_or (map (widened m) l) k no_stay)
  narrowed_wider C l k a h n =
      subst (λ b. Narrowed C (widened m a) b) (sym (wider l k h)) (record { from = n.from; width = n.width; lead = n.lead; trail = omega (arith, n.trail); window = n.window })

  module _ (M : Meaning) (R : Rules M) where
    lawful : (c : Ring) (v : Pace) (l : List Stay) (s : Plan) → MarginLets M.grants m c v l s → Lawful c.ticks v.p v.q l s
    lawful c v l s g = elim (dec_lt 0 (length l)) [
      | yes b ↦ narrower c.ticks v.p v.q l s v.bounds.2 (R.lawful c v (map (widened m) l) s (g.1 b).2)
      | no b ↦ let z : length l ≡ 0 = omega arith in subst (λ w. Lawful c.ticks v.p v.q l w) (sym (g.0 z)) (empty_seated c.ticks v.p v.q l z).0
    ]

    pub margin_rules : Rules (margin_means m M)
    margin_rules = record {
      lawful = lawful;
      taken = λ c v l s g b. let r = g.1 b in (r.0, r.1, R.taken c v (map (widened m) l) s r.2);
      few = λ c l t. elim (dec_lt 0 (length l)) [ yes b ↦ omega (arith, R.few c (map (widened m) l) (t b).2, long l) | no b ↦ omega arith ];
      bounded = λ c l t k h. ((t (omega arith)).1 k h).0;
      none_taken = λ c b. absurd (omega arith);
      none_granted = λ c v. ((λ _. refl), λ b. absurd (omega arith));
      none_given = λ c v s g. g.0 refl;
      taken_without = λ c l k h t b.
          let r = t (omega arith) in
          (r.0, widens_without c.ticks l k h r.1, subst (λ w. M.takes c w) (removed_map (widened m) l k) (R.taken_without c (map (widened m) l) k (omega (arith, long l)) r.2));
      taken_narrowed = λ c l k a h n t b.
          let r = t (omega arith) in
          (r.0, widens_narrowed c.ticks l k a h n r.1, subst (λ w. M.takes c w) (set-map (widened m) l k a) (R.taken_narrowed c (map (widened m) l) k (widened m a) (omega (arith, long l)) (narrowed_wider c.ticks l k a h n) r.2));
      granted_without = λ c v l s k h g.
          let r = g.1 (omega arith) in (
            (λ z. only_empty c.ticks v.p v.q (remove l k) (without c.ticks k s) z (left c.ticks v.p v.q l s k c.bounds.0 v.bounds.2 h (lawful c v l s g))),
            λ b. (r.0, widens_without c.ticks l k h r.1, subst (λ w. M.grants c v w (without c.ticks k s)) (removed_map (widened m) l k) (R.granted_without c v (map (widened m) l) s k (omega (arith, long l)) r.2)),
          );
      granted_narrowed = λ c v l s k a h n held g.
          let r = g.1 (omega arith) in (
            (λ z. absurd (omega (arith, z, length-set l k a))),
            λ b. (r.0, widens_narrowed c.ticks l k a h n r.1, subst (λ w. M.grants c v w s) (set-map (widened m) l k a) (R.granted_narrowed c v (map (widened m) l) s k (widened m a) (omega (arith, long l)) (narrowed_wider c.ticks l k a h n) held r.2)),
          );
      given = λ c v l s g. (g.0, λ b. let r = g.1 b in (r.0, r.1, R.given c v (map (widened m) l) s r.2));
      some_given = some;
    }
      where
        some : (c : Ring) (v : Pace) (l : List Stay) (s : Plan) → MarginLets M.grants m c v l s → (u : Plan) × MarginLets M.gives m c v l u
        some c v l s g = elim (dec_lt 0 (length l)) [
          | yes b ↦
              let r = R.some_given c v (map (widened m) l) s (g.1 b).2 in
              (r.0, ((λ z. absurd (omega (arith, z, b))), λ _. ((g.1 b).0, (g.1 b).1, r.1)))
          | no b ↦ (no_plan, ((λ _. refl), λ h. absurd (b h)))
        ]
