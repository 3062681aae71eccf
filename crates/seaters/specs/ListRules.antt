-- The seater that keeps the list's order keeps the rules.
use Rattle.std.specs.Prelude.{◌≡◌, ℕ, ◌+◌, ◌-◌, ◌<◌, ◌≤◌, List, [], map, length, slice_index_or, slice_set, refl}
use Rattle.std.proofs.Common.{sym, ◌∙◌}
use Rattle.std.proofs.Math.Path.{ap, subst}
use native.Mathlib.Omega.{arith}
use Rattle.std.proofs.Math.Decide.{dec_lt, ℕ_discrete}
use Rattle.std.specs.List.{remove, range_with_len}
use Rattle.std.proofs.lemmas.List.Edits.{length-remove, get_or-remove_below, get_or-remove_above}
use Rattle.std.proofs.lemmas.List.{length-set, get_or-set_same, get_or-set_other}
use Rattle.placement.specs.Stays.{StayBounds, Narrowed, no_stay}
use Rattle.placement.specs.Seatings.{Plan, planned, no_plan, Seated, Lawful, place_of, turned, fallen, begun_again, left_out, without}
use Rattle.placement.specs.Arcs.{InBounds}
use Rattle.placement.specs.declared.stays.Stay.{Stay}
use Rattle.placement.proofs.Easier.{lawful_narrowed, seated_sound}
use Rattle.placement.proofs.Leaving.{empty_seated, without_keeps}
use Rattle.placement.proofs.Steps.{begun_law}
use Rattle.trials.specs.Trials.{Given}
use Rattle.trials.proofs.Firsts.{first_exists, first_seated}
use Rattle.seaters.specs.Meanings.{Rules}
use Rattle.seaters.specs.ListOrders.{Decided, FirstBegun, InListOrder, order_of_list, list_order_means}
use Rattle.seaters.specs.Counting.{counting_order, counting_again, counting_left, counting_begun}

-- A list within bounds stays so when a stay is left out, or a window narrowed.
pub bounds_without : (C : ℕ) (l : List Stay) (k : ℕ) → k < length l → InBounds C l → InBounds C (remove l k)
bounds_without C l k h good i b =
    let n = length-remove l k h in
    let P : Stay → Type 0 = λ a. StayBounds C a in
    elim (dec_lt i k) [
      | yes lt ↦ subst P (sym (get_or-remove_below l k no_stay i lt h)) (good i (omega arith))
      | no ge ↦ subst P (sym (get_or-remove_above l k no_stay i (omega arith) h)) (good (i + 1) (omega arith))
    ]

pub narrowed_bounds : (C : ℕ) (a b : Stay) → Narrowed C a b → StayBounds C b → StayBounds C a
narrowed_bounds C a b n h =
    record { from = n.from; width = n.width; lead = omega (arith, n.lead, h.lead); trail = omega (arith, n.trail, h.trail); some = omega (arith, n.lead, n.trail, h.some) }

pub bounds_narrowed : (C : ℕ) (l : List Stay) (k : ℕ) (a : Stay) → k < length l → Narrowed C a (slice_index_or l k no_stay) → InBounds C l → InBounds C (slice_set l k a)
bounds_narrowed C l k a h n good i b =
    let P : Stay → Type 0 = λ x. StayBounds C x in
    let hi : i < length l = omega (arith, length-set l k a) in
    elim (ℕ_discrete i k) [
      | yes e ↦ rw e (subst P (sym (get_or-set_same l k a no_stay h)) (narrowed_bounds C a (slice_index_or l k no_stay) n (good k h)))
      | no e ↦ subst P (sym (get_or-set_other l k i a no_stay e)) (good i hi)
    ]

module _ (C p q : ℕ) (l : List Stay) (hC : 1 ≤ C) (low : C ≤ 86400) (hq : 1 ≤ q) where
  -- What the first trial comes to, begun again at the list's first.
  pub granted : (s : Plan) → Given C p q l (order_of_list l) s → Seated C p q l s → InListOrder C p q l (begun_again C 0 s)
  unfolding Lawful InListOrder begun_again
  granted s g h = elim (dec_lt 0 (length l)) [
    | yes b ↦
        let r = begun_law C p q l 0 s.order s.times hC hq h b in
        let n : 0 < length (order_of_list l) = omega (arith, (counting_order (length l)).0) in
        let k = g.1 n in
        let inside : k.place < length l = omega (arith, k.first.place, (counting_order (length l)).0) in
        let os : s.order ≡ turned k.place (order_of_list l) = ap (λ (u : Plan). u.order) k.is in
        ((r.seated, r.begins), r.order ∙ ap (λ v. turned (place_of 0 v) v) os ∙ counting_again (length l) k.place inside)
    | no b ↦
        let z : length l ≡ 0 = omega arith in
        let n : length (order_of_list l) ≡ 0 = (counting_order (length l)).0 ∙ z in
        let e : s ≡ no_plan = g.0 n in
        let empty = empty_seated C p q l z in
        let P : Plan → Type 0 = λ u. InListOrder C p q l (begun_again C 0 u) in
        subst P (sym e) (empty.0, ap (range_with_len 0) (sym z))
  ]

  pub decided : Decided C p q l
  unfolding Lawful InListOrder
  decided = record {
    order = counting_order (length l);
    none = λ f s h. f s.times (subst (λ v. Seated C p q l (planned v s.times)) h.1 h.0.0);
    sound = λ s h. seated_sound C p q l s.order s.times hC low hq h;
    granted = λ s u h g e. let P : Plan → Type 0 = λ w. InListOrder C p q l w in subst P (sym e) (granted s g h);
  }

-- A stay left out of the list's order leaves the shorter list's order.
order_without : (C : ℕ) (l : List Stay) (k : ℕ) (s : Plan) → k < length l → s.order ≡ order_of_list l → (without C k s).order ≡ order_of_list (remove l k)
unfolding without left_out begun_again
order_without C l k s h e =
    let left : map (fallen k) (remove s.order (place_of k s.order)) ≡ range_with_len 0 (length l - 1) = ap (λ v. map (fallen k) (remove v (place_of k v))) e ∙ counting_left (length l) k h in
    let n : length l - 1 ≡ length (remove l k) = omega (arith, length-remove l k h) in
    ap (λ v. turned (place_of 0 v) v) left ∙ counting_begun (length l - 1) ∙ ap (range_with_len 0) n

some_given : (C p q : ℕ) (l : List Stay) (s : Plan) → 1 ≤ C → 1 ≤ q → InBounds C l → InListOrder C p q l s → (u : Plan) × FirstBegun C p q l u
unfolding Lawful InListOrder
some_given C p q l s hC hq good g = elim (dec_lt 0 (length l)) [
  | yes b ↦
      let n : 0 < length (order_of_list l) = omega (arith, (counting_order (length l)).0) in
      let h = subst (λ v. Seated C p q l (planned v s.times)) g.1 g.0.0 in
      let f = first_exists C p q l hC hq good (order_of_list l) s.times (counting_order (length l)) n h in
      let u = planned (turned f.0 (order_of_list l)) f.1 in (
        begun_again C 0 u,
        record {
          tried = u;
          first = ((λ z. absurd (omega (arith, z, n))), λ _. record { place = f.0; times = f.1; first = f.2; is = refl });
          is = refl;
        },
      )
  | no b ↦
      let z : length (order_of_list l) ≡ 0 = omega (arith, (counting_order (length l)).0) in
      (begun_again C 0 no_plan, record { tried = no_plan; first = ((λ _. refl), λ n. absurd (omega (arith, z, n))); is = refl })
]

given : (C p q : ℕ) (l : List Stay) (s : Plan) → 1 ≤ C → C ≤ 86400 → 1 ≤ q → InBounds C l → FirstBegun C p q l s → InListOrder C p q l s
given C p q l s hC low hq good g =
    let P : Plan → Type 0 = λ w. InListOrder C p q l w in
    subst P (sym g.is) (granted C p q l hC low hq g.tried g.first (seated (dec_lt 0 (length l))))
  where
    seated : Dec (0 < length l) → Seated C p q l g.tried
    seated (yes b) =
        let k = g.first.1 (omega (arith, (counting_order (length l)).0)) in
        subst (λ u. Seated C p q l u) (sym k.is) (first_seated C p q l hC hq good (order_of_list l) k.place k.times (counting_order (length l)) k.first)
    seated (no b) =
        let z : length l ≡ 0 = omega arith in
        subst (λ u. Seated C p q l u) (sym (g.first.0 ((counting_order (length l)).0 ∙ z))) (empty_seated C p q l z).1

none_given : (C p q : ℕ) (s : Plan) → FirstBegun C p q [] s → s ≡ no_plan
unfolding begun_again
none_given C p q s g = g.is ∙ ap (begun_again C 0) (g.first.0 refl)

pub left : (C p q : ℕ) (l : List Stay) (s : Plan) (k : ℕ) → 1 ≤ C → 1 ≤ q → k < length l → Lawful C p q l s → Lawful C p q (remove l k) (without C k s)
unfolding Lawful
left C p q l s k hC hq h L = (without_keeps C p q l k s.order s.times hC hq L.0 h).lawful

pub list_order_rules : Rules list_order_means
unfolding InListOrder
list_order_rules = record {
  lawful = λ c v l s g. g.1.0;
  taken = λ c v l s g. g.0;
  few = λ c l t. t.0;
  bounded = λ c l t. t.1;
  none_taken = λ c. (omega arith, λ k h. absurd (omega arith));
  none_granted = λ c v. ((omega arith, λ k h. absurd (omega arith)), ((empty_seated c.ticks v.p v.q [] refl).0, refl));
  none_given = λ c v s g. none_given c.ticks v.p v.q s g.1;
  taken_without = λ c l k h t. (omega (arith, length-remove l k h, t.0), bounds_without c.ticks l k h t.1);
  taken_narrowed = λ c l k a h n t. (omega (arith, length-set l k a, t.0), bounds_narrowed c.ticks l k a h n t.1);
  granted_without = λ c v l s k h g. (
    (omega (arith, length-remove l k h, g.0.0), bounds_without c.ticks l k h g.0.1),
    (left c.ticks v.p v.q l s k c.bounds.0 v.bounds.2 h g.1.0, order_without c.ticks l k s h g.1.1),
  );
  granted_narrowed = λ c v l s k a h n b g. (
    (omega (arith, length-set l k a, g.0.0), bounds_narrowed c.ticks l k a h n g.0.1),
    (lawful_narrowed c.ticks v.p v.q l s k a v.bounds.2 h n b g.1.0, g.1.1 ∙ ap (range_with_len 0) (sym (length-set l k a))),
  );
  given = λ c v l s g. (g.0, given c.ticks v.p v.q l s c.bounds.0 c.bounds.1 v.bounds.2 g.0.1 g.1);
  some_given = λ c v l s g. let r = some_given c.ticks v.p v.q l s c.bounds.0 v.bounds.2 g.0.1 g.1 in (r.0, (g.0, r.1));
}
