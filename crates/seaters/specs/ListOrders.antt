-- The seater that keeps the list's order.
use Rattle.std.specs.Prelude.{◌≡◌, ℕ, ◌≤◌, List, length}
use Rattle.std.specs.List.{range_with_len}
use Rattle.ring.specs.declared.measures.Ring.{Ring}
use Rattle.placement.specs.Seatings.{Plan, planned, Order, Seated, Lawful, Sound, begun_again}
use Rattle.placement.specs.Arcs.{InBounds}
use Rattle.placement.specs.declared.stays.Stay.{Stay}
use Rattle.trials.specs.Trials.{Given}
use Rattle.seaters.specs.Meanings.{Meaning}

-- At most 64 stays, each within its bounds.
abbrev pub Takes : Ring → List Stay → Type 0
Takes c l = (length l ≤ 64) × InBounds c.ticks l

-- The order of the list itself: 0, 1, 2 and so on.
abbrev pub order_of_list : List Stay → List ℕ
order_of_list l = range_with_len 0 (length l)

-- A lawful seating that keeps it.
unfoldable pub InListOrder : ℕ → ℕ → ℕ → List Stay → Plan → Type 0
InListOrder C p q l s = Lawful C p q l s × (s.order ≡ order_of_list l)

-- The first trial that closes, begun again at the list's first.
pub record FirstBegun (C p q : ℕ) (l : List Stay) (s : Plan) : Type 0 where
  pub tried : Plan
  pub first : Given C p q l (order_of_list l) tried
  pub is : s ≡ begun_again C 0 tried

abbrev pub list_order_means : Meaning
list_order_means =
    record {
      takes = Takes;
      grants = λ c v l s. Takes c l × InListOrder c.ticks v.p v.q l s;
      gives = λ c v l s. Takes c l × FirstBegun c.ticks v.p v.q l s;
    }

-- Trials along the list's order decide it: where none closes no seating is granted, and what the first
-- that closes comes to, begun again at the list's first, is granted.
pub record Decided (C p q : ℕ) (l : List Stay) : Type 0 where
  pub order : Order (length l) (order_of_list l)
  pub none :
      ((ts : List ℕ) → Seated C p q l (planned (order_of_list l) ts) → ⊥)
      → (s : Plan) → InListOrder C p q l s → ⊥
  pub sound : (s : Plan) → Seated C p q l s → Sound s
  pub granted :
      (s u : Plan) → Seated C p q l s → Given C p q l (order_of_list l) s → u ≡ begun_again C 0 s → InListOrder C p q l u
