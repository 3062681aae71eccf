-- Layers above any seater: what they mean, from what the seater below means.
use Rattle.std.specs.Prelude.{◌≡◌, ℕ, ◌+◌, ◌<◌, ◌≤◌, List, [], ◌∷◌, ◌++◌, map, length, get_or, slice_index_or}
use Rattle.ring.specs.declared.measures.Ring.{Ring}
use Rattle.ring.specs.declared.measures.Pace.{Pace}
use Rattle.placement.specs.Stays.{StayBounds, no_stay}
use Rattle.placement.specs.Seatings.{Plan, no_plan, without}
use Rattle.placement.specs.declared.stays.Stay.{Stay}
use Rattle.seaters.specs.Meanings.{Meaning}

-- The depot: its stay is put last in every list but the empty one, and left out of what comes back.
pub record WithDepot (below : Ring → Pace → List Stay → Plan → Type 0) (depot : Stay) (c : Ring) (v : Pace) (l : List Stay) (s : Plan) : Type 0 where
  pub longer : Plan
  pub allowed : below c v (l ++ depot ∷ []) longer
  pub is : s ≡ without c.ticks (length l) longer

abbrev pub DepotLets : (Ring → Pace → List Stay → Plan → Type 0) → Stay → Ring → Pace → List Stay → Plan → Type 0
DepotLets below depot c v l s =
    (length l ≡ 0 → s ≡ no_plan) × (0 < length l → WithDepot below depot c v l s)

abbrev pub depot_means : Stay → Meaning → Meaning
depot_means depot M =
    record {
      takes = λ c l. 0 < length l → M.takes c (l ++ depot ∷ []);
      grants = DepotLets M.grants depot;
      gives = DepotLets M.gives depot;
    }

-- The margin: every trail is that much longer.
abbrev pub widened : ℕ → Stay → Stay
widened m a = record { window = a.window; lead = a.lead; trail = a.trail + m }

-- Each stay is within its bounds, and its trail can take the margin.
abbrev pub Widens : ℕ → ℕ → List Stay → Type 0
Widens m C l =
    (k : ℕ) → k < length l → StayBounds C (slice_index_or l k no_stay) × ((get_or l k no_stay).trail + m ≤ 40000)

abbrev pub MarginLets : (Ring → Pace → List Stay → Plan → Type 0) → ℕ → Ring → Pace → List Stay → Plan → Type 0
MarginLets below m c v l s =
    (length l ≡ 0 → s ≡ no_plan)
    × (0 < length l → (m ≤ 1000) × Widens m c.ticks l × below c v (map (widened m) l) s)

abbrev pub margin_means : ℕ → Meaning → Meaning
margin_means m M =
    record {
      takes = λ c l. 0 < length l → (m ≤ 1000) × Widens m c.ticks l × M.takes c (map (widened m) l);
      grants = MarginLets M.grants m;
      gives = MarginLets M.gives m;
    }
