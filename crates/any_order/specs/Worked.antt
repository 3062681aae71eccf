-- Lists worked by hand, in any order.
use Rattle.std.specs.Prelude.{◌≡◌, List, [], ◌∷◌, length}
use Rattle.std.proofs.Common.{lit≤}
use Rattle.ring.specs.declared.measures.Ring.{Ring}
use Rattle.ring.specs.declared.measures.Pace.{Pace}
use Rattle.placement.specs.Seatings.{Plan, planned}
use Rattle.placement.specs.Worked.{trailing}
use Rattle.placement.specs.declared.stays.Stay.{Stay}
use Rattle.seaters.specs.Layers.{depot_means}
use Rattle.seaters.specs.Meanings.{Meaning}
use Rattle.any_order.specs.AnyOrders.{any_order_means}

abbrev pub hundred : Ring
hundred = record { ticks = 100; bounds = (lit≤ tt, lit≤ tt) }

abbrev pub one_to_one : Pace
one_to_one = record { p = 1; q = 1; bounds = (lit≤ tt, lit≤ tt, lit≤ tt, lit≤ tt) }

-- Under a depot that takes 40 ticks after position 0.
abbrev pub under_depot : Meaning
under_depot = depot_means (trailing 0 0 40) any_order_means

pub record WorkedAny : Type 0 where
  -- on 100 three stays that do not fit in the list's order
  pub ordered :
      any_order_means.grants hundred one_to_one (trailing 0 0 20 ∷ trailing 50 0 20 ∷ trailing 25 10 10 ∷ [])
      (planned (0 ∷ 2 ∷ 1 ∷ []) (0 ∷ 25 ∷ 50 ∷ []))
  -- on 100 under the depot a stay of 60 has one position, and one of 61 has none
  pub sits : under_depot.grants hundred one_to_one (trailing 0 99 60 ∷ []) (planned (0 ∷ []) (40 ∷ []))
  pub nowhere_else :
      (s : Plan) → under_depot.grants hundred one_to_one (trailing 0 99 60 ∷ []) s
      → s ≡ planned (0 ∷ []) (40 ∷ [])
  pub too_long : (s : Plan) → under_depot.grants hundred one_to_one (trailing 0 99 61 ∷ []) s → ⊥
  -- a list of 13 is not taken, and under a depot one of 12
  pub thirteen : (c : Ring) (l : List Stay) → length l ≡ 13 → any_order_means.takes c l → ⊥
  pub twelve :
      (c : Ring) (l : List Stay) (depot : Stay) → length l ≡ 12 → (depot_means depot any_order_means).takes c l → ⊥

unfoldable pub Worked : Type 0
Worked = WorkedAny
