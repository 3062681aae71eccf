-- Lists worked by hand, in the list's order.
use Rattle.std.specs.Prelude.{List, [], ◌∷◌}
use Rattle.placement.specs.Seatings.{Plan, planned}
use Rattle.placement.specs.Worked.{trailing}
use Rattle.placement.specs.declared.stays.Stay.{Stay}
use Rattle.trials.specs.Trials.{Trial, Closes, First}
use Rattle.seaters.specs.ListOrders.{FirstBegun, InListOrder}

-- Three stays of one window, the first of them longer.
abbrev pub one_long : List Stay
one_long = trailing 0 60 60 ∷ trailing 0 60 30 ∷ trailing 0 60 30 ∷ []

pub record WorkedLists : Type 0 where
  -- on 100 a stay of 100 has the ring to itself, and one of 101 overlaps itself
  pub whole : FirstBegun 100 1 1 (trailing 10 0 100 ∷ []) (planned (0 ∷ []) (10 ∷ []))
  pub too_long : (s : Plan) → InListOrder 100 1 1 (trailing 10 0 101 ∷ []) s → ⊥
  -- on 100 two of 50 share the ring
  pub halves : FirstBegun 100 1 1 (trailing 0 10 50 ∷ trailing 45 10 50 ∷ []) (planned (0 ∷ 1 ∷ []) (0 ∷ 50 ∷ []))
  -- on 200 the trial from the first stay does not close, and that from the second does
  pub first_trial : Trial 200 1 1 one_long (0 ∷ 1 ∷ 2 ∷ []) (0 ∷ 60 ∷ 200 ∷ [])
  pub stays_open : Closes 200 1 1 one_long (0 ∷ 1 ∷ 2 ∷ []) (0 ∷ 60 ∷ 200 ∷ []) → ⊥
  pub second_trial : First 200 1 1 one_long (0 ∷ 1 ∷ 2 ∷ []) 1 (0 ∷ 30 ∷ 60 ∷ [])
  pub second_begun : FirstBegun 200 1 1 one_long (planned (0 ∷ 1 ∷ 2 ∷ []) (60 ∷ 200 ∷ 230 ∷ []))
  -- on 100 three stays that fit in one order and not in another
  pub unordered :
      (s : Plan) → InListOrder 100 1 1 (trailing 0 0 20 ∷ trailing 50 0 20 ∷ trailing 25 10 10 ∷ []) s → ⊥
  pub ordered :
      FirstBegun 100 1 1 (trailing 0 0 20 ∷ trailing 25 10 10 ∷ trailing 50 0 20 ∷ [])
      (planned (0 ∷ 1 ∷ 2 ∷ []) (0 ∷ 25 ∷ 50 ∷ []))
  -- at the pace 1/3, three ticks and a third: the next stay comes at 4
  pub thirds :
      FirstBegun 100 1 3 (trailing 0 0 10 ∷ trailing 3 1 10 ∷ []) (planned (0 ∷ 1 ∷ []) (0 ∷ 4 ∷ []))

unfoldable pub Worked : Type 0
Worked = WorkedLists
