-- Seatings worked by hand.
use Rattle.std.specs.Prelude.{ℕ, [], ◌∷◌}
use Rattle.placement.specs.Seatings.{Plan, Lawful, planned}
use Rattle.placement.specs.declared.stays.Stay.{Stay}

abbrev pub trailing : ℕ → ℕ → ℕ → Stay
trailing from width n = record { window = record { from = from; width = width }; lead = 0; trail = n }

abbrev pub leading : ℕ → ℕ → ℕ → Stay
leading from width n = record { window = record { from = from; width = width }; lead = n; trail = 0 }

pub record WorkedSeatings : Type 0 where
  -- on 10 at the pace 1/2, half a tick before and half a tick after: rounding each up would not fit
  pub halves :
      Lawful 10 1 2 (trailing 0 0 1 ∷ leading 1 0 1 ∷ []) (planned (0 ∷ 1 ∷ []) (0 ∷ 1 ∷ []))
  -- on 100 a drop and a trailing share a position, in either order of the list
  pub shared :
      Lawful 100 1 1 (leading 40 0 10 ∷ trailing 40 0 10 ∷ []) (planned (0 ∷ 1 ∷ []) (40 ∷ 40 ∷ []))
  pub shared_turned :
      Lawful 100 1 1 (trailing 40 0 10 ∷ leading 40 0 10 ∷ []) (planned (0 ∷ 1 ∷ []) (40 ∷ 140 ∷ []))
  -- on 100 a stay of the ring's length fits, and a longer one overlaps itself
  pub whole : Lawful 100 1 1 (trailing 10 0 100 ∷ []) (planned (0 ∷ []) (10 ∷ []))
  pub too_long : (s : Plan) → Lawful 100 1 1 (trailing 10 0 101 ∷ []) s → ⊥
  -- on 200, three stays in windows that end before the second can come
  pub three :
      Lawful 200 1 1 (trailing 0 60 60 ∷ trailing 0 60 30 ∷ trailing 0 60 30 ∷ [])
      (planned (0 ∷ 1 ∷ 2 ∷ []) (60 ∷ 200 ∷ 230 ∷ []))
