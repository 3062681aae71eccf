-- Leeways worked by hand, on a ring of 100.
use Rattle.std.specs.Prelude.{[], ◌∷◌}
use Rattle.placement.specs.Worked.{trailing, leading}
use Rattle.leeway.specs.Leeways.{SeatsIn, IsLeeway}

pub record WorkedLeeways : Type 0 where
  -- 33/20, and not 5/3, which whole ticks do not reach
  pub three :
      IsLeeway 100 (trailing 0 0 20 ∷ trailing 25 10 10 ∷ trailing 50 0 20 ∷ []) (0 ∷ 1 ∷ 2 ∷ []) 33 20
  pub not_reached :
      SeatsIn 100 5 3 (trailing 0 0 20 ∷ trailing 25 10 10 ∷ trailing 50 0 20 ∷ []) (0 ∷ 1 ∷ 2 ∷ []) → ⊥
  -- two stays that fill the ring
  pub full : IsLeeway 100 (trailing 0 10 50 ∷ trailing 45 10 50 ∷ []) (0 ∷ 1 ∷ []) 1 1
  -- two pick-ups and a drop
  pub with_drop :
      IsLeeway 100 (trailing 0 0 20 ∷ trailing 25 10 10 ∷ leading 60 10 20 ∷ []) (0 ∷ 1 ∷ 2 ∷ []) 7 5

unfoldable pub Worked : Type 0
Worked = WorkedLeeways
