-- The radius of a zone, and the test that the table of radii passes.
use Rattle.std.specs.Prelude.{◌≡◌, ℕ, suc, ◌+◌, ◌*◌, ◌<◌, ◌≤◌, Bool, true, false, List, [], ◌∷◌, nat_le, nat_lt}

-- The radius of a value is the largest r with r times r at most 100 times the value.
pub record Radius (value r : ℕ) : Type 0 where
  pub low : r * r ≤ 100 * value
  pub high : 100 * value < (r + 1) * (r + 1)

-- A value has one radius.
abbrev pub OneRadius : Type 0
OneRadius = (value r s : ℕ) → Radius value r → Radius value s → r ≡ s

abbrev pub both : Bool → Bool → Bool
both true b = b
both false b = false

-- The test f passes at each entry of the list and its place, counted from i.
abbrev pub every : (ℕ → ℕ → Bool) → ℕ → List ℕ → Bool
every f i [] = true
every f i (x ∷ xs) = both (f i x) (every f (suc i) xs)

-- Radius as a test.
abbrev pub is_radius : ℕ → ℕ → Bool
is_radius value r = both (nat_le (r * r) (100 * value)) (nat_lt (100 * value) ((r + 1) * (r + 1)))

-- Three radii worked by hand.
pub record WorkedRadii : Type 0 where
  pub one : Radius 1 10
  pub two : Radius 2 14
  pub most : Radius 1023 319
