-- The bounds of a ring and of a pace, and the questions that ask for them.
use Rattle.std.specs.Prelude.{ℕ, ◌≤◌, List, [], ◌∷◌}
use Rattle.ring.specs.Questions.{Question}

-- A ring has 1 to 86,400 ticks, as many as a day has seconds.
abbrev pub InRingBounds : ℕ → Type 0
InRingBounds ticks = (1 ≤ ticks) × (ticks ≤ 86400)

-- A pace is p/q with p and q each from 1 to 1,000.
abbrev pub InPaceBounds : ℕ → ℕ → Type 0
InPaceBounds p q = (1 ≤ p) × (p ≤ 1000) × (1 ≤ q) × (q ≤ 1000)

abbrev pub ring_questions : ℕ → List Question
ring_questions ticks = (1, InRingBounds ticks) ∷ []

abbrev pub pace_questions : ℕ → ℕ → List Question
pace_questions p q = (2, InPaceBounds p q) ∷ []
