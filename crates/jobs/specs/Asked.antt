-- The two questions put to the numbers of a job, as they are handed in by a form or a file.
use Rattle.std.specs.Prelude.{◌≡◌, ℕ, ◌<◌, ◌≤◌, List, [], ◌∷◌}
use Rattle.ring.specs.Questions.{Question}
use Rattle.jobs.specs.declared.raw.RawDetails.{RawDetails}

abbrev pub InNumberBounds : ℕ → Type 0
InNumberBounds number = (1 ≤ number) × (number ≤ 1048575)

-- On a ring of so many ticks: the kind is one of three, the window lies on the ring, and the length
-- is 1 to 40,000, that of a zone 1 to 1,023.
pub record DetailsBounds (ticks : ℕ) (d : RawDetails) : Type 0 where
  pub kind : d.kind ≤ 2
  pub from : d.from < ticks
  pub width : d.width < ticks
  pub some : 1 ≤ d.length
  pub long : d.length ≤ 40000
  pub zone : d.kind ≡ 2 → d.length ≤ 1023

abbrev pub details_questions : ℕ → RawDetails → List Question
details_questions ticks d = (4, DetailsBounds ticks d) ∷ []

abbrev pub job_questions : ℕ → ℕ → RawDetails → List Question
job_questions ticks number d = (3, InNumberBounds number) ∷ details_questions ticks d
