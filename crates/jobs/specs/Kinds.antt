-- The three kinds of job, and what each takes before and after its position.
use Rattle.std.specs.Prelude.{◌≡◌, ℕ, ◌<◌, List, Result, MatchResult, codes}
use Rattle.jobs.specs.declared.kinds.Kind.{Kind}
use Rattle.jobs.specs.declared.kinds.Kind.TheVariants.{PickUp, Drop, Zone}
use Rattle.jobs.specs.declared.kinds.UnknownKind.{UnknownKind}
use Rattle.jobs.specs.declared.kinds.Arms.{Arms}
use Rattle.jobs.specs.Radii.{Radius}

-- The number by which a kind is handed in.
abbrev pub kind_number : Kind → ℕ
kind_number PickUp = 0
kind_number Drop = 1
kind_number Zone = 2

-- A number is turned into the kind that has it, or given back where no kind has it.
abbrev pub Numbered : ℕ → Result Kind UnknownKind → Type 0
Numbered number r = MatchResult r (λ k. kind_number k ≡ number) (λ e. (e.0 ≡ number) × (2 < number))

-- The word by which a kind is printed.
abbrev pub kind_word : Kind → List ℕ
kind_word PickUp = codes "pick-up"
kind_word Drop = codes "drop"
kind_word Zone = codes "zone"

-- A pick-up takes its length after its position, a drop before it, and a zone's length is a value
-- whose radius it takes on both sides.
abbrev pub ArmsOf : Kind → ℕ → Arms → Type 0
ArmsOf PickUp length a = (a.lead ≡ 0) × (a.trail ≡ length)
ArmsOf Drop length a = (a.lead ≡ length) × (a.trail ≡ 0)
ArmsOf Zone length a = Radius length a.lead × Radius length a.trail
