-- What a search answers.
use Rattle.std.specs.Prelude.{ℕ, ◌<◌, ◌≤◌, List, ◌∷◌, length, Some, None, Option, Ok, Err, Result, slice_index_or, codes}
use Rattle.placement.specs.Stays.{no_stay}
use Rattle.placement.specs.Seatings.{Plan, plan, planned, Seated, Lawful}
use Rattle.placement.specs.Arcs.{InBounds}
use Rattle.placement.specs.declared.stays.Stay.{Stay}
use Rattle.placement.specs.declared.seatings.Seating.{Seating}
use Rattle.search.specs.declared.searches.NotFound.{NotFound}
use Rattle.search.specs.declared.searches.NotFound.TheVariants.{TooMany, OutOfBounds, NoneLawful, NoMemory}

-- The list can be searched: it has at most 64 stays, each within its bounds.
abbrev pub Searchable : ℕ → List Stay → Type 0
Searchable C l = (length l ≤ 64) × InBounds C l

-- A lawful seating of the list wherever there is one: `NoneLawful` says that there is none whatever.
abbrev pub Answers : ℕ → ℕ → ℕ → List Stay → Result Seating NotFound → Type 0
Answers C p q l (Err TooMany) = 64 < length l
Answers C p q l (Err OutOfBounds) = (length l ≤ 64) × (InBounds C l → ⊥)
Answers C p q l (Err NoneLawful) = Searchable C l × ((s : Plan) → Lawful C p q l s → ⊥)
Answers C p q l (Err NoMemory) = Searchable C l
Answers C p q l (Ok s) = Searchable C l × Lawful C p q l (plan s)

-- What is found from the start t: a seating, or that none has the stay t first, at its window's first
-- position.
abbrev pub FromStart : ℕ → ℕ → ℕ → List Stay → ℕ → Option Seating → Type 0
FromStart C p q l t (Some s) = Seated C p q l (plan s)
FromStart C p q l t None =
    (os ts : List ℕ) → Seated C p q l (planned (t ∷ os) ((slice_index_or l t no_stay).window.from ∷ ts)) → ⊥

-- What is found from all starts: a seating, or that there is none.
abbrev pub FromAll : ℕ → ℕ → ℕ → List Stay → Result Seating NotFound → Type 0
FromAll C p q l (Ok s) = Seated C p q l (plan s)
FromAll C p q l (Err NoneLawful) = (s : Plan) → Lawful C p q l s → ⊥
FromAll C p q l (Err NoMemory) = Unit {0}
FromAll C p q l (Err TooMany) = ⊥
FromAll C p q l (Err OutOfBounds) = ⊥

-- How each no is written.
abbrev pub no_text : NotFound → List ℕ
no_text TooMany = codes "more than 64 stays"
no_text OutOfBounds = codes "a stay is out of bounds"
no_text NoneLawful = codes "no lawful seating"
no_text NoMemory = codes "no memory"
