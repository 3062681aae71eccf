-- Why an order has no leeway: from the trials at zero, and how it is written.
use Rattle.std.specs.Prelude.{◌≡◌, ℕ, List, Result, MatchResult, codes}
use Rattle.trials.specs.declared.errors.NoSeating.{NoSeating}
use Rattle.trials.specs.declared.errors.NoSeating.TheVariants as trial
use Rattle.leeway.specs.declared.errors.NoLeeway.{NoLeeway}
use Rattle.leeway.specs.declared.errors.NoLeeway.TheVariants.{NoStay, OutOfBounds, NotAnOrder, NoRoom, NoMemory}

abbrev pub by_trials : NoSeating → NoLeeway
by_trials trial.OutOfBounds = OutOfBounds
by_trials trial.NotAnOrder = NotAnOrder
by_trials trial.NoneCloses = NoRoom
by_trials trial.NoMemory = NoMemory

abbrev pub no_text : NoLeeway → List ℕ
no_text NoStay = codes "an empty list"
no_text OutOfBounds = codes "a stay is out of bounds"
no_text NotAnOrder = codes "not an order of the list"
no_text NoRoom = codes "no seating above zero"
no_text NoMemory = codes "no memory"

-- What P says of the value, unless memory was wanting.
abbrev pub UnlessMemory : {T : Type 0} → (T → Type 0) → Result T NoLeeway → Type 0
UnlessMemory P r = MatchResult r P (λ e. e ≡ NoMemory)
