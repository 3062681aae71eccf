-- Why a list is not seated: from the trials of one order, and how it is written.
use Rattle.std.specs.Prelude.{ℕ, List, codes}
use Rattle.trials.specs.declared.errors.NoSeating.{NoSeating}
use Rattle.trials.specs.declared.errors.NoSeating.TheVariants.{OutOfBounds, NotAnOrder, NoneCloses, NoMemory}
use Rattle.seaters.specs.declared.errors.NotSeated.{NotSeated}
use Rattle.seaters.specs.declared.errors.NotSeated.TheVariants.{NotTaken, NoneGranted}

-- Of a seater that tries one order of every list that it takes.
abbrev pub by_trials : NoSeating → NotSeated
by_trials OutOfBounds = NotTaken
by_trials NotAnOrder = NotTaken
by_trials NoneCloses = NoneGranted
by_trials NoMemory = NotSeated.NoMemory

abbrev pub no_text : NotSeated → List ℕ
no_text NotTaken = codes "not taken"
no_text NoneGranted = codes "not granted"
no_text NotSeated.NoMemory = codes "no memory"
