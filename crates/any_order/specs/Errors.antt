-- Why no list is seated in any order, from the search.
use Rattle.search.specs.declared.searches.NotFound.{NotFound}
use Rattle.search.specs.declared.searches.NotFound.TheVariants as search
use Rattle.seaters.specs.declared.errors.NotSeated.{NotSeated}
use Rattle.seaters.specs.declared.errors.NotSeated.TheVariants.{NotTaken, NoneGranted, NoMemory}

abbrev pub by_search : NotFound → NotSeated
by_search search.TooMany = NotTaken
by_search search.OutOfBounds = NotTaken
by_search search.NoneLawful = NoneGranted
by_search search.NoMemory = NoMemory
