use Rattle.std.proofs.Common.{ℕ, ◌<◌, None}
use Rattle.search.specs.Searches.{FromStart}
use Rattle.search.specs.Tasks.{of_task}
use Rattle.search.proofs.searches.from_all.Given as goal

abbrev pub invariant-loop-t : goal.invariant-loop-t
invariant-loop-t l = (u : ℕ) → u < l.t → of_task FromStart l.task u None
