use Rattle.std.proofs.Common.{[], ◌∷◌, vec_items}
use Rattle.search.specs.Partials.{Grown}
use Rattle.search.specs.Tasks.{of_task}
use Rattle.search.proofs.tasks.Start.grow.Given as goal

abbrev pub invariant-loop-k : goal.invariant-loop-k
invariant-loop-k l =
    of_task Grown l.self.task l.self.room l._k l.arena.layer (l.fn.root ∷ []) (vec_items l.arena.partials)
