use Rattle.search.specs.Partials.{Soonest}
use Rattle.search.specs.Tasks.{of_task}
use Rattle.search.proofs.tasks.Start.soonest.Given as goal

abbrev pub invariant-loop-j : goal.invariant-loop-j
invariant-loop-j l =
    of_task Soonest l.self.task l.self.room l.a.set l.a.end l.j l.best
