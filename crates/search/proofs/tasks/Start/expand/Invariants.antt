use Rattle.std.proofs.Common.{◌≡◌, vec_items}
use Rattle.search.specs.Partials.{Expanded}
use Rattle.search.specs.Tasks.{of_task}
use Rattle.search.proofs.tasks.Start.expand.Given as goal

abbrev pub invariant-loop-j : goal.invariant-loop-j
invariant-loop-j l = record {
  layer : l.arena.layer ≡ l.initial.arena.layer;
  expanded : of_task Expanded l.self.task l.initial.arena.layer l.a.set l.a.end l.soon l.j (vec_items l.initial.arena.partials) (vec_items l.arena.partials);
}
