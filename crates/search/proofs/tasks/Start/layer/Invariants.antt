use Rattle.std.proofs.Common.{◌≡◌, vec_items}
use Rattle.search.specs.Partials.{Layered}
use Rattle.search.specs.Tasks.{of_task}
use Rattle.search.proofs.tasks.Start.layer.Given as goal

abbrev pub invariant-loop-i : goal.invariant-loop-i
invariant-loop-i l = record {
  layer : l.arena.layer ≡ l.initial.arena.layer;
  made : of_task Layered l.self.task l.self.room l.lo l.i (vec_items l.initial.arena.partials) (vec_items l.arena.partials);
}
