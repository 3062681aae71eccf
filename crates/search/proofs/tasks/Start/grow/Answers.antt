use Rattle.std.proofs.Common.{[], ◌∷◌, vec_items, arith}
use Rattle.search.proofs.Growing.{grown_more}
use Rattle.search.proofs.tasks.Start.grow.Goals as goal

pub loop-k-preserved : goal.loop-k-preserved
loop-k-preserved c =
    grown_more c.args.self.task.ring.ticks c.args.self.task.pace.p c.args.self.task.pace.q c.args.self.task.stays.now c.args.self.room c.loop-k._k c.loop-k.arena.layer c.layer.new.arena.layer (c.args.root ∷ []) (vec_items c.loop-k.arena.partials) (vec_items c.layer.new.arena.partials) (omega arith) c.in_ok-layer.ensures.0 c.loop-k.invariant c.in_ok-layer.ensures.1
