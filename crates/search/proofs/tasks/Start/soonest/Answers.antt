use Rattle.search.proofs.Bits.{not_held}
use Rattle.search.proofs.Looks.{soonest_more}
use Rattle.search.proofs.tasks.Start.soonest.Goals as goal

pub loop-j-preserved : goal.loop-j-preserved
loop-j-preserved c =
    let a = c.args.a in
    let j = c.loop-j.j in
    let put = c.in_ok-put.put in
    soonest_more c.args.self.task.ring.ticks c.args.self.task.pace.p c.args.self.task.pace.q c.args.self.task.stays.now c.args.self.room a.set a.end j c.loop-j.best c.min-best.result put.time put.end c.loop-j.invariant (not_held a.set j c.if-has.ensures.1) c.in_ok-put.ensures c.min-best.ensures
