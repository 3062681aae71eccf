use Rattle.std.proofs.Common.{arith}
use Rattle.ring.proofs.Divisors.{euclid_start, euclid_step, euclid_end}
use Rattle.ring.proofs.fractions.divisor.Goals as goal

pub loop-y-init : goal.loop-y-init
loop-y-init c = euclid_start c.args.p c.args.q c.requires

pub loop-y-preserved : goal.loop-y-preserved
loop-y-preserved c = euclid_step c.args.p c.args.q c.loop-y.x c.loop-y.y (omega arith) c.loop-y.invariant

pub returns : goal.returns
returns c = euclid_end c.args.p c.args.q c.loop-y.x c.loop-y.y (omega arith) c.loop-y.invariant
