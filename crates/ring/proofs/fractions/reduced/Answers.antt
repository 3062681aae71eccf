use Rattle.std.proofs.Common.{refl}
use Rattle.ring.proofs.Divisors.{reduced_by}
use Rattle.ring.proofs.fractions.reduced.Goals as goal

pub returns : goal.returns
returns c = reduced_by c.args.p c.args.q c.divisor-d.result _ _ c.requires c.divisor-d.ensures refl refl
