use Rattle.std.proofs.Common.{arith, lit<, lit≤}
use Rattle.jobs.proofs.Carried.{carried, one_radius}
use Rattle.jobs.specs.Radii.{WorkedRadii}
use Rattle.jobs.proofs.radii.radii.Goals as goal

worked : WorkedRadii
worked =
    record {
      one = record { low = lit≤ tt; high = lit< tt };
      two = record { low = lit≤ tt; high = lit< tt };
      most = record { low = lit≤ tt; high = lit< tt };
    }

pub returns-clause-each : goal.returns-clause-each
returns-clause-each c =
    λ value h. carried c.table.result.now c.table.ensures.rule value (omega (arith, c.table.ensures.size))

pub returns-clause-laws : goal.returns-clause-laws
returns-clause-laws c = (one_radius, worked)
