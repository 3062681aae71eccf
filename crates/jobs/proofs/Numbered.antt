-- A kind's number tells the kind.
use Rattle.std.proofs.Common.{◌≡◌}
use Rattle.jobs.specs.Kinds.{kind_number}
use Rattle.jobs.specs.declared.kinds.Kind.{Kind}
use Rattle.jobs.specs.declared.kinds.Kind.TheVariants.{PickUp, Drop, Zone}

pub same_kind : (a b : Kind) → kind_number a ≡ kind_number b → a ≡ b
same_kind PickUp PickUp e = cc
same_kind PickUp Drop e = cc
same_kind PickUp Zone e = cc
same_kind Drop PickUp e = cc
same_kind Drop Drop e = cc
same_kind Drop Zone e = cc
same_kind Zone PickUp e = cc
same_kind Zone Drop e = cc
same_kind Zone Zone e = cc
