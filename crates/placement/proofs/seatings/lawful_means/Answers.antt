use Rattle.std.proofs.Common.{vec_items}
use Rattle.placement.specs.Seatings.{Lawful, planned}
use Rattle.placement.proofs.Cases.{worked}
use Rattle.placement.proofs.Easier.{stays_lawful, below_two_rings}
use Rattle.placement.proofs.Riders.{rider, fits_from, printed}
use Rattle.placement.proofs.Unique.{determined}
use Rattle.placement.proofs.seatings.lawful_means.Goals as goal

pub returns : goal.returns
unfolding Lawful
returns c =
    let C = c.args.ring.ticks in
    let p = c.args.pace.p in
    let q = c.args.pace.q in
    let l = c.args.stays.now in
    let os = vec_items c.args.seating.now.order in
    let ts = vec_items c.args.seating.now.times in
    let hC = c.args.ring.bounds.0 in
    let hq = c.args.pace.bounds.2 in
    record {
      printed = printed;
      worked = worked;
      means =
          λ h.
          record {
            rider = rider C p q l os ts h.0;
            fits = λ xs ps. fits_from C p q l xs os ts h.0 ps;
            determined = λ good. determined C p q l c.args.pace.bounds.0 hq good (planned os ts) h;
            easier = stays_lawful C p q l os ts hq h;
            bounded = below_two_rings C p q l os ts hC hq h.0;
          };
    }
