use Rattle.std.proofs.Common.{◌≡◌, ℕ, refl, subst, arith}
use Rattle.search.specs.Roads.{end_of}
use Rattle.search.proofs.Bits.{free, joined_held}
use Rattle.search.proofs.layers.root.Goals as goal

pub returns : goal.returns
returns c =
    let t = c.args.t in
    let m = c.empty.result in
    let put = c.put_first-put.result in
    let s = c.args.stay.now in
    let none = c.empty.ensures in
    let P : ℕ → Type 0 = λ y. put.end ≡ end_of c.args.task.pace.p c.args.task.pace.q s y in
    record {
      only = λ j. omega (arith, joined_held m c.with.result t j (c.with.ensures.joined c.requires) (free m t (none t)), free m j (none j));
      last = refl;
      time = c.put_first-put.ensures.time;
      ends = subst P c.put_first-put.ensures.time c.put_first-put.ensures.ends;
    }
