use Rattle.std.proofs.Common.{[], ◌∷◌, get_or, vec_items, refl, subst, arith}
use Rattle.placement.specs.Stays.{no_stay}
use Rattle.placement.specs.declared.stays.Stay.{Stay}
use Rattle.search.specs.Partials.{Root}
use Rattle.search.specs.Roads.{Room}
use Rattle.search.proofs.Seats.{full_seated, none_full}
use Rattle.search.proofs.layers.from_start.Goals as goal

pub returns-in-None : goal.returns-in-None
returns-in-None c = λ os ts s.
    let l = c.args.task.stays.now in
    let room = c.in-Some.room in
    let stands : Room c.args.task.ring.ticks c.args.task.pace.p c.args.task.pace.q (get_or l c.args.t no_stay) room =
    subst (λ (s : Stay). Room c.args.task.ring.ticks c.args.task.pace.p c.args.task.pace.q s room) c.requires.1 c.in-Some.ensures in
    let begins : Root c.args.task.pace.p c.args.task.pace.q (get_or l c.args.t no_stay) c.args.t c.root.result =
    subst (λ (s : Stay). Root c.args.task.pace.p c.args.task.pace.q s c.args.t c.root.result) c.requires.1 c.root.ensures in
    let lo = c.grow.new.arena.layer in
    none_full c.args.task.ring.ticks c.args.task.pace.p c.args.task.pace.q l room c.args.t lo c.root.result (c.root.result ∷ []) (vec_items c.grow.new.arena.partials) stands begins refl c.in_ok-grow.ensures os ts c.in-None.ensures s

pub returns-in_ok-read_back-in-Some-find_full : goal.returns-in_ok-read_back-in-Some-find_full
returns-in_ok-read_back-in-Some-find_full c =
    let l = c.args.task.stays.now in
    let t = c.args.t in
    let room = c.in-Some.room in
    let stands : Room c.args.task.ring.ticks c.args.task.pace.p c.args.task.pace.q (get_or l c.args.t no_stay) room =
    subst (λ (s : Stay). Room c.args.task.ring.ticks c.args.task.pace.p c.args.task.pace.q s room) c.requires.1 c.in-Some.ensures in
    let begins : Root c.args.task.pace.p c.args.task.pace.q (get_or l c.args.t no_stay) c.args.t c.root.result =
    subst (λ (s : Stay). Root c.args.task.pace.p c.args.task.pace.q s c.args.t c.root.result) c.requires.1 c.root.ensures in
    let i = c.in-Some-find_full.i in
    let os = vec_items c.in_ok-read_back-in-Some-find_full.field-0.order in
    let ts = vec_items c.in_ok-read_back-in-Some-find_full.field-0.times in
    full_seated c.args.task.ring.ticks c.args.task.pace.p c.args.task.pace.q l room t c.grow.new.arena.layer c.root.result (c.root.result ∷ []) (vec_items c.grow.new.arena.partials) stands begins refl c.in_ok-grow.ensures i os ts (omega arith) (c.args.task.good t (omega arith)).from c.in-Some-find_full.ensures.1 c.in_ok-read_back-in-Some-find_full.ensures
