use Rattle.std.proofs.Common.{ℕ, vec_items, refl, ap, ◌∙◌, subst, arith}
use Rattle.search.specs.Partials.{Kept}
use Rattle.search.specs.declared.partials.Partial.{Partial}
use Rattle.search.proofs.Bits.{not_held}
use Rattle.search.proofs.Steps.{expanded_skip, expanded_more}
use Rattle.search.proofs.tasks.Start.expand.Goals as goal

-- No stay that is left ends past the room.
pub loop-j-preserved-in_default : goal.loop-j-preserved-in_default
loop-j-preserved-in_default c =
    let C = c.args.self.task.ring.ticks in
    let p = c.args.self.task.pace.p in
    let q = c.args.self.task.pace.q in
    let l = c.args.self.task.stays.now in
    let old = vec_items c.args.arena.now.partials in
    let a = c.args.a in
    let j = c.loop-j.j in
    record {
      layer = c.loop-j.invariant.layer;
      expanded = expanded_skip C p q l c.args.arena.now.layer a.set a.end c.args.soon j old (vec_items c.loop-j.arena.partials) c.loop-j.invariant.expanded
          (λ z. let r = c.requires.alive.each j c.loop-j-test.true z in omega (arith, r.3, c.in_default.ensures r.0 r.1.holds r.1.after));
    }

pub loop-j-preserved : goal.loop-j-preserved
loop-j-preserved c =
    let C = c.args.self.task.ring.ticks in
    let p = c.args.self.task.pace.p in
    let q = c.args.self.task.pace.q in
    let l = c.args.self.task.stays.now in
    let old = vec_items c.args.arena.now.partials in
    let a = c.args.a in
    let i = c.args.i in
    let j = c.loop-j.j in
    let put = c.in-Some.put in
    let f = c.in-Some.ensures in
    let b : Partial = record { set = c.with.result; end = put.end; last = j; time = put.time; parent = i } in
    let z = not_held a.set j c.if-has.ensures.1 in
    let K : ℕ → Type 0 = λ h. Kept (vec_items c.loop-j.arena.partials) (vec_items c.keep.new.self.partials) h b in
    record {
      layer = c.keep.ensures.layer ∙ c.loop-j.invariant.layer;
      expanded = expanded_more C p q l c.args.arena.now.layer a.set a.end c.args.soon j old (vec_items c.loop-j.arena.partials) (vec_items c.keep.new.self.partials) b put.time c.loop-j.invariant.expanded (omega arith) z (ap (λ (v : Partial). v.set) c.requires.place.1) (ap (λ (v : Partial). v.end) c.requires.place.1) c.requires.place.0 refl refl (c.with.ensures.joined (omega (arith, c.args.self.task.few))) f.next f.ends (subst K c.loop-j.invariant.layer c.in_ok-keep.ensures.kept);
    }
