use Rattle.std.proofs.Common.{◌≡◌, ℕ, ◌+◌, ◌<◌, List, length, vec_items, sym, ap, ◌∙◌, subst, arith}
use Rattle.std.proofs.lemmas.List.{get_or_read}
use Rattle.search.specs.Partials.{Dead, Expanded, Layered, Looked, Soonest, no_partial, nth}
use Rattle.search.specs.declared.partials.Arena.{Arena}
use Rattle.search.specs.declared.partials.Partial.{Partial}
use Rattle.search.proofs.Growing.{layered_more, layered_dead, layered_all}
use Rattle.search.proofs.tasks.Start.layer.Goals as goal
use Rattle.search.proofs.tasks.Start.layer.Goals.{in-Some+in_ok-expand, in_default}

pub loop-i-preserved : goal.loop-i-preserved
loop-i-preserved c =
    let C = c.args.self.task.ring.ticks in
    let p = c.args.self.task.pace.p in
    let q = c.args.self.task.pace.q in
    let l = c.args.self.task.stays.now in
    let room = c.args.self.room in
    let lo = c.args.arena.now.layer in
    let old = vec_items c.begin_layer.new.self.partials in
    let mid = vec_items c.loop-i.arena.partials in
    let i = c.loop-i.i in
    let a = c.index-a.result.now in
    let y = c.loop-i.invariant.made in
    let n : c.loop-i.arena.layer ≡ length old = omega (arith, c.loop-i.invariant.layer, c.begin_layer.ensures.layer, ap length c.begin_layer.ensures.same) in
    let hi : i < length old = omega (arith, n, c.loop-i.invariant.layer) in
    let is : a ≡ nth mid i = get_or_read mid i a (omega (arith, y.long)) c.index-a.ensures no_partial in
    let L : Arena → Type 0 = λ v. v.layer ≡ c.begin_layer.new.self.layer in
    let E : Arena → Type 0 = λ v. Layered C p q l room lo (i + 1) old (vec_items v.partials) in
    elim c.match-soonest.branch [
      | in-Some+in_ok-expand w ↦
          let D : Partial → Type 0 = λ v. Soonest C p q l room v.set v.end (length l) w.in-Some.soon in
          let X : ℕ → Type 0 = λ h. Expanded C p q l h a.set a.end w.in-Some.soon (length l) mid (vec_items w.expand.new.arena.partials) in
          let Y : Partial → Type 0 = λ v. Expanded C p q l (length old) v.set v.end w.in-Some.soon (length l) mid (vec_items w.expand.new.arena.partials) in
          record {
            layer = subst L (sym w.arena-is) (w.expand.ensures.layer ∙ c.loop-i.invariant.layer);
            made = subst E (sym w.arena-is) (layered_more C p q l room lo i w.in-Some.soon old mid (vec_items w.expand.new.arena.partials) hi y (subst D is w.in-Some.ensures) (subst Y is (subst X n w.in_ok-expand.ensures.expanded)));
          }
      | in_default w ↦
          let G = λ (o : _). Looked C p q l room a.set a.end o in
          let D : Partial → Type 0 = λ v. Dead C p q l room v.set v.end in
          record {
            layer = subst L (sym w.arena-is) c.loop-i.invariant.layer;
            made = subst E (sym w.arena-is) (layered_dead C p q l room lo i old mid hi y (subst D is (subst G w.in_default.is c.soonest.ensures)));
          }
    ]

pub returns : goal.returns
returns c =
    let C = c.args.self.task.ring.ticks in
    let p = c.args.self.task.pace.p in
    let q = c.args.self.task.pace.q in
    let l = c.args.self.task.stays.now in
    let old = vec_items c.begin_layer.new.self.partials in
    let new = vec_items c.loop-i.arena.partials in
    let P : List Partial → Type 0 = λ v. Layered C p q l c.args.self.room c.args.arena.now.layer (length v) v new in
    let n : c.loop-i.arena.layer ≡ length (vec_items c.args.arena.now.partials) = omega (arith, c.loop-i.invariant.layer, c.begin_layer.ensures.layer) in
    (n, subst P c.begin_layer.ensures.same (layered_all C p q l c.args.self.room c.args.arena.now.layer c.loop-i.i old new (omega (arith, c.begin_layer.ensures.layer, ap length c.begin_layer.ensures.same)) c.loop-i.invariant.made))
