use Rattle.std.proofs.Common.{◌≡◌, ℕ, ◌<◌, List, [], ◌∷◌, ◌++◌, reverse, length, vec_items, sym, refl, ap, ◌∙◌, subst, arith}
use Rattle.std.proofs.lemmas.List.{reverse-append}
use Rattle.search.specs.Roads.{Whole}
use Rattle.search.specs.Partials.{Begins, Reads, nth}
use Rattle.search.specs.declared.partials.Partial.{Partial}
use Rattle.search.proofs.Growing.{back_step}
use Rattle.search.proofs.partials.Arena.read_back.Goals as goal

reverse_push : (v w : List ℕ) (x : ℕ) → w ≡ v ++ x ∷ [] → reverse w ≡ x ∷ reverse v
reverse_push v w x e = ap reverse e ∙ reverse-append v (x ∷ [])

pub loop-times-preserved : goal.loop-times-preserved
loop-times-preserved c =
    let ps = c.as_slice-partials.result.now in
    let i = c.loop-times.i in
    let a = nth ps i in
    let b : i < length ps = c.loop-times.invariant.0 in
    let P : List Partial → Type 0 = λ v. (x : ℕ) → x < length v → 0 < x → (nth v x).parent < x in
    let below = subst P (sym c.as_slice-partials.ensures.value) c.requires.1 in
    let eo = reverse_push (vec_items c.loop-times.order) (vec_items c.push.new.self) a.last c.in_ok-push.ensures.items in
    let et = reverse_push (vec_items c.loop-times.times) (vec_items c.push-in-loop-times.new.self) a.time c.in_ok-push-2.ensures.items in (
      omega (arith, below i b (omega arith)),
      λ C p q l room so w.
          let O : List ℕ → Type 0 = λ v. Whole C p q l room (nth ps a.parent).set (nth ps a.parent).end v (a.time ∷ reverse (vec_items c.loop-times.times)) in
          let T : List ℕ → Type 0 = λ v. Whole C p q l room (nth ps a.parent).set (nth ps a.parent).end (reverse (vec_items c.push.new.self)) v in
          subst T (sym et) (subst O (sym eo) (back_step C p q l room (length ps) ps i _ _ so b c.if-i-eq0.false (c.loop-times.invariant.1 C p q l room so w))),
    )

pub returns : goal.returns
returns c =
    let ps = c.as_slice-partials.result.now in
    let os = vec_items c.reverse.new.self in
    let ts = vec_items c.reverse-2.new.self in
    let a = nth ps c.loop-times.i in
    let eo = c.reverse.ensures.items ∙ reverse_push (vec_items c.loop-times.order) (vec_items c.push.new.self) a.last c.in_ok-push.ensures.items in
    let et = c.reverse-2.ensures.items ∙ reverse_push (vec_items c.loop-times.times) (vec_items c.push-in-loop-times.new.self) a.time c.in_ok-push-2.ensures.items in
    let R : List Partial → Type 0 = λ v. Reads v c.args.at os ts in
    subst R c.as_slice-partials.ensures.value (λ C p q l room so w.
    let O : List ℕ → Type 0 = λ v. Begins C p q l room a v (a.time ∷ reverse (vec_items c.loop-times.times)) in
    let T : List ℕ → Type 0 = λ v. Begins C p q l room a os v in
    let B : ℕ → Type 0 = λ i. Begins C p q l room (nth ps i) os ts in
    subst B c.if-i-eq0.true (subst T (sym et) (subst O (sym eo) (refl, refl, c.loop-times.invariant.1 C p q l room so w))))
