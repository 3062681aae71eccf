use Rattle.std.proofs.Common.{rules, ◌≡◌, ℕ, ◌<◌, ◌≤◌, Some, None, IsOk, List, [], ◌∷◌, ◌++◌, length, vec_items, inl, inr, sym, refl, ap, ◌∙◌, subst, arith}
use Rattle.std.proofs.lemmas.List.{get_or_read}
use Rattle.std.specs.HashMap.{get}
use Rattle.std.specs.Map.{lookup, update}
use Rattle.search.specs.Partials.{Placed, no_partial, nth, same_set}
use Rattle.search.specs.declared.partials.Partial.{Partial}
use Rattle.search.specs.declared.sets.StaySet.{StaySet}
use Rattle.search.proofs.Places.{placed_new, placed_push, placed_set}
use Rattle.search.proofs.partials.Arena.keep.Goals as goal

pub index-requires : goal.index-requires
index-requires c =
    let s = c.args.self.now in
    let e : get same_set s.places c.args.a.set ≡ Some c.in-Some.x = sym c.find.ensures ∙ c.in-Some.is in
    omega (arith, (s.placed.found c.args.a.set c.in-Some.x e).1, s.partials.ok.0)

pub index_mut-requires : goal.index_mut-requires
index_mut-requires c =
    let s = c.args.self.now in
    let e : get same_set s.places c.args.a.set ≡ Some c.in-Some.x = sym c.find.ensures ∙ c.in-Some.is in
    omega (arith, (s.placed.found c.args.a.set c.in-Some.x e).1, s.partials.ok.0)

pub invariant_of-self : goal.invariant_of-self
invariant_of-self c =
    let s = c.args.self.now in
    let e : get same_set s.places c.args.a.set ≡ Some c.in-Some.x = sym c.find.ensures ∙ c.in-Some.is in
    record { placed = placed_set (vec_items s.partials) s.layer (get same_set s.places) c.args.a c.in-Some.x s.placed e }

pub returns-then-a-index-clause-kept : goal.returns-then-a-index-clause-kept
returns-then-a-index-clause-kept c =
    let s = c.args.self.now in
    let e : get same_set s.places c.args.a.set ≡ Some c.in-Some.x = sym c.find.ensures ∙ c.in-Some.is in
    let r = s.placed.found c.args.a.set c.in-Some.x e in
    let is : c.index.result.now ≡ nth (vec_items s.partials) c.in-Some.x = get_or_read (vec_items s.partials) c.in-Some.x c.index.result.now r.1 c.index.ensures no_partial in
    inr (c.in-Some.x, r.0, r.1, r.2, inr (refl, omega (arith, c.if-a-index.true, ap (λ (v : Partial). v.end) is)))

pub returns-else-a-index-clause-kept : goal.returns-else-a-index-clause-kept
returns-else-a-index-clause-kept c =
    let s = c.args.self.now in
    let e : get same_set s.places c.args.a.set ≡ Some c.in-Some.x = sym c.find.ensures ∙ c.in-Some.is in
    let r = s.placed.found c.args.a.set c.in-Some.x e in
    let is : c.index.result.now ≡ nth (vec_items s.partials) c.in-Some.x = get_or_read (vec_items s.partials) c.in-Some.x c.index.result.now r.1 c.index.ensures no_partial in
    inr (c.in-Some.x, r.0, r.1, r.2, inl (refl, omega (arith, c.if-a-index.false, ap (λ (v : Partial). v.end) is)))

-- What is not put into the map leaves it as it was.
pub invariant_of-self-in-Break-branch-2 : goal.invariant_of-self-in-Break-branch-2
invariant_of-self-in-Break-branch-2 c =
    let s = c.args.self.now in
    let F : List (StaySet × ℕ) → Type 0 = λ es. Placed (vec_items s.partials) s.layer (λ m. lookup (same_set m) es) in
    let G : List Partial → Type 0 = λ ps. Placed ps s.layer (get same_set c.insert.new.self) in
    record { placed = subst G (sym c.in_ok-reserve.ensures.items) (subst F (sym c.in_err-insert.ensures.err) s.placed) }

pub invariant_of-self-2 : goal.invariant_of-self-2
invariant_of-self-2 c =
    let s = c.args.self.now in
    let ps = vec_items s.partials in
    let none : get same_set s.places c.args.a.set ≡ None = sym c.find.ensures ∙ c.in_default.is in
    let ok : IsOk c.push.result = search rules in
    let items : vec_items c.push.new.self ≡ ps ++ c.args.a ∷ [] = (rw ok at c.push.ensures.items) ∙ ap (λ v. v ++ c.args.a ∷ []) c.in_ok-reserve.ensures.items in
    let n : c.len.result ≡ length ps = omega (arith, c.len.ensures, ap length c.in_ok-reserve.ensures.items, c.reserve.new.self.ok.0) in
    let U : ℕ → Type 0 = λ k. (q : StaySet) → get same_set c.insert.new.self q ≡ update same_set (get same_set s.places) c.args.a.set (Some k) q in
    let G : List Partial → Type 0 = λ v. Placed v s.layer (get same_set c.insert.new.self) in
    record { placed = subst G (sym items) (placed_push ps s.layer (get same_set s.places) (get same_set c.insert.new.self) c.args.a s.placed none (subst U n c.in_ok-insert.ensures.updates.0)) }

pub returns-clause-kept : goal.returns-clause-kept
returns-clause-kept c =
    let s = c.args.self.now in
    let none : get same_set s.places c.args.a.set ≡ None = sym c.find.ensures ∙ c.in_default.is in
    let ok : IsOk c.push.result = search rules in
    inl ((rw ok at c.push.ensures.items) ∙ ap (λ v. v ++ c.args.a ∷ []) c.in_ok-reserve.ensures.items, placed_new (vec_items s.partials) s.layer (get same_set s.places) c.args.a.set s.placed none)
