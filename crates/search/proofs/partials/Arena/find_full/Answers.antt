use Rattle.std.proofs.Common.{ℕ, ◌<◌, ◌≤◌, Some, None, Option, MatchOption, List, length, subst, rules}
use Rattle.std.proofs.lemmas.Iterator.{first_from_Range}
use borrow.Author.Tests.{tests}
use Rattle.search.specs.Partials.{Full, nth}
use Rattle.search.specs.declared.partials.Partial.{Partial}
use Rattle.search.proofs.partials.Arena.find_full.Goals as goal

found : (lo n : ℕ) (P : ℕ → Type 0) (r : Option ℕ) → MatchOption r ((x : ℕ) → lo ≤ x → x < n → P x → ⊥) (λ x. (lo ≤ x) × (x < n) × P x × ((k : ℕ) → lo ≤ k → k < x → P k → ⊥)) → MatchOption r ((x : ℕ) → lo ≤ x → x < n → P x → ⊥) (λ x. (x < n) × P x)
found lo n P None h = h
found lo n P (Some x) h = (h.1, h.2)

pub returns : goal.returns
returns c =
    let n = c.args.n in
    let room = c.args.room in
    let lo = c.args.self.now.layer in
    let ps = c.as_slice-partials.result.now in
    let P = λ (x : ℕ). Full n room (nth ps x) in
    let M : List Partial → Type 0 = λ v. MatchOption c.find.result ((x : ℕ) → lo ≤ x → x < length v → Full n room (nth v x) → ⊥) (λ x. (x < length v) × Full n room (nth v x)) in
    subst M c.as_slice-partials.ensures.value
    (found lo (length ps) P c.find.result
    (first_from_Range _ _ _ _ P (λ x. P x → ⊥) c.find.ensures.ran (λ x q k. search (rules, tests)) (λ x q k. search (rules, tests))))
