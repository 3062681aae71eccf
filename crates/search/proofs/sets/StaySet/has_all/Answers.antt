use Rattle.std.proofs.Common.{◌≡◌, ℕ, ◌<◌, length, get_or, Bool, true, false, rules, sym, refl, subst, arith}
use Rattle.std.specs.Bool.{MatchBool}
use Rattle.std.specs.List.{AllWithin, HoldsAt, range_with_len}
use Rattle.std.proofs.lemmas.Iterator.{cases_from_all, YieldsList-from_range}
use Rattle.std.proofs.lemmas.List.FromFn.{get_or-range_with_len, length-range_with_len}
use borrow.Author.Tests.{tests}
use Rattle.search.specs.Sets.{In}
use Rattle.search.proofs.sets.StaySet.has_all.Goals as goal

-- What `all` answers of the numbers below n, where P is asked of each.
tells : (P : ℕ → Type 0) (n : ℕ) (r : Bool) → MatchBool r (AllWithin P (range_with_len 0 n) 0 (length (range_with_len 0 n))) ((k : ℕ) × (k < length (range_with_len 0 n)) × HoldsAt (λ j. P j → ⊥) (range_with_len 0 n) k) → (r ≡ true → (j : ℕ) → j < n → P j) × (((j : ℕ) → j < n → P j) → r ≡ true)
tells P n true h = (
  (λ e j b.
      let is : get_or (range_with_len 0 n) j 0 ≡ j = omega (arith, get_or-range_with_len 0 n j 0 b) in
      subst P is (h j 0 (omega arith) (omega (arith, length-range_with_len 0 n)))),
  λ f. refl,
)
tells P n false h =
    let b : h.0 < n = omega (arith, h.1, length-range_with_len 0 n) in
    let is : get_or (range_with_len 0 n) h.0 0 ≡ h.0 = omega (arith, get_or-range_with_len 0 n h.0 0 b) in
    ((λ e. cc), λ f. absurd (h.2 0 (subst P (sym is) (f h.0 b))))

pub returns : goal.returns
returns c =
    let P = λ (j : ℕ). In c.args.self.now j in
    tells P c.args.n c.all.result
    (cases_from_all _ _ _ P (λ j. P j → ⊥) c.all.ensures.ran (YieldsList-from_range 0 c.args.n c.args.n refl (omega arith)) (λ x q k. search (rules, tests)) (λ x q k. search (rules, tests)))
