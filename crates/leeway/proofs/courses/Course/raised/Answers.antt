use Rattle.std.proofs.Common.{◌≡◌, ℕ, ◌+◌, ◌*◌, ◌/◌, ◌≤◌, sym, ap, ◌∙◌, subst, arith}
use Rattle.leeway.specs.Leeways.{SeatsIn, Largest}
use Rattle.leeway.proofs.Greatest.{same_raised, new_raised, below, not_both}
use Rattle.leeway.proofs.courses.Course.raised.Goals as goal

next : (a b g p q : ℕ) → a ≡ p → b ≡ q → a * g / b + 1 ≡ p * g / q + 1
next a b g p q e f = ap (λ n. n * g / b + 1) e ∙ ap (λ n. p * g / n + 1) f

-- One tick more has no seating.
pub returns-then-not-branch : goal.returns-then-not-branch
returns-then-not-branch c =
    let C = c.args.self.ring.ticks in
    let l = c.args.self.stays.now in
    let os = c.args.self.order.now in
    let e = next c.over.result c.under.result c.args.gap c.args.best.over c.args.best.under c.over.ensures c.under.ensures in
    let r = c.in-Some.next in
    let is = c.in-Some.ensures in
    let whole : 1 ≤ c.args.gap = omega (arith, is.1, r.whole) in
    let fails : SeatsIn C r.over c.args.gap l os → ⊥ = λ s. not_both c.if-not-branch.true (c.in_ok-seats.ensures.1 (subst (λ n. SeatsIn C r.over n l os) (sym is.1) s)) in
    same_raised C l os c.args.best c.args.gap c.requires (λ x h s. omega (arith, e, is.0, below C c.args.gap r.over x l os whole fails s))

pub returns : goal.returns
returns c =
    let C = c.args.self.ring.ticks in
    let l = c.args.self.stays.now in
    let os = c.args.self.order.now in
    let e = next c.over.result c.under.result c.args.gap c.args.best.over c.args.best.under c.over.ensures c.under.ensures in
    let is = c.in-Some.ensures in
    let m = c.in_ok-most.ensures in
    let w = c.with_over.ensures in
    let large = subst (λ n. Largest C n l os c.with_over.result.over) is.1 (subst (λ n. Largest C c.in-Some.next.under l os n) (sym w.0) m.0) in
    new_raised C l os c.args.best c.with_over.result c.args.gap c.requires (omega (arith, e, is.0, m.1, w.0)) (w.1 ∙ is.1) large
