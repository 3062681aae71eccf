use Rattle.std.proofs.Common.{ℕ, ◌∷◌, List, sym, subst, rules}
use Rattle.trials.specs.Trials.{NoAttempt}
use Rattle.trials.proofs.attempts.trial.Goals as goal

pub returns-in_default-2 : goal.returns-in_default-2
returns-in_default-2 c =
    let P : List ℕ → Type 0 = λ os. NoAttempt c.args.ring.ticks c.args.ratio.over c.args.ratio.under c.args.stays.now os in
    let none : P (c.in-Some.head.now ∷ c.in-Some.others.now) = search rules in
    subst P (sym c.in-Some.ensures.cases.0) none
