use Rattle.std.proofs.Common.{◌≡◌, ℕ, subst, arith}
use Rattle.search.specs.Roads.{Late}
use Rattle.search.proofs.Roads.{late_none, late_end}
use Rattle.search.proofs.tasks.Start.put_after.Goals as goal

-- What holds at the numbers that were read holds at the pace's.
at_pace : (F : ℕ → ℕ → Type 0) (p p' q q' : ℕ) → p ≡ p' → q ≡ q' → F p q → F p' q'
at_pace F p p' q q' ep eq h = let G : ℕ → Type 0 = λ n. F p n in let H : ℕ → Type 0 = λ n. F n q' in subst H ep (subst G eq h)

pub returns-in_err-time : goal.returns-in_err-time
returns-in_err-time c =
    let C = c.args.self.task.ring.ticks in
    let F : ℕ → ℕ → Type 0 = λ p q. Late C p q c.args.self.room c.args.end c.args.stay.now in
    rw c.from_residual.ensures (at_pace F _ _ _ _ c.p-p.ensures c.q-q.ensures (late_none C c.p-p.result c.q-q.result c.args.self.room c.args.end c.args.stay.now (omega arith) (omega arith) c.in_err-time.ensures))

pub returns-then-ends-room : goal.returns-then-ends-room
returns-then-ends-room c =
    let C = c.args.self.task.ring.ticks in
    let F : ℕ → ℕ → Type 0 = λ p q. Late C p q c.args.self.room c.args.end c.args.stay.now in
    at_pace F _ _ _ _ c.p-p.ensures c.q-q.ensures (late_end C c.p-p.result c.q-q.result c.args.self.room c.args.end c.args.stay.now (omega arith) c.in_ok-time.time c.in_ok-time.ensures c.if-ends-room.true)
