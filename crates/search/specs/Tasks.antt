-- A task, in place of its ring's ticks, its pace's numbers and its stays.
use Rattle.std.specs.Prelude.{ℕ, List}
use Rattle.placement.specs.declared.stays.Stay.{Stay}
use Rattle.search.specs.declared.tasks.Task.{Task}

-- What F says of these four.
abbrev pub of_task : {A : Type 1} → (ℕ → ℕ → ℕ → List Stay → A) → Task → A
of_task F t = F t.ring.ticks t.pace.p t.pace.q t.stays.now
