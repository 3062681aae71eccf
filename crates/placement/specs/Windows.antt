-- Windows on a ring of C ticks.
use Rattle.std.specs.Prelude.{ℕ, ◌+◌, ◌-◌, ◌%◌, ◌≤◌, List, ◌++◌, codes, decimal}
use Rattle.placement.specs.declared.windows.Window.{Window}

-- How far round the ring the time x lies past the window's first position.
abbrev pub offset : ℕ → Window → ℕ → ℕ
offset C w x = (x + (C - w.from)) % C

-- The time x lies in the window: in one of the width + 1 positions counted upward from its first.
abbrev pub Holds : ℕ → Window → ℕ → Type 0
Holds C w x = offset C w x ≤ w.width

-- Every position of v lies in w.
abbrev pub Narrower : ℕ → Window → Window → Type 0
Narrower C v w = (x : ℕ) → Holds C v x → Holds C w x

-- The least time of the window that is not before `low`.
pub record Earliest (C : ℕ) (w : Window) (low r : ℕ) : Type 0 where
  pub holds : Holds C w r
  pub late : low ≤ r
  pub least : (y : ℕ) → low ≤ y → Holds C w y → r ≤ y

-- How a window is written.
abbrev pub window_text : Window → List ℕ
window_text w = decimal w.from ++ (codes " +" ++ decimal w.width)
