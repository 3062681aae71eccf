-- Stays: a window, and what is taken before and after the position, its lead and its trail.
use Rattle.std.specs.Prelude.{◌≡◌, ℕ, ◌+◌, ◌*◌, ◌<◌, ◌≤◌, List, ◌++◌, codes, decimal}
use Rattle.placement.specs.Windows.{Narrower, window_text}
use Rattle.placement.specs.declared.stays.Stay.{Stay}

-- A stay within its bounds, on a ring of C ticks.
pub record StayBounds (C : ℕ) (s : Stay) : Type 0 where
  pub from : s.window.from < C
  pub width : s.window.width < C
  pub lead : s.lead ≤ 40000
  pub trail : s.trail ≤ 40000
  pub some : 1 ≤ s.lead + s.trail

-- What stands for a stay where there is none.
abbrev pub no_stay : Stay
no_stay = record { window = record { from = 0; width = 0 }; lead = 0; trail = 0 }

-- a is b with a window of some of b's positions.
pub record Narrowed (C : ℕ) (a b : Stay) : Type 0 where
  pub from : a.window.from < C
  pub width : a.window.width < C
  pub lead : a.lead ≡ b.lead
  pub trail : a.trail ≡ b.trail
  pub window : Narrower C a.window b.window

-- At the pace p/q, b at y comes after a at x: there is room between them for a's trail and b's lead.
abbrev pub Apart : ℕ → ℕ → Stay → ℕ → Stay → ℕ → Type 0
Apart p q a x b y = p * (a.trail + b.lead) + q * x ≤ q * y

-- How a stay is written.
abbrev pub stay_text : Stay → List ℕ
stay_text s =
    codes "window " ++ (window_text s.window ++ (codes ", lead " ++ (decimal s.lead ++ (codes ", trail " ++ decimal s.trail))))
