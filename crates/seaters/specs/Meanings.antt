-- What a seater means, what it answers, and the rules that every seater keeps.
use Rattle.std.specs.Prelude.{◌≡◌, ℕ, ◌<◌, ◌≤◌, List, [], length, Ok, Err, Result, slice_index_or, slice_set}
use Rattle.std.specs.List.{remove}
use Rattle.ring.specs.declared.measures.Ring.{Ring}
use Rattle.ring.specs.declared.measures.Pace.{Pace}
use Rattle.placement.specs.Windows.{Holds}
use Rattle.placement.specs.Stays.{Narrowed, no_stay}
use Rattle.placement.specs.Seatings.{Plan, Lawful, no_plan, time_of, without}
use Rattle.placement.specs.Arcs.{InBounds}
use Rattle.placement.specs.declared.stays.Stay.{Stay}
use Rattle.seaters.specs.declared.errors.NotSeated.{NotSeated}
use Rattle.seaters.specs.declared.errors.NotSeated.TheVariants.{NotTaken, NoneGranted, NoMemory}

-- Which lists a seater takes on a ring, which seatings of a list it grants at a pace, and which of
-- them it may give.
pub record Meaning : Type 1 where
  pub takes : Ring → List Stay → Type 0
  pub grants : Ring → Pace → List Stay → Plan → Type 0
  pub gives : Ring → Pace → List Stay → Plan → Type 0

-- What a seater answers for a list, where the place held the seating `old` and then holds `new`.
abbrev pub Told : Meaning → Ring → Pace → List Stay → Plan → Result (Unit {0}) NotSeated → Plan → Type 0
Told M c v l old (Err NotTaken) new = (M.takes c l → ⊥) × (new ≡ old)
Told M c v l old (Err NoneGranted) new = M.takes c l × ((s : Plan) → M.grants c v l s → ⊥) × (new ≡ old)
Told M c v l old (Err NoMemory) new = new ≡ old
Told M c v l old (Ok u) new = M.takes c l × M.grants c v l new × M.gives c v l new

pub record Rules (M : Meaning) : Type 0 where
  -- what is granted is lawful, and its list taken
  pub lawful :
      (c : Ring) (v : Pace) (l : List Stay) (s : Plan) → M.grants c v l s
      → Lawful c.ticks v.p v.q l s
  pub taken : (c : Ring) (v : Pace) (l : List Stay) (s : Plan) → M.grants c v l s → M.takes c l
  -- a list that is taken has at most 64 stays, each within its bounds
  pub few : (c : Ring) (l : List Stay) → M.takes c l → length l ≤ 64
  pub bounded : (c : Ring) (l : List Stay) → M.takes c l → InBounds c.ticks l
  -- the empty list is taken, its empty seating granted, and nothing else given for it
  pub none_taken : (c : Ring) → M.takes c []
  pub none_granted : (c : Ring) (v : Pace) → M.grants c v [] no_plan
  pub none_given : (c : Ring) (v : Pace) (s : Plan) → M.gives c v [] s → s ≡ no_plan
  -- a list stays taken when a stay is left out, or a window narrowed
  pub taken_without :
      (c : Ring) (l : List Stay) (k : ℕ) → k < length l → M.takes c l → M.takes c (remove l k)
  pub taken_narrowed :
      (c : Ring) (l : List Stay) (k : ℕ) (a : Stay) → k < length l
      → Narrowed c.ticks a (slice_index_or l k no_stay) → M.takes c l → M.takes c (slice_set l k a)
  -- a seating stays granted when a stay is left out, or a window narrowed that still holds its
  -- stay's time
  pub granted_without :
      (c : Ring) (v : Pace) (l : List Stay) (s : Plan) (k : ℕ) → k < length l → M.grants c v l s
      → M.grants c v (remove l k) (without c.ticks k s)
  pub granted_narrowed :
      (c : Ring) (v : Pace) (l : List Stay) (s : Plan) (k : ℕ) (a : Stay) → k < length l
      → Narrowed c.ticks a (slice_index_or l k no_stay) → Holds c.ticks a.window (time_of k s)
      → M.grants c v l s → M.grants c v (slice_set l k a) s
  -- what may be given is granted, and where something is granted something may be given
  pub given : (c : Ring) (v : Pace) (l : List Stay) (s : Plan) → M.gives c v l s → M.grants c v l s
  pub some_given :
      (c : Ring) (v : Pace) (l : List Stay) (s : Plan) → M.grants c v l s → (u : Plan) × M.gives c v l u
