-- The seater that seats a list in any order.
use Rattle.std.specs.Prelude.{ℕ, ◌≤◌, List, map, length, Ok, Err, Result, slice_index_or}
use Rattle.ring.specs.declared.measures.Ring.{Ring}
use Rattle.ring.specs.declared.measures.Pace.{Pace}
use Rattle.placement.specs.Stays.{no_stay}
use Rattle.placement.specs.Seatings.{Plan, Order, Lawful}
use Rattle.placement.specs.Arcs.{Fits, InBounds, OnRing}
use Rattle.placement.specs.declared.stays.Stay.{Stay}
use Rattle.seaters.specs.Meanings.{Meaning}
use Rattle.seaters.specs.declared.errors.NotSeated.{NotSeated}
use Rattle.seaters.specs.declared.errors.NotSeated.TheVariants.{NotTaken, NoneGranted, NoMemory}

-- At most 12 stays, each within its bounds.
abbrev pub TakesFew : Ring → List Stay → Type 0
TakesFew c l = (length l ≤ 12) × InBounds c.ticks l

-- Any lawful seating of such a list, whatever its order: all of them are granted, and which of them is
-- given is left free.
abbrev pub AnyLawful : Ring → Pace → List Stay → Plan → Type 0
AnyLawful c v l s = TakesFew c l × Lawful c.ticks v.p v.q l s

abbrev pub any_order_means : Meaning
any_order_means = record { takes = TakesFew; grants = AnyLawful; gives = AnyLawful }

-- Positions exist, one on the ring for each stay of the list, that lie in their windows with no two
-- stays overlapping and none overlapping itself.
pub record CanFit (C p q : ℕ) (l : List Stay) : Type 0 where
  pub positions : List ℕ
  pub on_ring : OnRing C l positions
  pub fit : Fits C p q l positions

-- A list of at most 12 stays within bounds is seated exactly if it can fit.
abbrev pub Decides : Ring → Pace → List Stay → Result (Unit {0}) NotSeated → Type 0
Decides c v l (Err NotTaken) = TakesFew c l → ⊥
Decides c v l (Err NoneGranted) = TakesFew c l × (CanFit c.ticks v.p v.q l → ⊥)
Decides c v l (Ok u) = TakesFew c l × CanFit c.ticks v.p v.q l
Decides c v l (Err NoMemory) = TakesFew c l

-- A list that can fit has a lawful seating, and one that has a lawful seating can fit.
pub record Fitting (C p q : ℕ) (l : List Stay) : Type 0 where
  pub seats : CanFit C p q l → (s : Plan) × Lawful C p q l s
  pub fits : (s : Plan) → Lawful C p q l s → CanFit C p q l

abbrev pub Fitted : Ring → Pace → List Stay → Type 0
Fitted c v l = InBounds c.ticks l → Fitting c.ticks v.p v.q l

-- The list in another order.
abbrev pub rearranged : List ℕ → List Stay → List Stay
rearranged os l = map (λ i. slice_index_or l i no_stay) os

-- Whether a list is taken, and whether a seating of it is granted, is the same for it in the order os.
pub record SameAnswer (c : Ring) (v : Pace) (l : List Stay) (os : List ℕ) : Type 0 where
  pub taken : TakesFew c l → TakesFew c (rearranged os l)
  pub taken_back : TakesFew c (rearranged os l) → TakesFew c l
  pub granted : (s : Plan) → AnyLawful c v l s → (u : Plan) × AnyLawful c v (rearranged os l) u
  pub granted_back : (u : Plan) → AnyLawful c v (rearranged os l) u → (s : Plan) × AnyLawful c v l s

unfoldable pub SameInAnyOrder : Ring → Pace → List Stay → Type 0
SameInAnyOrder c v l = (os : List ℕ) → Order (length l) os → SameAnswer c v l os
