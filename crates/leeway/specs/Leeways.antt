-- The leeway of an order: the greatest fraction at which a list has a seating in it.
use Rattle.std.specs.Prelude.{◌≡◌, ℕ, suc, ◌+◌, ◌*◌, ◌<◌, ◌≤◌, Bool, true, false, cond, List, length, Ok, Err, Result, nat_lt}
use Rattle.ring.specs.Fractions.{AtMost, Lowest}
use Rattle.ring.specs.declared.fractions.Fraction.{Fraction}
use Rattle.ring.specs.declared.measures.Ratio.{Ratio}
use Rattle.placement.specs.Seatings.{Plan, plan, planned, Order, Seated, Lawful, Sound, kth, place_of, turned, begun_again}
use Rattle.placement.specs.Arcs.{InBounds}
use Rattle.placement.specs.declared.stays.Stay.{Stay}
use Rattle.ring.specs.Questions.{Tells}
use Rattle.trials.specs.Trials.{Answers as TriedAnswers, Given}
use Rattle.placement.specs.declared.seatings.Seating.{Seating}
use Rattle.trials.specs.declared.errors.NoSeating.{NoSeating}
use Rattle.trials.specs.declared.errors.NoSeating.TheVariants.{NoMemory as NoTrial}
use Rattle.leeway.specs.declared.errors.NoLeeway.{NoLeeway}
use Rattle.leeway.specs.declared.leeways.Tightest.{Tightest}
use Rattle.leeway.specs.declared.errors.NoLeeway.TheVariants.{NoStay, OutOfBounds, NotAnOrder, NoRoom, NoMemory}

-- At the fraction p/q the list has a seating in the order os, over whole ticks.
pub record SeatsIn (C p q : ℕ) (l : List Stay) (os : List ℕ) : Type 0 where
  pub times : List ℕ
  pub seated : Seated C p q l (planned os times)

-- P/Q is the leeway of the order: above zero, the list has a seating in the order at it and at no
-- greater fraction, of whatever whole numbers, and it is in lowest terms.
pub record IsLeeway (C : ℕ) (l : List Stay) (os : List ℕ) (P Q : ℕ) : Type 0 where
  pub some : 1 ≤ P
  pub whole : 1 ≤ Q
  pub seats : SeatsIn C P Q l os
  pub greatest : (p q : ℕ) → 1 ≤ q → SeatsIn C p q l os → AtMost p q P Q
  pub lowest : Lowest P Q

-- A list that has stays, all within bounds, and an order of it.
pub record Asked (C : ℕ) (l : List Stay) (os : List ℕ) : Type 0 where
  pub some : 0 < length l
  pub bounds : InBounds C l
  pub order : Order (length l) os

-- At no fraction above zero has the list a seating in the order.
pub record HasNoRoom (C : ℕ) (l : List Stay) (os : List ℕ) : Type 0 where
  pub none : (p q : ℕ) → 1 ≤ p → 1 ≤ q → SeatsIn C p q l os → ⊥

-- The leeway, or why there is none.
abbrev pub Answers : ℕ → List Stay → List ℕ → Result Fraction NoLeeway → Type 0
Answers C l os (Ok f) = Asked C l os × IsLeeway C l os f.over f.under
Answers C l os (Err NoStay) = length l ≡ 0
Answers C l os (Err OutOfBounds) = (0 < length l) × (InBounds C l → ⊥)
Answers C l os (Err NotAnOrder) = (0 < length l) × InBounds C l × (Order (length l) os → ⊥)
Answers C l os (Err NoRoom) = Asked C l os × HasNoRoom C l os
Answers C l os (Err NoMemory) = Asked C l os

-- The place after k, round an order of n.
abbrev pub next_place : ℕ → ℕ → ℕ
next_place n k = cond (nat_lt (suc k) n) (suc k) 0

-- The gap behind the k-th stay of the order: its trail, and the lead of the next round the order.
abbrev pub gap_at : List Stay → List ℕ → ℕ → ℕ
gap_at l os k = (kth l os k).trail + (kth l os (next_place (length l) k)).lead

-- The largest d, up to the ring, at which the list has a seating in the order at d/g.
pub record Largest (C g : ℕ) (l : List Stay) (os : List ℕ) (d : ℕ) : Type 0 where
  pub small : d ≤ C
  pub seats : SeatsIn C d g l os
  pub largest : (e : ℕ) → e ≤ C → SeatsIn C e g l os → e ≤ d

-- A fraction at which the list has a seating in the order, with a numerator up to the ring.
pub record Kept (C : ℕ) (l : List Stay) (os : List ℕ) (f : Ratio) : Type 0 where
  pub small : f.over ≤ C
  pub seats : SeatsIn C f.over f.under l os

-- No fraction e/g, with e up to the ring, at which the list has a seating in the order is greater.
abbrev pub Bounds : ℕ → List Stay → List ℕ → ℕ → Ratio → Type 0
Bounds C l os g f = (e : ℕ) → e ≤ C → SeatsIn C e g l os → AtMost e g f.over f.under

-- f is b, or the greatest fraction over the gap g if that is greater.
pub record Raised (C : ℕ) (l : List Stay) (os : List ℕ) (b : Ratio) (g : ℕ) (f : Ratio) : Type 0 where
  pub kept : Kept C l os f
  pub no_less : AtMost b.over b.under f.over f.under
  pub bounds : 1 ≤ g → Bounds C l os g f

-- The greatest fraction at which the list has a seating in the order.
pub record Greatest (C : ℕ) (l : List Stay) (os : List ℕ) (f : Ratio) : Type 0 where
  pub seats : SeatsIn C f.over f.under l os
  pub greatest : (p q : ℕ) → 1 ≤ q → SeatsIn C p q l os → AtMost p q f.over f.under

-- What is shown of a leeway: a lawful seating at it, in the order begun with the list's first stay.
pub record Shown (C P Q : ℕ) (l : List Stay) (os : List ℕ) (s : Plan) : Type 0 where
  pub lawful : Lawful C P Q l s
  pub order : s.order ≡ turned (place_of 0 os) os

-- Trying an order of the list tells whether it has a seating in it, unless memory was wanting.
abbrev pub is_seated : Result Seating NoSeating → Bool
is_seated (Ok s) = true
is_seated (Err e) = false

pub record Decided (C p q : ℕ) (l : List Stay) (os : List ℕ) : Type 0 where
  pub tells :
      (t : Result Seating NoSeating) → Asked C l os → TriedAnswers C p q l os t → (t ≡ Err NoTrial → ⊥)
      → Tells (is_seated t) (SeatsIn C p q l os)

-- u is s begun again at the list's first, as far as s can be counted with.
abbrev pub BegunAs : ℕ → Plan → Plan → Type 0
BegunAs C s u = Sound s → u ≡ begun_again C 0 s

-- What settles the leeway: no seating at zero, a greatest fraction of zero, or a greatest fraction above
-- zero brought to lowest terms; and what the first closing trial at it shows.
pub record Settled (C : ℕ) (l : List Stay) (os : List ℕ) : Type 0 where
  pub nowhere : (SeatsIn C 0 1 l os → ⊥) → HasNoRoom C l os
  pub zero : (f : Ratio) → Greatest C l os f → f.over ≡ 0 → HasNoRoom C l os
  pub leeway :
      (f : Ratio) (r : Fraction) → Greatest C l os f → 1 ≤ f.over → r.over * f.under ≡ f.over * r.under
      → IsLeeway C l os r.over r.under
  pub shown :
      (p q : ℕ) → 1 ≤ q → Asked C l os → (s u : Plan) → Given C p q l os s → Seated C p q l s → BegunAs C s u
      → Shown C p q l os u

-- The leeway with a lawful seating at it, or why there is none.
abbrev pub Shows : ℕ → List Stay → List ℕ → Result Tightest NoLeeway → Type 0
Shows C l os (Ok t) = Answers C l os (Ok t.leeway) × Shown C t.leeway.over t.leeway.under l os (plan t.seating)
Shows C l os (Err e) = Answers C l os (Err e)
