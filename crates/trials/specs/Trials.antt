-- Trials along an order: whether a list can be seated in it, stay by stay.
use Rattle.std.specs.Prelude.{◌≡◌, ℕ, ◌+◌, ◌^◌, ◌<◌, ◌≤◌, Bool, List, [], ◌∷◌, length, get_or, Some, None, vec_items, Option, Vec, slice_index, slice_index_or, Result, Ok, Err, codes}
use Rattle.placement.specs.Windows.{Holds}
use Rattle.placement.specs.Stays.{Apart, no_stay}
use Rattle.placement.specs.Seatings.{Plan, plan, planned, no_plan, Seated, Order, turned}
use Rattle.placement.specs.Arcs.{InBounds}
use Rattle.placement.specs.declared.stays.Stay.{Stay}
use Rattle.ring.specs.Questions.{Tells}
use Rattle.std.specs.declared.alloc.Global.{Global}
use Rattle.placement.specs.declared.seatings.Seating.{Seating}
use Rattle.trials.specs.declared.errors.NoSeating.{NoSeating}
use Rattle.trials.specs.declared.errors.NoSeating.TheVariants.{OutOfBounds, NotAnOrder, NoneCloses, NoMemory}

-- The least time y of b that its window and the apart rule allow after a at x.
pub record Least (C p q : ℕ) (a : Stay) (x : ℕ) (b : Stay) (y : ℕ) : Type 0 where
  pub holds : Holds C b.window y
  pub apart : Apart p q a x b y
  pub least : (z : ℕ) → Holds C b.window z → Apart p q a x b z → y ≤ z

-- From the stay a at x on, each stay of the order at its least time after the one before.
abbrev pub Followers : ℕ → ℕ → ℕ → List Stay → ℕ → ℕ → List ℕ → List ℕ → Type 0
Followers C p q l a x [] [] = Unit {0}
Followers C p q l a x [] (t ∷ ts) = ⊥
Followers C p q l a x (o ∷ os) [] = ⊥
Followers C p q l a x (o ∷ os) (t ∷ ts) =
    Least C p q (slice_index_or l a no_stay) x (slice_index_or l o no_stay) t × Followers C p q l o t os ts

-- The trial along an order has its first stay at the first position of its window.
abbrev pub Trial : ℕ → ℕ → ℕ → List Stay → List ℕ → List ℕ → Type 0
Trial C p q l [] ts = ⊥
Trial C p q l (o ∷ os) [] = ⊥
Trial C p q l (o ∷ os) (t ∷ ts) = (t ≡ (get_or l o no_stay).window.from) × Followers C p q l o t os ts

-- The last of x and the list behind it.
abbrev pub last_of : {X : Type 0} → X → List X → X
last_of x [] = x
last_of x (y ∷ ys) = last_of y ys

-- A trial closes if its last stay is apart from its first, taken one ring later.
abbrev pub Closes : ℕ → ℕ → ℕ → List Stay → List ℕ → List ℕ → Type 0
Closes C p q l [] ts = ⊥
Closes C p q l (o ∷ os) [] = ⊥
Closes C p q l (o ∷ os) (t ∷ ts) =
    Apart p q (slice_index_or l (last_of o os) no_stay) (last_of t ts) (slice_index_or l o no_stay) (t + C)

-- The trial closes exactly if this stay, its last, at this time is apart from its first.
abbrev pub EndsIt : ℕ → ℕ → ℕ → List Stay → List ℕ → List ℕ → Stay → ℕ → Stay → Type 0
EndsIt C p q l os ts last at first =
    (Apart p q last at first (first.window.from + C) → Closes C p q l os ts)
    × (Closes C p q l os ts → Apart p q last at first (first.window.from + C))

-- What one trial came to.
abbrev pub Attempted : ℕ → ℕ → ℕ → List Stay → List ℕ → List ℕ → Bool → Type 0
Attempted C p q l os ts closes = Trial C p q l os ts × Tells closes (Closes C p q l os ts)

-- No trial along the order has indexes of the list only and times of 64 bits only.
abbrev pub NoAttempt : ℕ → ℕ → ℕ → List Stay → List ℕ → Type 0
NoAttempt C p q l os =
    ((k : ℕ) → k < length os → slice_index os k < length l) → (ts : List ℕ) → Trial C p q l os ts
    → ((k : ℕ) → k < length os → slice_index ts k < 2 ^ 64) → ⊥

-- The first trial that closes: that along the order begun at its place t, with the times ts.
pub record First (C p q : ℕ) (l : List Stay) (os : List ℕ) (t : ℕ) (ts : List ℕ) : Type 0 where
  pub place : t < length os
  pub trial : Trial C p q l (turned t os) ts
  pub closes : Closes C p q l (turned t os) ts
  pub earlier : (u : ℕ) (us : List ℕ) → u < t → Trial C p q l (turned u os) us → Closes C p q l (turned u os) us → ⊥

-- If the list has any seating in the order, some trial closes, and so there is a first one.
unfoldable pub Complete : ℕ → ℕ → ℕ → List Stay → List ℕ → Type 0
Complete C p q l os =
    InBounds C l → Order (length l) os → 0 < length os → (ts : List ℕ) → Seated C p q l (planned os ts)
    → (t : ℕ) × (us : List ℕ) × First C p q l os t us

-- The seating of the list in the order that the first closing trial gives, begun at that trial's stay.
pub record Closing (C p q : ℕ) (l : List Stay) (os : List ℕ) (s : Plan) : Type 0 where
  pub place : ℕ
  pub times : List ℕ
  pub first : First C p q l os place times
  pub is : s ≡ planned (turned place os) times

-- Of the empty list it is the empty one.
abbrev pub Given : ℕ → ℕ → ℕ → List Stay → List ℕ → Plan → Type 0
Given C p q l os s = (length os ≡ 0 → s ≡ no_plan) × (0 < length os → Closing C p q l os s)

-- What the search for the first closing trial found.
abbrev pub Found : ℕ → ℕ → ℕ → List Stay → List ℕ → Option (ℕ × Vec ℕ Global) → Type 0
Found C p q l os (Some r) =
    First C p q l os r.0 (vec_items r.1) × Seated C p q l (planned (turned r.0 os) (vec_items r.1))
Found C p q l os None = (ts : List ℕ) → Seated C p q l (planned os ts) → length os ≡ 0

-- What trying an order answers: the first closing trial, or that the list has no seating in the order
-- at all.
abbrev pub Answers : ℕ → ℕ → ℕ → List Stay → List ℕ → Result Seating NoSeating → Type 0
Answers C p q l os (Err OutOfBounds) = InBounds C l → ⊥
Answers C p q l os (Err NotAnOrder) = InBounds C l × (Order (length l) os → ⊥)
Answers C p q l os (Err NoneCloses) =
    InBounds C l × Order (length l) os × ((ts : List ℕ) → Seated C p q l (planned os ts) → ⊥)
Answers C p q l os (Err NoMemory) = InBounds C l × Order (length l) os
Answers C p q l os (Ok s) =
    InBounds C l × Order (length l) os × Given C p q l os (plan s) × Seated C p q l (plan s)

-- How each no is written.
abbrev pub no_text : NoSeating → List ℕ
no_text OutOfBounds = codes "a stay is out of bounds"
no_text NotAnOrder = codes "not an order of the list"
no_text NoneCloses = codes "no seating in this order"
no_text NoMemory = codes "no memory"
