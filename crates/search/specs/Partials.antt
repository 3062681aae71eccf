-- Partial seatings, kept in a list layer after layer: those of one stay more come behind.
use Rattle.std.specs.Prelude.{◌≡◌, ◌==◌, ℕ, Bool, ◌+◌, ◌<◌, ◌≤◌, ◌⊎◌, List, [], ◌∷◌, ◌++◌, length, get_or, Some, None, Option, slice_index_or, slice_set}
use Rattle.placement.specs.Windows.{Holds}
use Rattle.placement.specs.Stays.{no_stay}
use Rattle.placement.specs.declared.stays.Stay.{Stay}
use Rattle.search.specs.Sets.{held, In, Joined}
use Rattle.search.specs.Roads.{end_of, After, Next, Late, Waits, Whole, one}
use Rattle.search.specs.declared.sets.StaySet.{StaySet}
use Rattle.search.specs.declared.partials.Partial.{Partial}

-- What stands for a partial seating where there is none.
abbrev pub no_partial : Partial
no_partial = record { set = record { bits = 0 }; end = 0; last = 0; time = 0; parent = 0 }

-- The partial seating at the place x.
abbrev pub nth : List Partial → ℕ → Partial
nth ps x = slice_index_or ps x no_partial

-- A partial seating of k stays, of the set m, that ends at e can be completed within the room.
pub record Good (C p q : ℕ) (l : List Stay) (room k : ℕ) (m : StaySet) (e : ℕ) : Type 0 where
  pub js : List ℕ
  pub ts : List ℕ
  pub long : length js + k ≡ length l
  pub whole : Whole C p q l room m e js ts

-- A stay that is left ends too late, wherever it is put.
pub record Dead (C p q : ℕ) (l : List Stay) (room : ℕ) (m : StaySet) (e : ℕ) : Type 0 where
  pub stay : ℕ
  pub below : stay < length l
  pub fresh : held m stay ≡ 0
  pub late : Late C p q room e (slice_index_or l stay no_stay)

-- Each of the stays below n that are left ends within the room at its least time, and b is the least
-- of these ends, or the room.
pub record Soonest (C p q : ℕ) (l : List Stay) (room : ℕ) (m : StaySet) (e n b : ℕ) : Type 0 where
  pub each :
      (j : ℕ) → j < n → held m j ≡ 0
      → (y : ℕ) × Next C p q e (slice_index_or l j no_stay) y × (b ≤ end_of p q (slice_index_or l j no_stay) y) × (end_of p q (slice_index_or l j no_stay) y ≤ room)
  pub within : b ≤ room
  pub some :
      ((j : ℕ) × (y : ℕ) × (j < n) × (held m j ≡ 0) × Next C p q e (slice_index_or l j no_stay) y × (end_of p q (slice_index_or l j no_stay) y ≡ b)) ⊎ (b ≡ room)

-- What a look at the stays that are left tells: the least end, or that one of them ends too late.
abbrev pub Looked : ℕ → ℕ → ℕ → List Stay → ℕ → StaySet → ℕ → Option ℕ → Type 0
Looked C p q l room m e None = Dead C p q l room m e
Looked C p q l room m e (Some b) = Soonest C p q l room m e (length l) b

-- From the place lo on there is a partial seating of the set m that ends no later than e.
abbrev pub Covered : List Partial → ℕ → StaySet → ℕ → Type 0
Covered ps lo m e = (x : ℕ) × (lo ≤ x) × (x < length ps) × ((nth ps x).set ≡ m) × ((nth ps x).end ≤ e)

-- Whether two sets are the same.
abbrev pub same_set : StaySet → StaySet → Bool
same_set a b = a.bits == b.bits

-- Each partial seating from the place lo on is found by its set, and nothing else is. So no two of
-- them have the same set.
pub record Placed (ps : List Partial) (lo : ℕ) (place : StaySet → Option ℕ) : Type 0 where
  pub below : lo ≤ length ps
  pub each : (x : ℕ) → lo ≤ x → x < length ps → place (nth ps x).set ≡ Some x
  pub found : (m : StaySet) (x : ℕ) → place m ≡ Some x → (lo ≤ x) × (x < length ps) × ((nth ps x).set ≡ m)

-- The partial seating a was kept from the place lo on: it came to the end, where none had its set, or
-- in the place of one of its set that ends later, or it was left out for one of its set that ends no
-- later.
abbrev pub Kept : List Partial → List Partial → ℕ → Partial → Type 0
Kept old new lo a =
    ((new ≡ old ++ a ∷ []) × ((x : ℕ) → lo ≤ x → x < length old → (nth old x).set ≡ a.set → ⊥))
    ⊎ ((x : ℕ) × (lo ≤ x) × (x < length old) × ((nth old x).set ≡ a.set)
    × (((new ≡ old) × ((nth old x).end ≤ a.end)) ⊎ ((new ≡ slice_set old x a) × (a.end < (nth old x).end))))

-- The partial seating b is one of the set m that ends at e, with one stay more.
pub record Step (C p q : ℕ) (l : List Stay) (m : StaySet) (e : ℕ) (b : Partial) : Type 0 where
  pub below : b.last < length l
  pub fresh : held m b.last ≡ 0
  pub more : Joined m b.last b.set
  pub holds : Holds C (get_or l b.last no_stay).window b.time
  pub after : After p q e (slice_index_or l b.last no_stay) b.time
  pub ends : b.end ≡ end_of p q (slice_index_or l b.last no_stay) b.time

-- Each partial seating but the first is a step from one before it, which lies below hi.
abbrev pub Sound : ℕ → ℕ → ℕ → List Stay → ℕ → List Partial → Type 0
Sound C p q l hi ps =
    (x : ℕ) → x < length ps
    → (x ≡ 0)
    ⊎ (((nth ps x).parent < x) × ((nth ps x).parent < hi)
    × Step C p q l (nth ps (nth ps x).parent).set (nth ps (nth ps x).parent).end (nth ps x))

-- Every stay below n that is left was put after the partial seating of the set m that ends at e,
-- unless another, which ends at b, fits before it. What lies below hi is as it was.
pub record Expanded (C p q : ℕ) (l : List Stay) (hi : ℕ) (m : StaySet) (e b n : ℕ) (old new : List Partial) : Type 0 where
  pub long : hi ≤ length new
  pub front : (x : ℕ) → x < hi → nth new x ≡ nth old x
  pub sound : Sound C p q l hi new
  pub keeps : (r : StaySet) (f : ℕ) → Covered old hi r f → Covered new hi r f
  pub covers :
      (j : ℕ) → j < n → held m j ≡ 0
      → (y : ℕ) × Next C p q e (slice_index_or l j no_stay) y
      × (((r : StaySet) × Joined m j r × Covered new hi r (end_of p q (slice_index_or l j no_stay) y)) ⊎ Waits p q b (slice_index_or l j no_stay) y (end_of p q (slice_index_or l j no_stay) y))

-- From the place lo on there is a partial seating of k stays that can be completed.
abbrev pub Any : ℕ → ℕ → ℕ → List Stay → ℕ → ℕ → ℕ → List Partial → Type 0
Any C p q l room k lo ps =
    (x : ℕ) × (lo ≤ x) × (x < length ps) × Good C p q l room k (nth ps x).set (nth ps x).end

-- The next layer, made from the places lo to i: where one of these can be completed, so can one of it.
pub record Layered (C p q : ℕ) (l : List Stay) (room lo i : ℕ) (old new : List Partial) : Type 0 where
  pub long : length old ≤ length new
  pub front : (x : ℕ) → x < length old → nth new x ≡ nth old x
  pub sound : Sound C p q l (length old) new
  pub good :
      (k x : ℕ) → k < length l → lo ≤ x → x < i → Good C p q l room k (nth old x).set (nth old x).end
      → Any C p q l room (k + 1) (length old) new

-- Layers were made up to that of k stays, which begins at lo: where the first partial seating can be
-- completed, so can one of these.
pub record Grown (C p q : ℕ) (l : List Stay) (room k lo : ℕ) (old new : List Partial) : Type 0 where
  pub some : 0 < length new
  pub sound : Sound C p q l (length new) new
  pub first : nth new 0 ≡ nth old 0
  pub any : Good C p q l room 1 (nth old 0).set (nth old 0).end → Any C p q l room k lo new

-- A partial seating of all n stays that ends within the room.
abbrev pub Full : ℕ → ℕ → Partial → Type 0
Full n room a = ((j : ℕ) → j < n → In a.set j) × (a.end ≤ room)

-- The partial seating of the stay s alone, which is the list's t-th, at its window's first position.
pub record Root (p q : ℕ) (s : Stay) (t : ℕ) (b : Partial) : Type 0 where
  pub only : (j : ℕ) → held b.set j ≡ one t j
  pub last : b.last ≡ t
  pub time : b.time ≡ s.window.from
  pub ends : b.end ≡ end_of p q s s.window.from

-- The order and the times begin with the last stay of the partial seating b, and the others complete
-- it.
abbrev pub Begins : ℕ → ℕ → ℕ → List Stay → ℕ → Partial → List ℕ → List ℕ → Type 0
Begins C p q l room b [] ts = ⊥
Begins C p q l room b (o ∷ os) [] = ⊥
Begins C p q l room b (o ∷ os) (t ∷ ts) =
    (o ≡ b.last) × (t ≡ b.time) × Whole C p q l room b.set b.end os ts

-- What is read back from the place x, where a complete partial seating stands: its order and times.
abbrev pub Reads : List Partial → ℕ → List ℕ → List ℕ → Type 0
Reads ps x os ts =
    (C p q : ℕ) (l : List Stay) (room : ℕ) → Sound C p q l (length ps) ps
    → Whole C p q l room (nth ps x).set (nth ps x).end [] [] → Begins C p q l room (nth ps 0) os ts
