-- What stays cover on the ring, and when positions fit: by what is covered, not by an order.
--
-- Everything is counted in q-ths of a tick, round a ring of q times C of them, so that at the pace
-- p/q every end of a stay is a whole number.
use Rattle.std.specs.Prelude.{◌≡◌, ℕ, ◌+◌, ◌*◌, ◌%◌, ◌<◌, ◌≤◌, List, length, get_or, ◌≢◌, slice_index, slice_index_or}
use Rattle.placement.specs.Windows.{Holds}
use Rattle.placement.specs.Stays.{StayBounds, no_stay}
use Rattle.placement.specs.Seatings.{Plan, Lawful, kth, position_of}
use Rattle.placement.specs.Keeps.{StaysLawful, BelowTwoRings}
use Rattle.placement.specs.declared.stays.Stay.{Stay}

-- The stay at x covers the q-th k: one of the p·(lead + trail) that begin p·lead before q·x.
abbrev pub Covers : ℕ → ℕ → ℕ → Stay → ℕ → ℕ → Type 0
Covers C p q s x k =
    (i : ℕ) × (i < p * (s.lead + s.trail)) × ((k + p * s.lead) % (q * C) ≡ (q * x + i) % (q * C))

-- Two stays share a q-th.
abbrev pub Overlap : ℕ → ℕ → ℕ → Stay → ℕ → Stay → ℕ → Type 0
Overlap C p q a x b y = (k : ℕ) × Covers C p q a x k × Covers C p q b y k

-- A stay covers more than the ring.
abbrev pub OverlapsItself : ℕ → ℕ → ℕ → Stay → Type 0
OverlapsItself C p q s = q * C < p * (s.lead + s.trail)

-- The positions xs, one for each stay of the list, fit at the pace p/q: each lies in its window, no
-- two stays overlap, and none overlaps itself.
pub record Fits (C p q : ℕ) (l : List Stay) (xs : List ℕ) : Type 0 where
  pub within : (k : ℕ) → k < length l → Holds C (get_or l k no_stay).window (slice_index xs k)
  pub clear :
      (j k : ℕ) → j < length l → k < length l → (j ≢ k)
      → Overlap C p q (slice_index_or l j no_stay) (slice_index xs j) (slice_index_or l k no_stay) (slice_index xs k) → ⊥
  pub alone : (k : ℕ) → k < length l → OverlapsItself C p q (slice_index_or l k no_stay) → ⊥

-- A list of stays within bounds.
abbrev pub InBounds : ℕ → List Stay → Type 0
InBounds C l = (k : ℕ) → k < length l → StayBounds C (slice_index_or l k no_stay)

-- A position on the ring for each stay of the list.
abbrev pub OnRing : ℕ → List Stay → List ℕ → Type 0
OnRing C l xs = (length xs ≡ length l) × ((k : ℕ) → k < length l → slice_index xs k < C)

-- The seating has these positions.
abbrev pub Positions : ℕ → ℕ → Plan → List ℕ → Type 0
Positions C n s xs = (k : ℕ) → k < n → slice_index s.times k % C ≡ slice_index xs (slice_index s.order k)

-- Positions fit exactly if some lawful seating has them.
unfoldable pub PrintedRule : Type 0
PrintedRule =
    (C p q : ℕ) (l : List Stay) (xs : List ℕ) → 1 ≤ C → 1 ≤ p → 1 ≤ q → InBounds C l → OnRing C l xs
    → (Fits C p q l xs → (s : Plan) × Lawful C p q l s × Positions C (length l) s xs)
    × ((s : Plan) → Lawful C p q l s → Positions C (length l) s xs → Fits C p q l xs)

-- At most one stay of a seating covers each q-th: one rider does them all.
abbrev pub OneRider : ℕ → ℕ → ℕ → List Stay → Plan → Type 0
OneRider C p q l s =
    (i j k : ℕ) → i < length l → j < length l → Covers C p q (kth l s.order i) (slice_index s.times i) k
    → Covers C p q (kth l s.order j) (slice_index s.times j) k → i ≡ j

-- No other lawful seating of the list has the same positions.
abbrev pub Determined : ℕ → ℕ → ℕ → List Stay → Plan → Type 0
Determined C p q l s =
    InBounds C l → (u : Plan) → Lawful C p q l u
    → ((j : ℕ) → j < length l → position_of C j u ≡ position_of C j s) → u ≡ s

-- What a lawful seating gives: one rider, positions that fit and that it alone has, and that it stays
-- lawful where no more is asked.
pub record Means (C p q : ℕ) (l : List Stay) (s : Plan) : Type 0 where
  pub rider : OneRider C p q l s
  pub fits : (xs : List ℕ) → Positions C (length l) s xs → Fits C p q l xs
  pub determined : Determined C p q l s
  pub easier : StaysLawful C p q l s
  pub bounded : BelowTwoRings C s
