-- What is kept of a seating by beginning again, leaving out, narrowing, and a smaller pace.
use Rattle.std.specs.Prelude.{◌≡◌, ℕ, suc, ◌+◌, ◌-◌, ◌*◌, ◌%◌, ◌<◌, ◌≤◌, cond, List, length, ◌≢◌, nat_lt, slice_index, slice_index_or}
use Rattle.std.specs.List.{remove}
use Rattle.placement.specs.Windows.{Holds}
use Rattle.placement.specs.Stays.{no_stay}
use Rattle.placement.specs.Seatings.{Plan, Seated, Lawful, kth, place_of, position_of, turned, fallen}
use Rattle.placement.specs.declared.stays.Stay.{Stay}

-- The times of a seating, gone on with round the ring: after the last comes the first, C higher.
abbrev pub along : ℕ → List ℕ → ℕ → ℕ
along C ts k = cond (nat_lt k (length ts)) (slice_index ts k) (slice_index ts (k - length ts) + C)

-- The seating s, begun again at the stay i: it keeps the rules and every position; the order is the
-- old one turned to begin with i; the first time is that stay's old one round the ring; and from each
-- stay to the next, and from the last to the first, the times differ as before.
pub record Begun (C p q : ℕ) (l : List Stay) (i : ℕ) (s s' : Plan) : Type 0 where
  pub seated : Seated C p q l s'
  pub begins : slice_index_or s'.order 0 0 ≡ i
  pub positions : (j : ℕ) → j < length l → position_of C j s' ≡ position_of C j s
  pub order : s'.order ≡ turned (place_of i s.order) s.order
  pub first : slice_index_or s'.times 0 0 ≡ slice_index s.times (place_of i s.order) % C
  pub steps :
      (k : ℕ) → k < length l
      → along C s'.times (suc k) + along C s.times (place_of i s.order + k)
      ≡ along C s'.times k + along C s.times (place_of i s.order + suc k)

-- The same of every list that the seating keeps the rules for, at every pace.
abbrev pub BegunAnywhere : ℕ → ℕ → Plan → Plan → Type 0
BegunAnywhere C i s s' =
    (p q : ℕ) (l : List Stay) → 1 ≤ q → Seated C p q l s → i < length l → Begun C p q l i s s'

-- The seating s without the stay i: lawful for the list without it, and every other stay keeps its
-- position.
pub record Left (C p q : ℕ) (l : List Stay) (i : ℕ) (s s' : Plan) : Type 0 where
  pub lawful : Lawful C p q (remove l i) s'
  pub positions : (j : ℕ) → j < length l → (j ≢ i) → position_of C (fallen i j) s' ≡ position_of C j s

abbrev pub LeftAnywhere : ℕ → ℕ → Plan → Plan → Type 0
LeftAnywhere C i s s' =
    (p q : ℕ) (l : List Stay) → 1 ≤ q → Seated C p q l s → i < length l → Left C p q l i s s'

-- The list l' at the pace p'/q' asks no more of the seating s than l does at p/q: the pace is no
-- greater, no lead or trail is longer, and each window holds its stay's time.
pub record Easier (C p q p' q' : ℕ) (l l' : List Stay) (s : Plan) : Type 0 where
  pub pace : p' * q ≤ p * q'
  pub long : length l' ≡ length l
  pub leads : (i : ℕ) → i < length l → (slice_index_or l' i no_stay).lead ≤ (slice_index_or l i no_stay).lead
  pub trails : (i : ℕ) → i < length l → (slice_index_or l' i no_stay).trail ≤ (slice_index_or l i no_stay).trail
  pub windows : (k : ℕ) → k < length l → Holds C (kth l' s.order k).window (slice_index s.times k)

-- What is lawful stays lawful where no more is asked.
abbrev pub StaysLawful : ℕ → ℕ → ℕ → List Stay → Plan → Type 0
StaysLawful C p q l s = (p' q' : ℕ) (l' : List Stay) → Easier C p q p' q' l l' s → Lawful C p' q' l' s

-- No time of a seating passes the first one taken a ring higher.
abbrev pub BelowTwoRings : ℕ → Plan → Type 0
BelowTwoRings C s = (k : ℕ) → slice_index s.times k < 2 * C
