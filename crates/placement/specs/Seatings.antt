-- Seatings: an order of a list's stays and a time for each.
use Rattle.std.specs.Prelude.{◌≡◌, ℕ, suc, ◌+◌, ◌-◌, ◌*◌, ◌/◌, ◌%◌, ◌^◌, ◌<◌, cond, List, [], ◌∷◌, ◌++◌, map, length, take, drop, vec_items, ◌==◌, ◌≢◌, nat_lt, slice_index, slice_index_or, Option, MatchOption}
use Rattle.std.specs.List.{remove}
use Rattle.placement.specs.Windows.{Holds}
use Rattle.placement.specs.Stays.{Apart, no_stay}
use Rattle.placement.specs.declared.stays.Stay.{Stay}
use Rattle.placement.specs.declared.seatings.Seating.{Seating}

-- A seating as lists: the stays by their index in the list, and their times, both in the order.
pub record Plan : Type 0 where
  pub order : List ℕ
  pub times : List ℕ

abbrev pub planned : List ℕ → List ℕ → Plan
planned os ts = record { order = os; times = ts }

abbrev pub plan : Seating → Plan
plan s = planned (vec_items s.order) (vec_items s.times)

abbrev pub no_plan : Plan
no_plan = planned [] []

-- Each entry is an index below n.
abbrev pub Indexes : ℕ → List ℕ → Type 0
Indexes n os = (k : ℕ) → k < n → slice_index os k < n

-- No index stands at two places.
abbrev pub Once : ℕ → List ℕ → Type 0
Once n os = (j k : ℕ) → (j < k) × (k < n) → slice_index os j ≢ slice_index os k

-- The order holds each index below n once.
abbrev pub Order : ℕ → List ℕ → Type 0
Order n os = (length os ≡ n) × Indexes n os × Once n os

-- The stay that comes k-th in the order.
abbrev pub kth : List Stay → List ℕ → ℕ → Stay
kth l os k = slice_index_or l (slice_index os k) no_stay

-- (i) Each time lies in its stay's window.
abbrev pub InWindows : ℕ → List Stay → List ℕ → List ℕ → Type 0
InWindows C l os ts = (k : ℕ) → k < length l → Holds C (kth l os k).window (slice_index ts k)

-- (ii) Each stay is apart from the next.
abbrev pub AllApart : ℕ → ℕ → List Stay → List ℕ → List ℕ → Type 0
AllApart p q l os ts =
    (k : ℕ) → suc k < length l → Apart p q (kth l os k) (slice_index ts k) (kth l os (suc k)) (slice_index ts (suc k))

-- (iii) The last is apart from the first, whose time is taken one ring higher. A stay alone is its
-- own neighbour.
abbrev pub Closing : ℕ → ℕ → ℕ → List Stay → List ℕ → List ℕ → Type 0
Closing C p q l os ts =
    (k : ℕ) → suc k ≡ length l → Apart p q (kth l os k) (slice_index ts k) (kth l os 0) (slice_index ts 0 + C)

-- The rules of a seating, on a ring of C ticks at the pace p/q, whatever stay comes first.
unfoldable pub Seated : ℕ → ℕ → ℕ → List Stay → Plan → Type 0
Seated C p q l s =
    Order (length l) s.order × (length s.times ≡ length l) × (0 < length l → slice_index s.times 0 < C)
    × InWindows C l s.order s.times × AllApart p q l s.order s.times
    × Closing C p q l s.order s.times

-- A lawful seating of the list: the rules hold, and it begins with the list's first stay.
unfoldable pub Lawful : ℕ → ℕ → ℕ → List Stay → Plan → Type 0
Lawful C p q l s = Seated C p q l s × (slice_index s.order 0 ≡ 0)

-- The rules at the k-th place.
abbrev pub Fine : ℕ → ℕ → ℕ → List Stay → List ℕ → List ℕ → ℕ → Type 0
Fine C p q l os ts k =
    Holds C (kth l os k).window (slice_index ts k)
    × (suc k < length l → Apart p q (kth l os k) (slice_index ts k) (kth l os (suc k)) (slice_index ts (suc k)))
    × (suc k ≡ length l → Apart p q (kth l os k) (slice_index ts k) (kth l os 0) (slice_index ts 0 + C))

-- The first place of the index i in the order, or the order's length.
abbrev pub place_of : ℕ → List ℕ → ℕ
place_of i [] = 0
place_of i (o ∷ os) = cond (o == i) 0 (suc (place_of i os))

-- r is the first place of the index i in the order, nothing where it has none.
abbrev pub FirstPlace : ℕ → List ℕ → Option ℕ → Type 0
FirstPlace i os r =
    MatchOption r (place_of i os ≡ length os) (λ k. (k ≡ place_of i os) × (k < length os))

-- The time of the stay i.
abbrev pub time_of : ℕ → Plan → ℕ
time_of i s = slice_index s.times (place_of i s.order)

-- Its position: its time, round the ring.
abbrev pub position_of : ℕ → ℕ → Plan → ℕ
position_of C i s = time_of i s % C

-- A stay has a position if it stands in the order and a time stands there.
abbrev pub HasPosition : ℕ → Plan → Type 0
HasPosition i s = (place_of i s.order < length s.order) × (place_of i s.order < length s.times)

-- A list begun at its place t.
abbrev pub turned : {X : Type 0} → ℕ → List X → List X
turned t l = drop t l ++ take t l

-- Whole rings taken off, so that the first time is below C.
abbrev pub lowered : ℕ → List ℕ → List ℕ
lowered C ts = map (λ t. t - slice_index ts 0 / C * C) ts

-- Times begun at the place t: those before it come one ring later.
abbrev pub begun : ℕ → ℕ → List ℕ → List ℕ
begun C t ts = lowered C (drop t ts ++ map (λ u. u + C) (take t ts))

-- A seating begun again at the stay i.
unfoldable pub begun_again : ℕ → ℕ → Plan → Plan
begun_again C i s =
    planned (turned (place_of i s.order) s.order) (begun C (place_of i s.order) s.times)

-- The index o, once the stay i is left out of the list.
abbrev pub fallen : ℕ → ℕ → ℕ
fallen i o = cond (nat_lt i o) (o - 1) o

-- The stay i left out, later indexes one less.
unfoldable pub left_out : ℕ → Plan → Plan
left_out i s =
    record {
      order = map (fallen i) (remove s.order (place_of i s.order));
      times = remove s.times (place_of i s.order);
    }

-- A seating without the stay i, begun again at the list's first.
unfoldable pub without : ℕ → ℕ → Plan → Plan
without C i s = begun_again C 0 (left_out i s)

-- Times far below what 64 bits hold.
abbrev pub Small : List ℕ → Type 0
Small ts = (k : ℕ) → slice_index ts k < 2 ^ 62

-- A seating that can be counted with: a time for each place of the order, and none of them large.
unfoldable pub Sound : Plan → Type 0
Sound s = (length s.order ≡ length s.times) × Small s.times
