-- Stays put one after another, counted in ends: where a stay ends in q-ths of a tick, at the pace p/q.
use Rattle.std.specs.Prelude.{◌≡◌, ℕ, ◌+◌, ◌*◌, ◌<◌, ◌≤◌, cond, List, [], ◌∷◌, length, get_or, ◌==◌, slice_index_or}
use Rattle.placement.specs.Windows.{Holds}
use Rattle.placement.specs.Stays.{no_stay}
use Rattle.placement.specs.declared.stays.Stay.{Stay}
use Rattle.search.specs.Sets.{held}
use Rattle.search.specs.declared.sets.StaySet.{StaySet}

-- Where the stay s at the time y ends.
abbrev pub end_of : ℕ → ℕ → Stay → ℕ → ℕ
end_of p q s y = q * y + p * s.trail

-- The stay s at y comes after the end e: there is room for its lead.
abbrev pub After : ℕ → ℕ → ℕ → Stay → ℕ → Type 0
After p q e s y = e + p * s.lead ≤ q * y

-- The least time y of s that its window allows after the end e.
pub record Next (C p q e : ℕ) (s : Stay) (y : ℕ) : Type 0 where
  pub holds : Holds C s.window y
  pub after : After p q e s y
  pub least : (z : ℕ) → Holds C s.window z → After p q e s z → y ≤ z

-- It is at y that s comes next, and it ends at f, within the room.
pub record Fitted (C p q room e : ℕ) (s : Stay) (y f : ℕ) : Type 0 where
  pub next : Next C p q e s y
  pub ends : f ≡ end_of p q s y
  pub within : f ≤ room

-- After the end e, the stay s ends past the room wherever it is put.
abbrev pub Late : ℕ → ℕ → ℕ → ℕ → ℕ → Stay → Type 0
Late C p q room e s = (z : ℕ) → Holds C s.window z → After p q e s z → room < end_of p q s z

-- Another stay, which ends at b, fits before s at y, and ends sooner than s, which ends at f.
abbrev pub Waits : ℕ → ℕ → ℕ → Stay → ℕ → ℕ → Type 0
Waits p q b s y f = (b + p * s.lead ≤ q * y) × (b < f)

-- After the end e the stays js of the list at the times ts, each in its window and after the one
-- before, the last of which ends within the room.
abbrev pub Road : ℕ → ℕ → ℕ → List Stay → ℕ → ℕ → List ℕ → List ℕ → Type 0
Road C p q l room e [] [] = e ≤ room
Road C p q l room e [] (t ∷ ts) = ⊥
Road C p q l room e (j ∷ js) [] = ⊥
Road C p q l room e (j ∷ js) (t ∷ ts) =
    Holds C (get_or l j no_stay).window t × After p q e (slice_index_or l j no_stay) t
    × Road C p q l room (end_of p q (slice_index_or l j no_stay) t) js ts

-- 1 where x is j, else 0.
unfoldable pub one : ℕ → ℕ → ℕ
one x j = cond (x == j) 1 0

-- How often j stands in the list.
abbrev pub count : ℕ → List ℕ → ℕ
count j [] = 0
count j (x ∷ xs) = one x j + count j xs

-- The list js holds what the set m lacks of the indexes below n, each once, and nothing else.
abbrev pub Exact : ℕ → StaySet → List ℕ → Type 0
Exact n m js = (j : ℕ) → (j < n → held m j + count j js ≡ 1) × (n ≤ j → count j js ≡ 0)

-- A partial seating of the set m that ends at e is completed by the stays js at the times ts.
pub record Whole (C p q : ℕ) (l : List Stay) (room : ℕ) (m : StaySet) (e : ℕ) (js ts : List ℕ) : Type 0 where
  pub exact : Exact (length l) m js
  pub road : Road C p q l room e js ts

-- The room of the start t: where the last stay has to end, so that t can come again one ring later.
abbrev pub Room : ℕ → ℕ → ℕ → Stay → ℕ → Type 0
Room C p q s room = room + p * s.lead ≡ q * (s.window.from + C)
