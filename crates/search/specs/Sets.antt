-- Sets of stays, by their index in the list.
use Rattle.std.specs.Prelude.{◌≡◌, ℕ, ◌⊎◌}
use Rattle.std.specs.Int.{bit_at}
use Rattle.search.specs.declared.sets.StaySet.{StaySet}

-- 1 where the set has the index j, else 0.
abbrev pub held : StaySet → ℕ → ℕ
held s j = bit_at s.bits j

-- The set has the index j.
abbrev pub In : StaySet → ℕ → Type 0
In s j = held s j ≡ 1

-- The set r has what s has, and i.
abbrev pub Joined : StaySet → ℕ → StaySet → Type 0
Joined s i r = (j : ℕ) → (In r j → In s j ⊎ (j ≡ i)) × (In s j ⊎ (j ≡ i) → In r j)
