-- Numbers packed into bytes without gaps, most significant bit first: read, and written.
use Rattle.std.specs.Prelude.{◌≡◌, ℕ, zero, suc, ◌+◌, ◌-◌, ◌*◌, ◌/◌, ◌%◌, ◌^◌, ◌<◌, List, [], ◌∷◌, ◌++◌, length, take, drop, slice_index}

-- Bit i of the bytes.
unfoldable pub bit : List ℕ → ℕ → ℕ
bit bs i = slice_index bs (i / 8) / 2 ^ (7 - i % 8) % 2

-- The number that `width` bits write, from bit `at` on.
unfoldable pub field : List ℕ → ℕ → ℕ → ℕ
field bs at zero = 0
field bs at (suc width) = field bs at width * 2 + bit bs (at + width)

-- Fields of these widths, one after the other, from bit `at` on.
unfoldable pub fields : List ℕ → ℕ → List ℕ → List ℕ
fields bs at [] = []
fields bs at (w ∷ ws) = field bs at w ∷ fields bs (at + w) ws

-- Each is a byte.
abbrev pub Octets : List ℕ → Type 0
Octets bs = (k : ℕ) → slice_index bs k < 256

-- Writing, by itself: the last `width` binary digits of a number;
unfoldable pub digits : ℕ → ℕ → List ℕ
digits zero n = []
digits (suc width) n = digits width (n / 2) ++ (n % 2 ∷ [])

-- the digits of numbers, each in its width, one after the other;
unfoldable pub packed : List ℕ → List ℕ → List ℕ
packed [] vs = []
packed (w ∷ ws) [] = []
packed (w ∷ ws) (v ∷ vs) = digits w v ++ packed ws vs

-- the number that digits write, behind those of n;
unfoldable pub value : ℕ → List ℕ → ℕ
value n [] = n
value n (b ∷ bs) = value (n * 2 + b) bs

-- and so many bytes of eight digits each.
unfoldable pub octets : ℕ → List ℕ → List ℕ
octets zero bits = []
octets (suc n) bits = value 0 (take 8 bits) ∷ octets n (drop 8 bits)

unfoldable pub total : List ℕ → ℕ
total [] = 0
total (w ∷ ws) = w + total ws

-- Each number fits its width.
unfoldable pub Fit : List ℕ → List ℕ → Type 0
Fit [] [] = Unit {0}
Fit [] (v ∷ vs) = ⊥
Fit (w ∷ ws) [] = ⊥
Fit (w ∷ ws) (v ∷ vs) = (v < 2 ^ w) × Fit ws vs

-- What was written is read again, in any layout that fills whole bytes.
abbrev pub ReadAgain : Type 0
ReadAgain = (n : ℕ) (ws vs : List ℕ) → total ws ≡ 8 * n → Fit ws vs → fields (octets n (packed ws vs)) 0 ws ≡ vs

-- What was read gives back the bytes.
abbrev pub WrittenAgain : Type 0
WrittenAgain = (bs ws : List ℕ) → Octets bs → total ws ≡ 8 * length bs → octets (length bs) (packed ws (fields bs 0 ws)) ≡ bs
