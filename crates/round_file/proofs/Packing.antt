-- Packing and reading undo each other, in any layout that fills whole bytes.
use Rattle.std.proofs.Common.{◌≡◌, ℕ, zero, suc, ◌+◌, ◌-◌, ◌*◌, ◌/◌, ◌%◌, ◌^◌, ◌<◌, ◌≤◌, List, [], ◌∷◌, ◌++◌, length, get_or, take, drop, sym, refl, ap, ◌∙◌, append_assoc, add-zero, add_assoc, add-suc, pow-suc, zero-add, arith, length-append, drop-cons}
use Rattle.std.proofs.lemmas.List.{append-nil, take_at, drop_at, take_all, length-take-le, take-append-drop}
use Rattle.std.proofs.lemmas.List.Elements.{All-append, All-cons, All-drop, All-head, All-nil, All-tail, All-take}
use Rattle.std.specs.List.{All}
use Rattle.round_file.specs.Bits.{bit, field, fields, Octets, digits, packed, value, octets, total, Fit, ReadAgain, WrittenAgain}

-- The bits from `at` on, so many.
range : List ℕ → ℕ → ℕ → List ℕ
range bs at zero = []
range bs at (suc w) = range bs at w ++ (bit bs (at + w) ∷ [])

bit_small : (bs : List ℕ) (i : ℕ) → bit bs i < 2
unfolding bit
bit_small bs i = omega arith

-- Bit i of byte k.
bit_of_byte : (bs : List ℕ) (k i : ℕ) → i < 8 → bit bs (8 * k + i) ≡ get_or bs k 0 / 2 ^ (7 - i) % 2
unfolding bit
bit_of_byte bs k i h =
    let a : (8 * k + i) / 8 ≡ k = omega arith in
    let b : (8 * k + i) % 8 ≡ i = omega arith in
    cc

bit_further : (x : ℕ) (bs : List ℕ) (i : ℕ) → bit (x ∷ bs) (8 + i) ≡ bit bs i
unfolding bit
bit_further x bs i =
    let a : (8 + i) / 8 ≡ suc (i / 8) = omega arith in
    let b : (8 + i) % 8 ≡ i % 8 = omega arith in
    ap (λ n. get_or (x ∷ bs) n 0 / 2 ^ (7 - (8 + i) % 8) % 2) a ∙ ap (λ n. get_or bs (i / 8) 0 / 2 ^ (7 - n) % 2) b

length_range : (bs : List ℕ) (at w : ℕ) → length (range bs at w) ≡ w
unfolding range
length_range bs at zero = refl
length_range bs at (suc w) = length-append (range bs at w) (bit bs (at + w) ∷ []) ∙ omega (arith, length_range bs at w)

range_add : (bs : List ℕ) (at a b : ℕ) → range bs at (a + b) ≡ range bs at a ++ range bs (at + a) b
unfolding range
range_add bs at a zero = ap (λ n. range bs at n) (add-zero a) ∙ sym (append-nil (range bs at a))
range_add bs at a (suc b) =
    ap (λ n. range bs at n) (add-suc a b)
    ∙ ap (λ l. l ++ (bit bs (at + (a + b)) ∷ [])) (range_add bs at a b)
    ∙ ap (λ n. (range bs at a ++ range bs (at + a) b) ++ (bit bs n ∷ [])) (sym (add_assoc at a b))
    ∙ append_assoc (range bs at a) (range bs (at + a) b) (bit bs (at + a + b) ∷ [])

range_further : (x : ℕ) (bs : List ℕ) (at w : ℕ) → range (x ∷ bs) (8 + at) w ≡ range bs at w
unfolding range
range_further x bs at zero = refl
range_further x bs at (suc w) =
    let a = range_further x bs at w in
    let b : bit (x ∷ bs) (8 + at + w) ≡ bit bs (at + w) = ap (λ n. bit (x ∷ bs) n) (add_assoc 8 at w) ∙ bit_further x bs (at + w) in
    cc

-- The eight bits of a byte are its digits.
range_byte : (bs : List ℕ) (k : ℕ) → range bs (8 * k) 8 ≡ digits 8 (get_or bs k 0)
unfolding range digits
range_byte bs k =
    let x : ℕ = get_or bs k 0 in
    let b0 : bit bs (8 * k + 0) ≡ x / 2 / 2 / 2 / 2 / 2 / 2 / 2 % 2 = bit_of_byte bs k 0 (omega arith) ∙ omega arith in
    let b1 : bit bs (8 * k + 1) ≡ x / 2 / 2 / 2 / 2 / 2 / 2 % 2 = bit_of_byte bs k 1 (omega arith) ∙ omega arith in
    let b2 : bit bs (8 * k + 2) ≡ x / 2 / 2 / 2 / 2 / 2 % 2 = bit_of_byte bs k 2 (omega arith) ∙ omega arith in
    let b3 : bit bs (8 * k + 3) ≡ x / 2 / 2 / 2 / 2 % 2 = bit_of_byte bs k 3 (omega arith) ∙ omega arith in
    let b4 : bit bs (8 * k + 4) ≡ x / 2 / 2 / 2 % 2 = bit_of_byte bs k 4 (omega arith) ∙ omega arith in
    let b5 : bit bs (8 * k + 5) ≡ x / 2 / 2 % 2 = bit_of_byte bs k 5 (omega arith) ∙ omega arith in
    let b6 : bit bs (8 * k + 6) ≡ x / 2 % 2 = bit_of_byte bs k 6 (omega arith) ∙ omega arith in
    let b7 : bit bs (8 * k + 7) ≡ x % 2 = bit_of_byte bs k 7 (omega arith) ∙ omega arith in
    cc

-- What digits write.
value_push : (n : ℕ) (bs : List ℕ) (b : ℕ) → value n (bs ++ (b ∷ [])) ≡ value n bs * 2 + b
unfolding value
value_push n [] b = refl
value_push n (x ∷ bs) b = value_push (n * 2 + x) bs b

value_digits : (w v : ℕ) → v < 2 ^ w → value 0 (digits w v) ≡ v
unfolding value digits
value_digits zero v h = omega arith
value_digits (suc w) v h =
    let p = pow-suc 2 w in
    let k : v / 2 < 2 ^ w = omega arith in
    value_push 0 (digits w (v / 2)) (v % 2) ∙ omega (arith, value_digits w (v / 2) k)

value_range : (bs : List ℕ) (at w : ℕ) → value 0 (range bs at w) ≡ field bs at w
unfolding range field value
value_range bs at zero = refl
value_range bs at (suc w) =
    value_push 0 (range bs at w) (bit bs (at + w)) ∙ ap (λ n. n * 2 + bit bs (at + w)) (value_range bs at w)

digits_field : (bs : List ℕ) (at w : ℕ) → digits w (field bs at w) ≡ range bs at w
unfolding range field digits
digits_field bs at zero = refl
digits_field bs at (suc w) =
    let h = bit_small bs (at + w) in
    let a : (field bs at w * 2 + bit bs (at + w)) / 2 ≡ field bs at w = omega arith in
    let b : (field bs at w * 2 + bit bs (at + w)) % 2 ≡ bit bs (at + w) = omega arith in
    let c = digits_field bs at w in
    cc

length_digits : (w v : ℕ) → length (digits w v) ≡ w
unfolding digits
length_digits zero v = refl
length_digits (suc w) v = length-append (digits w (v / 2)) (v % 2 ∷ []) ∙ omega (arith, length_digits w (v / 2))

-- Reading, then writing.
packed_fields : (bs : List ℕ) (at : ℕ) (ws : List ℕ) → packed ws (fields bs at ws) ≡ range bs at (total ws)
unfolding packed fields total range
packed_fields bs at [] = refl
packed_fields bs at (w ∷ ws) =
    let a = digits_field bs at w in
    let b = packed_fields bs (at + w) ws in
    let c = range_add bs at w (total ws) in
    cc

octets_range : (bs : List ℕ) (n k : ℕ) → Octets bs → k + n ≤ length bs → octets n (range bs (8 * k) (8 * n)) ≡ take n (drop k bs)
unfolding octets
octets_range bs zero k o h = refl
octets_range bs (suc n) k o h =
    let size : 8 * suc n ≡ 8 + 8 * n = omega arith in
    let next : 8 * k + 8 ≡ 8 * suc k = omega arith in
    let cut : range bs (8 * k) (8 * suc n) ≡ range bs (8 * k) 8 ++ range bs (8 * suc k) (8 * n) =
    ap (λ m. range bs (8 * k) m) size ∙ range_add bs (8 * k) 8 (8 * n) ∙ ap (λ m. range bs (8 * k) 8 ++ range bs m (8 * n)) next in
    let byte : value 0 (range bs (8 * k) 8) ≡ get_or bs k 0 = ap (λ l. value 0 l) (range_byte bs k) ∙ value_digits 8 (get_or bs k 0) (o k) in
    let inside : k < length bs = omega arith in
    ap (λ l. value 0 (take 8 l) ∷ octets n (drop 8 l)) cut
    ∙ ap (λ l. value 0 l ∷ octets n (drop 8 (range bs (8 * k) 8 ++ range bs (8 * suc k) (8 * n)))) (take_at (range bs (8 * k) 8) (range bs (8 * suc k) (8 * n)) 8 (length_range bs (8 * k) 8))
    ∙ ap (λ l. value 0 (range bs (8 * k) 8) ∷ octets n l) (drop_at (range bs (8 * k) 8) (range bs (8 * suc k) (8 * n)) 8 (length_range bs (8 * k) 8))
    ∙ ap (λ m. m ∷ octets n (range bs (8 * suc k) (8 * n))) byte
    ∙ ap (λ l. get_or bs k 0 ∷ l) (octets_range bs n (suc k) o (omega arith))
    ∙ ap (λ l. take (suc n) l) (sym (drop-cons bs k 0 inside))

pub written_again : WrittenAgain
written_again bs ws o t =
    ap (λ l. octets (length bs) l) (packed_fields bs 0 ws)
    ∙ ap (λ m. octets (length bs) (range bs 0 m)) t
    ∙ octets_range bs (length bs) 0 o (omega arith)
    ∙ take_all (length bs) bs (omega arith)

-- Writing, then reading.
abbrev Bin : List ℕ → Type 0
Bin bs = All (λ b. b < 2) bs

bin_digits : (w v : ℕ) → Bin (digits w v)
unfolding digits
bin_digits zero v = All-nil (λ b. b < 2)
bin_digits (suc w) v =
    All-append (λ b. b < 2) (digits w (v / 2)) (v % 2 ∷ []) (bin_digits w (v / 2)) (All-cons (λ b. b < 2) (v % 2) [] (omega arith) (All-nil (λ b. b < 2)))

bin_packed : (ws vs : List ℕ) → Bin (packed ws vs)
unfolding packed
bin_packed [] vs = All-nil (λ b. b < 2)
bin_packed (w ∷ ws) [] = All-nil (λ b. b < 2)
bin_packed (w ∷ ws) (v ∷ vs) = All-append (λ b. b < 2) (digits w v) (packed ws vs) (bin_digits w v) (bin_packed ws vs)

length_packed : (ws vs : List ℕ) → Fit ws vs → length (packed ws vs) ≡ total ws
unfolding packed total Fit
length_packed [] [] f = refl
length_packed [] (v ∷ vs) f = absurd f
length_packed (w ∷ ws) [] f = absurd f
length_packed (w ∷ ws) (v ∷ vs) f =
    length-append (digits w v) (packed ws vs) ∙ omega (arith, length_digits w v, length_packed ws vs f.1)

digits_value : (k n : ℕ) (bs : List ℕ) → Bin bs → digits (k + length bs) (value n bs) ≡ digits k n ++ bs
unfolding digits value
digits_value k n [] h = ap (λ m. digits m n) (add-zero k) ∙ sym (append-nil (digits k n))
digits_value k n (b ∷ bs) h =
    let low : b < 2 = All-head (λ x. x < 2) b bs h in
    let half : (n * 2 + b) / 2 ≡ n = omega arith in
    let last : (n * 2 + b) % 2 ≡ b = omega arith in
    let size : k + suc (length bs) ≡ suc k + length bs = omega arith in
    ap (λ m. digits m (value (n * 2 + b) bs)) size
    ∙ digits_value (suc k) (n * 2 + b) bs (All-tail (λ x. x < 2) b bs h)
    ∙ ap (λ m. (digits k m ++ ((n * 2 + b) % 2 ∷ [])) ++ bs) half
    ∙ ap (λ m. (digits k n ++ (m ∷ [])) ++ bs) last
    ∙ append_assoc (digits k n) (b ∷ []) bs

range_octets : (n : ℕ) (bits : List ℕ) → Bin bits → length bits ≡ 8 * n → range (octets n bits) 0 (8 * n) ≡ bits
unfolding octets range digits
range_octets zero [] b h = refl
range_octets zero (x ∷ bits) b h = absurd (omega (arith, h))
range_octets (suc n) bits b h =
    let x : ℕ = value 0 (take 8 bits) in
    let rest : List ℕ = octets n (drop 8 bits) in
    let size : 8 * suc n ≡ 8 + 8 * n = omega arith in
    let eight : length (take 8 bits) ≡ 8 = length-take-le 8 bits (omega arith) in
    let first : digits 8 x ≡ take 8 bits =
    ap (λ m. digits m x) (sym eight ∙ sym (zero-add (length (take 8 bits)))) ∙ digits_value 0 0 (take 8 bits) (All-take (λ b. b < 2) 8 bits b) in
    let others : length (drop 8 bits) ≡ 8 * n = omega (arith, ap length (take-append-drop 8 bits), length-append (take 8 bits) (drop 8 bits)) in
    ap (λ m. range (x ∷ rest) 0 m) size
    ∙ range_add (x ∷ rest) 0 8 (8 * n)
    ∙ ap (λ l. l ++ range (x ∷ rest) 8 (8 * n)) (range_byte (x ∷ rest) 0 ∙ first)
    ∙ ap (λ l. take 8 bits ++ l) (range_further x rest 0 (8 * n) ∙ range_octets n (drop 8 bits) (All-drop (λ b. b < 2) 8 bits b) others)
    ∙ take-append-drop 8 bits

-- Where the bits from `at` on are those of the numbers, the fields are the numbers.
fields_of : (bs : List ℕ) (at : ℕ) (ws vs : List ℕ) → Fit ws vs → range bs at (total ws) ≡ packed ws vs → fields bs at ws ≡ vs
unfolding fields packed total Fit
fields_of bs at [] [] f e = refl
fields_of bs at [] (v ∷ vs) f e = absurd f
fields_of bs at (w ∷ ws) [] f e = absurd f
fields_of bs at (w ∷ ws) (v ∷ vs) f e =
    let both : range bs at w ++ range bs (at + w) (total ws) ≡ digits w v ++ packed ws vs = sym (range_add bs at w (total ws)) ∙ e in
    let front : range bs at w ≡ digits w v =
    sym (take_at (range bs at w) (range bs (at + w) (total ws)) w (length_range bs at w)) ∙ ap (λ l. take w l) both ∙ take_at (digits w v) (packed ws vs) w (length_digits w v) in
    let back : range bs (at + w) (total ws) ≡ packed ws vs =
    sym (drop_at (range bs at w) (range bs (at + w) (total ws)) w (length_range bs at w)) ∙ ap (λ l. drop w l) both ∙ drop_at (digits w v) (packed ws vs) w (length_digits w v) in
    let here : field bs at w ≡ v = sym (value_range bs at w) ∙ ap (λ l. value 0 l) front ∙ value_digits w v f.0 in
    let there = fields_of bs (at + w) ws vs f.1 back in
    cc

pub read_again : ReadAgain
read_again n ws vs t f =
    fields_of (octets n (packed ws vs)) 0 ws vs f
    (ap (λ m. range (octets n (packed ws vs)) 0 m) t
    ∙ range_octets n (packed ws vs) (bin_packed ws vs) (length_packed ws vs f ∙ t)
    )
