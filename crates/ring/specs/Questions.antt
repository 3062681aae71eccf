-- How every call that may say no is promised: by the questions put to it, in their order.
use Rattle.std.specs.Prelude.{◌≡◌, ℕ, Bool, true, ◌⊎◌, List, [], ◌∷◌}

-- A question: the number by which its no is told, and what its yes says.
abbrev pub Question : Type 1
Question = ℕ × Type 0

-- Every question is answered with yes.
abbrev pub AllYes : List Question → Type 0
AllYes [] = Unit {0}
AllYes (q ∷ qs) = q.1 × AllYes qs

-- The first question, in their order, that is answered with no has the number n.
abbrev pub FirstNo : List Question → ℕ → Type 0
FirstNo [] n = ⊥
FirstNo (q ∷ qs) n = ((q.1 → ⊥) × (n ≡ q.0)) ⊎ (q.1 × FirstNo qs n)

-- No two numbers are that of the first no.
abbrev pub OneNumber : List Question → Type 0
OneNumber qs = (m n : ℕ) → FirstNo qs m → FirstNo qs n → m ≡ n

-- Where every question is answered with yes, there is no first no.
abbrev pub YesOrNo : List Question → Type 0
YesOrNo qs = (n : ℕ) → AllYes qs → FirstNo qs n → ⊥

-- Every question is answered with yes, and none with no.
pub record Granted (qs : List Question) : Type 0 where
  pub yes : AllYes qs
  pub never : (n : ℕ) → FirstNo qs n → ⊥

-- The first no has the number n and no other, and not every question is answered with yes.
pub record RefusedBy (qs : List Question) (n : ℕ) : Type 0 where
  pub no : FirstNo qs n
  pub only : (m : ℕ) → FirstNo qs m → m ≡ n
  pub never : AllYes qs → ⊥

-- The answer says whether P holds.
abbrev pub Tells : Bool → Type 0 → Type 0
Tells r P = (r ≡ true → P) × (P → r ≡ true)
