-- Fractions of whole numbers, p/q with q at least 1, compared by the products across.
use Rattle.std.specs.Prelude.{◌≡◌, ℕ, ◌*◌, ◌≤◌, List, ◌++◌, codes, decimal}

-- p/q is at most p'/q'.
abbrev pub AtMost : ℕ → ℕ → ℕ → ℕ → Type 0
AtMost p q p' q' = p * q' ≤ p' * q

-- No fraction of the same value has a smaller denominator.
abbrev pub Lowest : ℕ → ℕ → Type 0
Lowest p q = (p' q' : ℕ) → 1 ≤ q' → p' * q ≡ p * q' → q ≤ q'

-- n is a multiple of c.
abbrev pub Multiple : ℕ → ℕ → Type 0
Multiple n c = (k : ℕ) × (n ≡ k * c)

-- The greatest common divisor r of p and q: both are multiples of it, and wherever a multiple of p is
-- one of q, the same multiple of r is.
pub record Divisor (p q r : ℕ) : Type 0 where
  pub some : 1 ≤ r
  pub over : Multiple p r
  pub under : Multiple q r
  pub greatest : (m : ℕ) → Multiple (p * m) q → Multiple (r * m) q

-- a/b has the value of p/q, in lowest terms.
pub record Reduced (p q a b : ℕ) : Type 0 where
  pub whole : 1 ≤ b
  pub same : a * q ≡ p * b
  pub lowest : Lowest a b

-- How p/q is written.
abbrev pub text_of : ℕ → ℕ → List ℕ
text_of p q = decimal p ++ (codes "/" ++ decimal q)
