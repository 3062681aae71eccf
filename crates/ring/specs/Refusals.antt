-- The number of each refusal: the one definition through which refusals are promised.
use Rattle.std.specs.Prelude.{◌≡◌, ℕ}
use Rattle.ring.specs.declared.refusals.Refusal.{Refusal}
use Rattle.ring.specs.declared.refusals.Refusal.TheVariants.{
  RingBounds,
  PaceBounds,
  NumberBounds,
  FieldBounds,
  BytesMissing,
  UnknownVersion,
  CountBounds,
  BytesLeft,
  NoMemory,
}

-- Want of memory answers no question, and has 0, which is no question's number.
abbrev pub number_of : Refusal → ℕ
number_of RingBounds = 1
number_of PaceBounds = 2
number_of NumberBounds = 3
number_of FieldBounds = 4
number_of BytesMissing = 12
number_of UnknownVersion = 13
number_of CountBounds = 14
number_of BytesLeft = 16
number_of NoMemory = 0

-- A number tells the refusal.
abbrev pub ToldApart : Type 0
ToldApart = (a b : Refusal) → number_of a ≡ number_of b → a ≡ b
