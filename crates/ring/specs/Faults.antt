-- How a fault in a file is told.
use Rattle.std.specs.Prelude.{ℕ, Some, None, Option}
use Rattle.ring.specs.declared.refusals.Refusal.{Refusal}
use Rattle.ring.specs.declared.refusals.Refusal.TheVariants.{
  RingBounds,
  PaceBounds,
  NumberBounds,
  FieldBounds,
  BytesMissing,
  UnknownVersion,
  CountBounds,
  BytesLeft,
  NoMemory,
}
use Rattle.ring.specs.declared.faults.Layer.{Layer}
use Rattle.ring.specs.declared.faults.Layer.TheVariants.{File, Record}

-- The layer whose question was answered with no. Want of memory is no layer's.
abbrev pub layer_of : Refusal → Option Layer
layer_of RingBounds = Some File
layer_of PaceBounds = Some File
layer_of NumberBounds = Some Record
layer_of FieldBounds = Some Record
layer_of BytesMissing = Some File
layer_of UnknownVersion = Some File
layer_of CountBounds = Some File
layer_of BytesLeft = Some File
layer_of NoMemory = None

abbrev pub layer_number : Layer → ℕ
layer_number File = 1
layer_number Record = 2
