-- What stands in a whole file.
use Rattle.std.specs.Prelude.{◌≡◌, ℕ, zero, suc, ◌+◌, ◌-◌, ◌<◌, ◌⊎◌, List, [], ◌∷◌, ◌++◌, map, length, take, Some, None, vec_items, Option}
use Rattle.std.specs.List.{flat_map}
use Rattle.ring.specs.Questions.{AllYes, FirstNo}
use Rattle.ring.specs.Refusals.{number_of}
use Rattle.ring.specs.declared.refusals.Refusal.{Refusal}
use Rattle.ring.specs.declared.refusals.Refusal.TheVariants.{BytesLeft, NoMemory}
use Rattle.round_file.specs.Format.{head_at, head_bytes, head_questions, HeadsExact, RecordsExact, record_questions, size_at}
use Rattle.round_file.specs.Reading.{Entry, entry_bytes, told, Stands}
use Rattle.ring.specs.declared.faults.Fault.{Fault}
use Rattle.round_file.specs.declared.cursors.Cursor.{Cursor}
use Rattle.round_file.specs.declared.listings.Collected.{Collected}
use Rattle.round_file.specs.declared.listings.Listing.{Listing}

-- The records from a place on, `left` of them, are these. They end at `end`: all were read, or the
-- record that stands there is refused by this number.
abbrev pub Reads : ℕ → List ℕ → ℕ → ℕ → List Entry → Option ℕ → ℕ → Type 0
Reads ticks bs zero place [] None end = end ≡ place
Reads ticks bs zero place [] (Some n) end = ⊥
Reads ticks bs zero place (e ∷ es) stop end = ⊥
Reads ticks bs (suc left) place [] None end = ⊥
Reads ticks bs (suc left) place [] (Some n) end = FirstNo (record_questions ticks bs place) n × (end ≡ place)
Reads ticks bs (suc left) place (e ∷ es) stop end =
    AllYes (record_questions ticks bs place) × Stands bs place e
    × Reads ticks bs left (place + size_at bs place) es stop end

-- The whole file after its header.
abbrev pub FileReads : List ℕ → List Entry → Option ℕ → ℕ → Type 0
FileReads bs es stop end = Reads (head_at bs).ticks bs (head_at bs).count 6 es stop end

-- Bytes are read in one way.
abbrev pub OneReading : List ℕ → Type 0
OneReading bs =
    (es fs : List Entry) (s t : Option ℕ) (m n : ℕ)
    → FileReads bs es s m → FileReads bs fs t n → (es ≡ fs) × (s ≡ t) × (m ≡ n)

-- The number of the refusal at which reading stopped.
abbrev pub stop_number : Option Refusal → Option ℕ
stop_number None = None
stop_number (Some r) = Some (number_of r)

-- The fault that is told after so many of `count` records, with so many bytes unread: the first
-- refusal with its record, counted from 1, or the bytes left after the last record.
abbrev pub Faulted : ℕ → ℕ → Option ℕ → ℕ → Option Fault → Type 0
Faulted count read (Some n) left (Some f) = (f.«record» ≡ read + 1) × (number_of f.refusal ≡ n)
Faulted count read (Some n) left None = ⊥
Faulted count read None left (Some f) = (0 < left) × (f.«record» ≡ count) × (f.refusal ≡ BytesLeft)
Faulted count read None left None = left ≡ 0

-- What a reader gives from where it stands: its records and its stop, and where it stands then.
pub record Collects (ticks count : ℕ) (bs : List ℕ) (c : Cursor) (k : Collected) (c' : Cursor) : Type 0 where
  pub reads : Reads ticks bs (count - c.read) c.place (map told (vec_items k.records)) (stop_number k.stop) c'.place
  pub read : c'.read ≡ c.read + length (vec_items k.records)

-- A file whose header is accepted: its records up to the end or the first fault, which are written
-- in the file one after the other. No other records stand in these bytes, and whatever is written in
-- this layout is read again.
pub record Listed (bs : List ℕ) (l : Listing) : Type 0 where
  pub header : AllYes (head_questions bs)
  pub stop : Option ℕ
  pub end : ℕ
  pub reads : FileReads bs (map told (vec_items l.records)) stop end
  pub left : l.left + end ≡ length bs
  pub fault : Faulted (head_at bs).count (length (vec_items l.records)) stop l.left l.fault
  pub written : take end bs ≡ head_bytes (head_at bs) ++ flat_map entry_bytes (map told (vec_items l.records))
  pub one : OneReading bs
  pub exact : HeadsExact × RecordsExact

-- A file of which nothing is listed: its header is refused, or memory was wanting.
abbrev pub Unlisted : List ℕ → Fault → Type 0
Unlisted bs f =
    ((f.«record» ≡ 0) × FirstNo (head_questions bs) (number_of f.refusal)) ⊎ (f.refusal ≡ NoMemory)
