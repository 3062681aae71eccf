-- The round file: a header of 6 bytes, then records of 10 bytes, each followed by its note.
use Rattle.std.specs.Prelude.{◌≡◌, ℕ, ◌+◌, ◌^◌, ◌<◌, ◌≤◌, List, [], ◌∷◌, ◌++◌, length, take, drop}
use Rattle.ring.specs.Questions.{Question}
use Rattle.ring.specs.Measures.{ring_questions, pace_questions}
use Rattle.jobs.specs.Asked.{job_questions}
use Rattle.jobs.specs.declared.raw.RawDetails.{RawDetails}
use Rattle.round_file.specs.Bits.{field, packed, octets}

-- So many bytes from a place on.
abbrev pub part : List ℕ → ℕ → ℕ → List ℕ
part bs place size = take size (drop place bs)

-- The header's fields, in their order.
pub record Head : Type 0 where
  pub version : ℕ
  pub ticks : ℕ
  pub p : ℕ
  pub q : ℕ
  pub count : ℕ

-- The widths of its fields, in bits.
abbrev pub head_widths : List ℕ
head_widths = 4 ∷ 17 ∷ 10 ∷ 10 ∷ 7 ∷ []

abbrev pub head_of : List ℕ → Head
head_of bs =
    record {
      version = field bs 0 4;
      ticks = field bs 4 17;
      p = field bs 21 10;
      q = field bs 31 10;
      count = field bs 41 7;
    }

abbrev pub head_bytes : Head → List ℕ
head_bytes h = octets 6 (packed head_widths (h.version ∷ h.ticks ∷ h.p ∷ h.q ∷ h.count ∷ []))

-- Each field fits its width.
pub record HeadFits (h : Head) : Type 0 where
  pub version : h.version < 2 ^ 4
  pub ticks : h.ticks < 2 ^ 17
  pub p : h.p < 2 ^ 10
  pub q : h.q < 2 ^ 10
  pub count : h.count < 2 ^ 7

-- Every header that is written is read again.
abbrev pub HeadsExact : Type 0
HeadsExact = (h : Head) → HeadFits h → head_of (head_bytes h) ≡ h

-- What the header of a file says.
abbrev pub head_at : List ℕ → Head
head_at bs = head_of (part bs 0 6)

-- A record's fields, in their order.
pub record Fixed : Type 0 where
  pub number : ℕ
  pub kind : ℕ
  pub from : ℕ
  pub width : ℕ
  pub length : ℕ
  pub note : ℕ

abbrev pub fixed_widths : List ℕ
fixed_widths = 20 ∷ 2 ∷ 17 ∷ 17 ∷ 16 ∷ 8 ∷ []

abbrev pub fixed_of : List ℕ → Fixed
fixed_of bs =
    record {
      number = field bs 0 20;
      kind = field bs 20 2;
      from = field bs 22 17;
      width = field bs 39 17;
      length = field bs 56 16;
      note = field bs 72 8;
    }

abbrev pub fixed_bytes : Fixed → List ℕ
fixed_bytes f =
    octets 10 (packed fixed_widths (f.number ∷ f.kind ∷ f.from ∷ f.width ∷ f.length ∷ f.note ∷ []))

pub record FixedFits (f : Fixed) : Type 0 where
  pub number : f.number < 2 ^ 20
  pub kind : f.kind < 2 ^ 2
  pub from : f.from < 2 ^ 17
  pub width : f.width < 2 ^ 17
  pub length : f.length < 2 ^ 16
  pub note : f.note < 2 ^ 8

-- Every record that is written is read again.
abbrev pub RecordsExact : Type 0
RecordsExact = (f : Fixed) → FixedFits f → fixed_of (fixed_bytes f) ≡ f

-- What the record at a place says.
abbrev pub fixed_at : List ℕ → ℕ → Fixed
fixed_at bs place = fixed_of (part bs place 10)

-- Its size, with its note.
abbrev pub size_at : List ℕ → ℕ → ℕ
size_at bs place = 10 + (fixed_at bs place).note

abbrev pub details_of : Fixed → RawDetails
details_of f = record { kind = f.kind; from = f.from; width = f.width; length = f.length }

-- The header of a file, as an opened one holds it; its fields give back the file's first bytes.
pub record Opened (bs : List ℕ) (ticks p q count : ℕ) : Type 0 where
  pub ticks_is : ticks ≡ (head_at bs).ticks
  pub p_is : p ≡ (head_at bs).p
  pub q_is : q ≡ (head_at bs).q
  pub count_is : count ≡ (head_at bs).count
  pub written : head_bytes (head_at bs) ≡ part bs 0 6

-- What is asked before a file is opened: is the header there, is the version known, is the count
-- within bounds, and then the questions on a ring and on a pace.
abbrev pub head_questions : List ℕ → List Question
head_questions bs =
    (12, 6 ≤ length bs)
    ∷ (13, (head_at bs).version ≡ 1)
    ∷ (14, (head_at bs).count ≤ 64)
    ∷ (ring_questions (head_at bs).ticks ++ pace_questions (head_at bs).p (head_at bs).q)

-- What is asked of the record at a place: are all its bytes there, its note's too, and then the
-- questions on a job's numbers.
abbrev pub record_questions : ℕ → List ℕ → ℕ → List Question
record_questions ticks bs place =
    (12, place + size_at bs place ≤ length bs)
    ∷ job_questions ticks (fixed_at bs place).number (details_of (fixed_at bs place))
