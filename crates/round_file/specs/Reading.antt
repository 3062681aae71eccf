-- What reading a round file gives.
use Rattle.std.specs.Prelude.{◌≡◌, ℕ, ◌+◌, ◌<◌, ◌≤◌, List, ◌++◌, length, Some, None, Ok, Err, Option, Result}
use Rattle.ring.specs.Questions.{AllYes, FirstNo}
use Rattle.ring.specs.Refusals.{number_of}
use Rattle.ring.specs.declared.refusals.Refusal.{Refusal}
use Rattle.jobs.specs.Kinds.{kind_number}
use Rattle.jobs.specs.declared.kinds.Kind.{Kind}
use Rattle.jobs.specs.declared.kinds.Kind.TheVariants as kinds
use Rattle.round_file.specs.Format.{fixed_at, fixed_bytes, head_questions, Opened, part, size_at, record_questions}
use Rattle.round_file.specs.declared.records.Record.{Record}
use Rattle.round_file.specs.declared.records.Record.TheVariants.{PickUp, Drop, Zone}
use Rattle.round_file.specs.declared.numbers.Numbers.{Numbers}
use Rattle.round_file.specs.declared.readers.Reader.{Reader}
use Rattle.round_file.specs.declared.cursors.Cursor.{Cursor}

-- What a record says, with its note's bytes in the place of the reference to them.
pub record Entry : Type 0 where
  pub number : ℕ
  pub kind : Kind
  pub from : ℕ
  pub width : ℕ
  pub length : ℕ
  pub note_place : ℕ
  pub note : List ℕ

abbrev pub told : Record → Entry
told (PickUp n f w l note) =
    record {
      number = n;
      kind = kinds.PickUp;
      from = f;
      width = w;
      length = l;
      note_place = note.place;
      note = note.bytes.now;
    }
told (Drop n f w l note) =
    record {
      number = n;
      kind = kinds.Drop;
      from = f;
      width = w;
      length = l;
      note_place = note.place;
      note = note.bytes.now;
    }
told (Zone n f w v note) =
    record {
      number = n;
      kind = kinds.Zone;
      from = f;
      width = w;
      length = v;
      note_place = note.place;
      note = note.bytes.now;
    }

-- How it is written.
abbrev pub entry_bytes : Entry → List ℕ
entry_bytes e =
    fixed_bytes
    (record {
      number = e.number;
      kind = kind_number e.kind;
      from = e.from;
      width = e.width;
      length = e.length;
      note = length e.note;
    })
    ++ e.note

-- Numbers and a note, made into a record.
pub record Made (n : Numbers) (note_place : ℕ) (note : List ℕ) (e : Entry) : Type 0 where
  pub number : e.number ≡ n.number
  pub kind : kind_number e.kind ≡ n.details.kind
  pub from : e.from ≡ n.details.from
  pub width : e.width ≡ n.details.width
  pub length : e.length ≡ n.details.length
  pub at : e.note_place ≡ note_place
  pub bytes : e.note ≡ note

-- The record at a place says this, and its note is the file's own bytes from ten bytes on.
pub record Said (bs : List ℕ) (place : ℕ) (e : Entry) : Type 0 where
  pub number : e.number ≡ (fixed_at bs place).number
  pub kind : kind_number e.kind ≡ (fixed_at bs place).kind
  pub from : e.from ≡ (fixed_at bs place).from
  pub width : e.width ≡ (fixed_at bs place).width
  pub length : e.length ≡ (fixed_at bs place).length
  pub note_place : e.note_place ≡ place + 10
  pub note : e.note ≡ part bs (place + 10) (fixed_at bs place).note

-- The same, and what it says gives back the record's bytes.
pub record Stands (bs : List ℕ) (place : ℕ) (e : Entry) : Type 0 where
  pub said : Said bs place e
  pub written : entry_bytes e ≡ part bs place (size_at bs place)

-- A reader of a file whose header is accepted, at its first record.
pub record Begun (bs : List ℕ) (r : Reader) : Type 0 where
  pub header : AllYes (head_questions bs)
  pub opened : Opened bs r.header.ring.ticks r.header.pace.p r.header.pace.q r.header.count
  pub bytes : r.bytes.now ≡ bs
  pub place : r.cursor.place ≡ 6
  pub read : r.cursor.read ≡ 0

-- One call of `next` on a file of so many records. Once all are read there are no more; a refusal
-- leaves the cursor as it was; an accepted record moves it to the byte after its note.
abbrev pub Next : ℕ → ℕ → List ℕ → Cursor → Result (Option Record) Refusal → Cursor → Type 0
Next ticks count bs c (Ok None) c' = (count ≤ c.read) × (c' ≡ c)
Next ticks count bs c (Ok (Some r)) c' =
    (c.read < count) × AllYes (record_questions ticks bs c.place) × Stands bs c.place (told r)
    × (c'.place ≡ c.place + size_at bs c.place) × (c'.read ≡ c.read + 1)
Next ticks count bs c (Err e) c' =
    (c.read < count) × FirstNo (record_questions ticks bs c.place) (number_of e) × (c' ≡ c)
