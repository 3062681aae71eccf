-- Reading a file record by record.
use Rattle.std.proofs.Common.{◌≡◌, ℕ, zero, suc, ◌+◌, ◌-◌, ◌≤◌, List, [], ◌∷◌, ◌++◌, map, length, take, Some, None, Ok, Err, Option, sym, refl, ap, ◌∙◌, subst, ap₂, append_assoc, zero-add, arith}
use Rattle.std.proofs.lemmas.List.{map_push, append-nil}
use Rattle.std.specs.List.{flat_map}
use Rattle.ring.proofs.Asking.{one_number, yes_or_no}
use Rattle.jobs.proofs.Numbered.{same_kind}
use Rattle.ring.specs.Refusals.{number_of}
use Rattle.ring.specs.declared.refusals.Refusal.{Refusal}
use Rattle.round_file.specs.Format.{part, record_questions, size_at}
use Rattle.round_file.specs.Reading.{Entry, entry_bytes, told, Stands, Next}
use Rattle.round_file.specs.Listed.{Reads, stop_number}
use Rattle.round_file.specs.declared.cursors.Cursor.{Cursor}
use Rattle.round_file.specs.declared.records.Record.{Record}
use Rattle.round_file.proofs.Layouts.{cut}

-- Whatever is read from the second place on is, behind these records, read from the first on.
abbrev pub ReadsOn : ℕ → ℕ → List ℕ → Cursor → List Record → Cursor → Type 0
ReadsOn ticks count bs c0 rs c =
    (es : List Entry) (stop : Option ℕ) (end : ℕ) → Reads ticks bs (count - c.read) c.place es stop end
    → Reads ticks bs (count - c0.read) c0.place (map told rs ++ es) stop end

-- What a call of `next` adds to the records read before it.
module _ (ticks count : ℕ) (bs : List ℕ) (c0 c c' : Cursor) (rs : List Record) (before : ReadsOn ticks count bs c0 rs c) where
  pub grown : (r : Record) (more : List Record) → more ≡ rs ++ (r ∷ []) → Next ticks count bs c (Ok (Some r)) c' → ReadsOn ticks count bs c0 more c'
  grown r more is n es stop end h =
      let left : count - c.read ≡ suc (count - c'.read) = omega arith in
      let here : Reads ticks bs (count - c.read) c.place (told r ∷ es) stop end =
      subst (λ (k : ℕ). Reads ticks bs k c.place (told r ∷ es) stop end) (sym left)
      (n.1, n.2, subst (λ (p : ℕ). Reads ticks bs (count - c'.read) p es stop end) n.3 h) in
      let same : map told rs ++ (told r ∷ es) ≡ map told more ++ es =
      sym (append_assoc (map told rs) (told r ∷ []) es) ∙ ap (λ l. l ++ es) (sym (map_push told rs r) ∙ ap (λ l. map told l) (sym is)) in
      subst (λ (l : List Entry). Reads ticks bs (count - c0.read) c0.place l stop end) same (before (told r ∷ es) stop end here)

  closed : (stop : Option ℕ) → Reads ticks bs (count - c.read) c.place [] stop c'.place → Reads ticks bs (count - c0.read) c0.place (map told rs) stop c'.place
  closed stop h =
      subst (λ (l : List Entry). Reads ticks bs (count - c0.read) c0.place l stop c'.place) (append-nil (map told rs))
      (before [] stop c'.place h)

  pub ended : (s : Option Refusal) → s ≡ None → Next ticks count bs c (Ok None) c' → Reads ticks bs (count - c0.read) c0.place (map told rs) (stop_number s) c'.place
  ended s is n =
      let left : count - c.read ≡ 0 = omega arith in
      subst (λ (k : Option Refusal). Reads ticks bs (count - c0.read) c0.place (map told rs) (stop_number k) c'.place) (sym is)
      (closed None (subst (λ (k : ℕ). Reads ticks bs k c.place [] None c'.place) (sym left) (ap (λ x. x.place) n.1)))

  pub stopped : (s : Option Refusal) (r : Refusal) → s ≡ Some r → Next ticks count bs c (Err r) c' → Reads ticks bs (count - c0.read) c0.place (map told rs) (stop_number s) c'.place
  stopped s r is n =
      let left : count - c.read ≡ suc (count - (c.read + 1)) = omega arith in
      subst (λ (k : Option Refusal). Reads ticks bs (count - c0.read) c0.place (map told rs) (stop_number k) c'.place) (sym is)
      (closed (Some (number_of r)) (subst (λ (k : ℕ). Reads ticks bs k c.place [] (Some (number_of r)) c'.place) (sym left) (n.1, ap (λ x. x.place) n.2)))

-- What reading a file gives, whatever the bytes.
module _ (ticks : ℕ) (bs : List ℕ) where
  -- It ends within the file.
  pub within : (left place : ℕ) (es : List Entry) (stop : Option ℕ) (end : ℕ) → Reads ticks bs left place es stop end → place ≤ length bs → end ≤ length bs
  within zero place [] None end r h = omega arith
  within zero place [] (Some n) end r h = absurd r
  within zero place (e ∷ es) stop end r h = absurd r
  within (suc left) place [] None end r h = absurd r
  within (suc left) place [] (Some n) end r h = omega (arith, r.1)
  within (suc left) place (e ∷ es) stop end r h =
      within left (place + size_at bs place) es stop end r.2 r.0.0

  -- There are no more of them than the header counts.
  pub few : (left place : ℕ) (es : List Entry) (stop : Option ℕ) (end : ℕ) → Reads ticks bs left place es stop end → length es ≤ left
  few zero place [] stop end r = omega arith
  few zero place (e ∷ es) stop end r = absurd r
  few (suc left) place [] stop end r = omega arith
  few (suc left) place (e ∷ es) stop end r = omega (arith, few left (place + size_at bs place) es stop end r.2)

  -- The records stand in the file one after the other.
  pub written : (left place : ℕ) (es : List Entry) (stop : Option ℕ) (end : ℕ) → Reads ticks bs left place es stop end → take end bs ≡ take place bs ++ flat_map entry_bytes es
  written zero place [] None end r = ap (λ n. take n bs) r ∙ sym (append-nil (take place bs))
  written zero place [] (Some n) end r = absurd r
  written zero place (e ∷ es) stop end r = absurd r
  written (suc left) place [] None end r = absurd r
  written (suc left) place [] (Some n) end r = ap (λ n. take n bs) r.1 ∙ sym (append-nil (take place bs))
  written (suc left) place (e ∷ es) stop end r =
      written left (place + size_at bs place) es stop end r.2
      ∙ ap (λ l. l ++ flat_map entry_bytes es) (sym (cut bs 0 place (size_at bs place)) ∙ ap (λ n. take place bs ++ part bs n (size_at bs place)) (zero-add place))
      ∙ ap (λ l. (take place bs ++ l) ++ flat_map entry_bytes es) (sym r.1.written)
      ∙ append_assoc (take place bs) (entry_bytes e) (flat_map entry_bytes es)

  one_entry : (place : ℕ) (e f : Entry) → Stands bs place e → Stands bs place f → e ≡ f
  one_entry place e f a b =
      let number = a.said.number ∙ sym b.said.number in
      let kind = same_kind e.kind f.kind (a.said.kind ∙ sym b.said.kind) in
      let from = a.said.from ∙ sym b.said.from in
      let width = a.said.width ∙ sym b.said.width in
      let long = a.said.length ∙ sym b.said.length in
      let at = a.said.note_place ∙ sym b.said.note_place in
      let note = a.said.note ∙ sym b.said.note in
      λ i. record { number = number i; kind = kind i; from = from i; width = width i; length = long i; note_place = at i; note = note i }

  -- Bytes are read in one way.
  pub one_way : (left place : ℕ) (es fs : List Entry) (s t : Option ℕ) (m n : ℕ) → Reads ticks bs left place es s m → Reads ticks bs left place fs t n → (es ≡ fs) × (s ≡ t) × (m ≡ n)
  one_way zero place [] [] None None m n a b = (refl, refl, a ∙ sym b)
  one_way zero place [] [] None (Some k) m n a b = absurd b
  one_way zero place [] [] (Some k) t m n a b = absurd a
  one_way zero place [] (f ∷ fs) s t m n a b = absurd b
  one_way zero place (e ∷ es) fs s t m n a b = absurd a
  one_way (suc left) place [] [] None t m n a b = absurd a
  one_way (suc left) place [] [] (Some j) None m n a b = absurd b
  one_way (suc left) place [] [] (Some j) (Some k) m n a b =
      (refl, ap Some (one_number (record_questions ticks bs place) j k a.0 b.0), a.1 ∙ sym b.1)
  one_way (suc left) place [] (f ∷ fs) None t m n a b = absurd a
  one_way (suc left) place [] (f ∷ fs) (Some j) t m n a b = absurd (yes_or_no (record_questions ticks bs place) j b.0 a.0)
  one_way (suc left) place (e ∷ es) [] s None m n a b = absurd b
  one_way (suc left) place (e ∷ es) [] s (Some k) m n a b = absurd (yes_or_no (record_questions ticks bs place) k a.0 b.0)
  one_way (suc left) place (e ∷ es) (f ∷ fs) s t m n a b =
      let rest = one_way left (place + size_at bs place) es fs s t m n a.2 b.2 in
      (ap₂ (λ x l. x ∷ l) (one_entry place e f a.1 b.1) rest.0, rest.1, rest.2)
