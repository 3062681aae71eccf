-- The two laws of packing, at the layouts of a header and of a record.
use Rattle.std.proofs.Common.{◌≡◌, ℕ, ◌+◌, ◌≤◌, List, [], ◌∷◌, ◌++◌, length, get_or, take, drop, sym, refl, ap, ◌∙◌, subst, arith}
use Rattle.std.proofs.lemmas.List.{length-take-le, length-drop, take-append-drop, drop-drop, drop-take, take-take}
use Rattle.round_file.specs.Bits.{Octets, fields, total, Fit, octets, packed}
use Rattle.round_file.specs.Format.{Head, head_at, head_bytes, head_widths, HeadsExact, Fixed, fixed_at, fixed_bytes, fixed_widths, RecordsExact, part, size_at}
use Rattle.jobs.specs.Kinds.{kind_number}
use Rattle.round_file.specs.Reading.{Entry, entry_bytes, Said}
use Rattle.round_file.proofs.Packing.{read_again, written_again}

head_from : List ℕ → Head
head_from l = record { version = get_or l 0 0; ticks = get_or l 1 0; p = get_or l 2 0; q = get_or l 3 0; count = get_or l 4 0 }

fixed_from : List ℕ → Fixed
fixed_from l =
    record {
      number = get_or l 0 0;
      kind = get_or l 1 0;
      from = get_or l 2 0;
      width = get_or l 3 0;
      length = get_or l 4 0;
      note = get_or l 5 0;
    }

pub heads_exact : HeadsExact
unfolding fields total Fit head_from
heads_exact h f =
    ap head_from
    (read_again 6 head_widths (h.version ∷ h.ticks ∷ h.p ∷ h.q ∷ h.count ∷ []) refl
    (f.version, (f.ticks, (f.p, (f.q, (f.count, tt)))))
    )

pub records_exact : RecordsExact
unfolding fields total Fit fixed_from
records_exact f h =
    ap fixed_from
    (read_again 10 fixed_widths (f.number ∷ f.kind ∷ f.from ∷ f.width ∷ f.length ∷ f.note ∷ []) refl
    (h.number, (h.kind, (h.from, (h.width, (h.length, (h.note, tt))))))
    )

length_part : (bs : List ℕ) (place size : ℕ) → place + size ≤ length bs → length (part bs place size) ≡ size
length_part bs place size h = length-take-le size (drop place bs) (omega (arith, length-drop place bs))

pub head_written : (bs first : List ℕ) → first ≡ part bs 0 6 → Octets first → 6 ≤ length bs → head_bytes (head_at bs) ≡ part bs 0 6
unfolding fields total
head_written bs first is octets_first h =
    let o = subst (λ (l : List ℕ). Octets l) is octets_first in
    let size = length_part bs 0 6 (omega arith) in
    let e = written_again (part bs 0 6) head_widths o (omega (arith, size)) in
    ap (λ n. octets n (packed head_widths (fields (part bs 0 6) 0 head_widths))) (sym size) ∙ e

fixed_written : (bs : List ℕ) (place : ℕ) → Octets (part bs place 10) → place + 10 ≤ length bs → fixed_bytes (fixed_at bs place) ≡ part bs place 10
unfolding fields total
fixed_written bs place o h =
    let size = length_part bs place 10 h in
    let e = written_again (part bs place 10) fixed_widths o (omega (arith, size)) in
    ap (λ n. octets n (packed fixed_widths (fields (part bs place 10) 0 fixed_widths))) (sym size) ∙ e

-- A part, cut in two.
pub cut : (bs : List ℕ) (place a b : ℕ) → part bs place a ++ part bs (place + a) b ≡ part bs place (a + b)
cut bs place a b =
    ap (λ l. part bs place a ++ take b l) (sym (drop-drop a place bs))
    ∙ ap (λ l. l ++ take b (drop a (drop place bs))) (sym (take-take a (a + b) (drop place bs) (omega arith)))
    ∙ ap (λ l. take a (take (a + b) (drop place bs)) ++ l) (sym (drop-take a b (drop place bs)))
    ∙ take-append-drop a (take (a + b) (drop place bs))

pub entry_written : (bs : List ℕ) (place : ℕ) (first : List ℕ) (e : Entry) → first ≡ part bs place 10 → Octets first → place + size_at bs place ≤ length bs → Said bs place e → entry_bytes e ≡ part bs place (size_at bs place)
unfolding fixed_from
entry_written bs place first e is octets_first h s =
    let o = subst (λ (l : List ℕ). Octets l) is octets_first in
    let f = fixed_at bs place in
    let size : length e.note ≡ f.note = ap length s.note ∙ length_part bs (place + 10) f.note (omega arith) in
    let same : ◌≡◌ {A = List ℕ} (e.number ∷ kind_number e.kind ∷ e.from ∷ e.width ∷ e.length ∷ length e.note ∷ []) (f.number ∷ f.kind ∷ f.from ∷ f.width ∷ f.length ∷ f.note ∷ []) = cc in
    ap (λ l. fixed_bytes (fixed_from l) ++ e.note) same
    ∙ ap (λ l. l ++ e.note) (fixed_written bs place o (omega arith))
    ∙ ap (λ l. part bs place 10 ++ l) s.note
    ∙ cut bs place 10 f.note
