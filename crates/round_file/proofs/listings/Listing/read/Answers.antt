use Rattle.std.proofs.Common.{◌≡◌, ℕ, ◌-◌, ◌≤◌, List, ◌++◌, map, length, vec_items, Option, sym, ap, ◌∙◌, subst, arith, rules}
use Rattle.std.proofs.lemmas.List.{length-map}
use Rattle.std.specs.List.{flat_map}
use Rattle.round_file.specs.Format.{head_at}
use Rattle.round_file.specs.Reading.{Begun, Entry, entry_bytes, told}
use Rattle.round_file.specs.Listed.{Reads, FileReads, Collects, Faulted, Listed, stop_number}
use Rattle.round_file.specs.declared.readers.Reader.{Reader}
use Rattle.round_file.specs.declared.listings.Collected.{Collected}
use Rattle.ring.specs.declared.faults.Fault.{Fault}
use Rattle.round_file.proofs.Layouts.{heads_exact, records_exact}
use Rattle.round_file.proofs.Lists.{few, one_way, within, written}
use Rattle.round_file.proofs.listings.Listing.read.Goals as goal

-- A reader that was opened on a file, what it gave, and where it stands then.
module _ (bs : List ℕ) (r r' : Reader) (k : Collected) (begun : Begun bs r) (gave : Collects r.header.ring.ticks r.header.count bs r.cursor k r'.cursor) where
  entries : List Entry
  entries = map told (vec_items k.records)

  from_start : FileReads bs entries (stop_number k.stop) r'.cursor.place
  unfolding entries
  from_start =
      let left : r.header.count - r.cursor.read ≡ (head_at bs).count = omega (arith, begun.opened.count_is, begun.read) in
      subst (λ (n : ℕ). Reads n bs (head_at bs).count 6 entries (stop_number k.stop) r'.cursor.place) begun.opened.ticks_is
      (subst (λ (n : ℕ). Reads r.header.ring.ticks bs n 6 entries (stop_number k.stop) r'.cursor.place) left
      (subst (λ (n : ℕ). Reads r.header.ring.ticks bs (r.header.count - r.cursor.read) n entries (stop_number k.stop) r'.cursor.place) begun.place gave.reads))

  read_few : r'.cursor.read ≤ 64
  unfolding entries
  read_few =
      let most : length (map told (vec_items k.records)) ≤ (head_at bs).count = few (head_at bs).ticks bs (head_at bs).count 6 entries (stop_number k.stop) r'.cursor.place from_start in
      omega (arith, gave.read, begun.read, length-map (vec_items k.records) told, begun.header.1.1.0)

  listed : (left : ℕ) (fault : Option Fault) → r'.header ≡ r.header → left ≡ length bs - r'.cursor.place → Faulted r'.header.count r'.cursor.read (stop_number k.stop) left fault → Listed bs (record { records = k.records; left = left; fault = fault })
  unfolding entries
  listed left fault kept is told-so =
      let t : ℕ = (head_at bs).ticks in
      let n : ℕ = (head_at bs).count in
      let inside : r'.cursor.place ≤ length bs = within t bs n 6 entries (stop_number k.stop) r'.cursor.place from_start begun.header.0 in
      let counted : r'.header.count ≡ n = ap (λ h. h.count) kept ∙ begun.opened.count_is in
      let so-many : r'.cursor.read ≡ length (vec_items k.records) = omega (arith, gave.read, begun.read) in
      record {
        header = begun.header;
        stop = stop_number k.stop;
        end = r'.cursor.place;
        reads = from_start;
        left = omega arith;
        fault =
            subst (λ (m : ℕ). Faulted m (length (vec_items k.records)) (stop_number k.stop) left fault) counted
            (subst (λ (m : ℕ). Faulted r'.header.count m (stop_number k.stop) left fault) so-many told-so);
        written =
            written t bs n 6 entries (stop_number k.stop) r'.cursor.place from_start
            ∙ ap (λ l. l ++ flat_map entry_bytes entries) (sym begun.opened.written);
        one = λ es fs s u m o a b. one_way t bs n 6 es fs s u m o a b;
        exact = (heads_exact, records_exact);
      }

pub fault_of-fault-requires : goal.fault_of-fault-requires
fault_of-fault-requires c =
    read_few c.args.bytes.now c.in_ok-reader.reader c.collect.new.reader c.in_ok-records.field-0 (search rules) (search rules)

pub returns : goal.returns
returns c =
    listed c.args.bytes.now c.in_ok-reader.reader c.collect.new.reader c.in_ok-records.field-0 (search rules) (search rules)
    c.left.result c.fault_of-fault.result (search rules) (search rules) (search rules)
