use Rattle.std.proofs.Common.{◌≡◌, ◌+◌, ◌-◌, length, vec_items}
use Rattle.round_file.proofs.Lists.{ReadsOn}
use Rattle.round_file.proofs.listings.collect.Given as goal

abbrev pub invariant-loop-record : goal.invariant-loop-record
invariant-loop-record l =
    ReadsOn l.initial.reader.header.ring.ticks l.initial.reader.header.count l.initial.reader.bytes.now l.initial.reader.cursor (vec_items l.records) l.reader.cursor
    × (l.reader.cursor.read ≡ l.initial.reader.cursor.read + length (vec_items l.records))
    × (l.reader.header ≡ l.initial.reader.header)
    × (l.reader.bytes.now ≡ l.initial.reader.bytes.now)

abbrev pub decreases-loop-record : goal.decreases-loop-record
decreases-loop-record l = l.reader.header.count - l.reader.cursor.read
