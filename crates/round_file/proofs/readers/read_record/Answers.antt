use Rattle.std.proofs.Common.{rules}
use Rattle.round_file.specs.Reading.{told}
use Rattle.round_file.proofs.Layouts.{entry_written}
use Rattle.round_file.proofs.readers.read_record.Goals as goal

pub returns : goal.returns
returns c = (
  search rules,
  record {
    said = search rules;
    written =
        entry_written c.args.bytes.now c.args.cursor.now.place c.in_ok-take_part.field-0.now (told c.in_ok-record.record)
        (search rules) c.of-numbers.ensures.octets (search rules) (search rules);
  },
  search rules,
  search rules,
)
