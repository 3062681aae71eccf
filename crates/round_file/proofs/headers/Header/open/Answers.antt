use Rattle.std.proofs.Common.{rules}
use Rattle.round_file.proofs.Layouts.{head_written}
use Rattle.round_file.proofs.headers.Header.open.Goals as goal

pub returns : goal.returns
returns c = (
  search rules,
  record {
    ticks_is = search rules;
    p_is = search rules;
    q_is = search rules;
    count_is = search rules;
    written = head_written c.args.bytes.now c.in_ok-fixed.fixed.now (search rules) c.field_at.ensures.octets (search rules);
  },
)
